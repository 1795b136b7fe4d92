use Rattle.std.proofs.Common.{◌≡◌, ◌<◌, ◌≤◌, ℕ, length, slice_index}
use Rattle.sdf_rings.proofs.setup.openings.greatest.Given as goal

abbrev pub invariant-loop-number : goal.invariant-loop-number
invariant-loop-number l = record {
  above : (i : ℕ) → i < l.number-index → slice_index l.numbers i ≤ l.greatest;
  reached : (i : ℕ) × (i < length l.numbers) × (slice_index l.numbers i ≡ l.greatest);
}
