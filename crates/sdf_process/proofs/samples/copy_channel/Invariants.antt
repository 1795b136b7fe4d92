use Rattle.std.proofs.Common.{◌≡◌, ℕ, ◌+◌, ◌*◌, ◌≤◌, ◌<◌, get_or, pos}
use Rattle.sdf_process.proofs.samples.copy_channel.Given as goal

abbrev pub invariant-loop-at : goal.invariant-loop-at
invariant-loop-at l = record {
  copied : (i : ℕ) → i < l.at → get_or l.list i (pos 0) ≡ get_or l.samples (l.start + i * l.channels) (pos 0);
  kept : (i : ℕ) → l.at ≤ i → get_or l.list i (pos 0) ≡ get_or l.initial.list i (pos 0);
}
