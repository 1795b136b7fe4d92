use Rattle.std.proofs.Common.{◌≡◌, ◌≢◌, ℕ, ◌+◌, ◌*◌, ◌<◌, get_or, pos, take}
use Rattle.std.specs.Int.{w16, saturate_signed}
use Rattle.sdf_process.proofs.samples.put_samples.Given as goal

abbrev pub invariant-loop-at : goal.invariant-loop-at
invariant-loop-at l = record {
  put : (i : ℕ) → get_or l.samples (i * l.channels + l.channel) (pos 0) ≡
      saturate_signed w16 (get_or (take l.at l.list) i (pos 0));
  kept : (i e : ℕ) → e < l.channels → e ≢ l.channel →
      get_or l.samples (i * l.channels + e) (pos 0) ≡ get_or l.initial.samples (i * l.channels + e) (pos 0);
}
