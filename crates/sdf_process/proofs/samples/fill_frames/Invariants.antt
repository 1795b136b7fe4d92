use Rattle.std.proofs.Common.{◌≡◌, ℕ, ◌+◌, ◌*◌, ◌≤◌, ◌<◌, [], get_or, length, pos}
use Rattle.std.specs.Int.{w16, saturate_signed}
use Rattle.sdf_actor.specs.Wires.{lists as items_of}
use Rattle.sdf_process.proofs.samples.fill_frames.Given as goal

abbrev pub invariant-loop-channel : goal.invariant-loop-channel
invariant-loop-channel l = record {
  put : (i e : ℕ) → i < l.frames → e < l.channel → get_or l.samples (i * length l.lists + e) (pos 0) ≡
      saturate_signed w16 (get_or (get_or (items_of l.lists) e []) i (pos 0));
  silent : (i e : ℕ) → l.channel ≤ e → e < length l.lists →
      get_or l.samples (i * length l.lists + e) (pos 0) ≡ pos 0;
}
