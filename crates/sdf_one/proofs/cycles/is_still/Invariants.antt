use Rattle.std.proofs.Common.{◌≡◌, ◌<◌, ℕ, slice_index}
use Rattle.sdf_one.proofs.cycles.is_still.Given as goal

abbrev pub invariant-loop-port : goal.invariant-loop-port
invariant-loop-port l = (p : ℕ) → p < l.end → p < l.port → slice_index l.sizes (slice_index l.ports p) ≡ 0
