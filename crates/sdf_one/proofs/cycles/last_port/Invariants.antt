use Rattle.std.proofs.Common.{◌≡◌, ◌<◌, ◌≤◌, ℕ, slice_index}
use Rattle.sdf_one.proofs.cycles.last_port.Given as goal

abbrev pub invariant-loop-port : goal.invariant-loop-port
invariant-loop-port l = record {
  from : l.first ≤ l.last;
  still : (p : ℕ) → l.last < p → p < l.port → slice_index l.sizes (slice_index l.ports p) ≡ 0;
}
