use Rattle.std.proofs.Common.{◌≡◌, ◌+◌, take, slice_index, vec_len}
use Rattle.std.specs.List.{sum_by}
use Rattle.sdf_one.proofs.setup.extend_by.Given as goal

abbrev pub invariant-loop-port : goal.invariant-loop-port
invariant-loop-port g l = vec_len l.block ≡
    vec_len l.initial.block + sum_by (slice_index l.sizes) (take l.port-index l.ports)
