use Rattle.std.proofs.Common.{◌≡◌, slice_index, vec_len}
use Rattle.std.specs.List.{sum_by}
use Rattle.sdf_graph.specs.Rates.{sum_to}
use Rattle.sdf_queues.specs.Sizes.{at_phase, rows_on}
use Rattle.sdf_one.proofs.setup.make_block.Given as goal

abbrev pub invariant-loop-phase : goal.invariant-loop-phase
invariant-loop-phase g l =
    vec_len l.block ≡ sum_to (λ j. sum_by (slice_index (at_phase (rows_on l.side l.sizes) j)) l.ports) l.phase
