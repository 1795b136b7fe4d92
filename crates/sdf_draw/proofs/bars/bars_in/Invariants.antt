use Rattle.std.proofs.Common.{◌≡◌}
use Rattle.std.specs.Prelude.{slice_index}
use Rattle.sdf_times.specs.Times.{start_in}
use Rattle.sdf_draw.specs.Bars.{bar_of, bars_to}
use Rattle.sdf_draw.proofs.bars.bars_in.Given as goal

abbrev pub invariant-loop-i : goal.invariant-loop-i
invariant-loop-i l = l.bars.items ≡ bars_to l.joined
    (bar_of (slice_index l.costs) (start_in l.figures.starts)) l.table.rows l.column l.i
