use Rattle.std.proofs.Common.{get_or, arith}
use Rattle.sdf_graph.specs.Rates.{rates}
use Rattle.sdf_prec.specs.Blocks.{block}
use Rattle.sdf_times.proofs.Caps.{rows_small}
use Rattle.sdf_times.proofs.Cells.{are_cells, cell_is}
use Rattle.sdf_times.proofs.rows.by_rows.Goals as goal

pub greatest_cost-time-requires : goal.greatest_cost-time-requires
greatest_cost-time-requires c =
    let b = c.requires.table.1 in
    let cells = are_cells (rates c.args.graph.now) (λ a. get_or (block b.periods b.reps) a 0) c.args.table.now.rows
    b.table.valid in
    λ j f e. omega (
      arith,
      (cells.known c.loop-i.i j f (cell_is c.args.table.now.rows c.row.result.now c.loop-i.i j f c.row.ensures e)).0,
      c.requires.costs.all,
    )

pub overflow_add-time : goal.overflow_add-time
overflow_add-time c = omega (
  arith,
  c.loop-i.invariant.small,
  c.greatest_cost-time.ensures.small,
  rows_small (rates c.args.graph.now) c.requires.table.0 c.args.table.now c.requires.table.1,
  c.loop-i-test.true,
)
