use Rattle.std.proofs.Common.{get_or, arith}
use Rattle.sdf_graph.specs.Rates.{rates}
use Rattle.sdf_prec.specs.Blocks.{block}
use Rattle.sdf_times.proofs.Cells.{are_cells}
use Rattle.sdf_times.proofs.Spans.{block_length}
use Rattle.sdf_times.proofs.schedules.schedule_in_time.Goals as goal

pub columns_in_turn-requires-clause-has : goal.columns_in_turn-requires-clause-has
columns_in_turn-requires-clause-has c =
    let d = c.requires.tried in
    let cells = are_cells (rates c.args.graph.now) (λ a. get_or (block d.periods d.reps) a 0) c.args.table.now.rows
    d.run.table.valid in
    λ i j f e.
    let of = cells.known i j f e in
    let is = d.full.each f.actor (omega (arith, of.0, block_length d.periods d.reps, d.run.period.all)) in
    omega (arith, of.1, is)

pub columns_in_turn-requires-clause-known : goal.columns_in_turn-requires-clause-known
columns_in_turn-requires-clause-known c =
    let d = c.requires.tried in
    let cells = are_cells (rates c.args.graph.now) (λ a. get_or (block d.periods d.reps) a 0) c.args.table.now.rows
    d.run.table.valid in
    λ i j f e. omega (arith, (cells.known i j f e).0, d.run.costs_are.all)
