use Rattle.std.proofs.Common.{get_or, arith}
use Rattle.sdf_graph.specs.Rates.{rates}
use Rattle.sdf_prec.specs.Numbers.{number}
use Rattle.sdf_prec.proofs.Shifts.{within_sum}
use Rattle.sdf_prec.proofs.Finals.{hu_table}
use Rattle.sdf_prec.proofs.hu.table_for.Goals as goal

pub of_rows-requires : goal.of_rows-requires
of_rows-requires c =
    let firings = c.args.inputs.now.firings.now in (
      (λ a. get_or firings a 0),
      c.in_ok-rows.ensures.valid,
      λ a. omega (arith, within_sum firings a, c.requires.inputs.few),
    )

pub returns : goal.returns
returns c =
    let inputs = c.args.inputs.now in
    hu_table (rates c.args.graph.now) (λ a. get_or inputs.firings.now a 0) (λ a. get_or inputs.costs.now a 0)
    (number inputs.levels.now) c.args.width inputs.homed c.in_ok-rows.rows.rows c.in_ok-table.table
    c.in_ok-rows.ensures.rows c.in_ok-rows.ensures.valid c.in_ok-table.ensures.rows c.in_ok-table.ensures.exact
    (λ f of. c.requires.levels.each f (omega (arith, of.0, c.requires.inputs.firings_all), of.1))
