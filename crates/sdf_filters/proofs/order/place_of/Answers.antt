use Rattle.std.proofs.Common.{arith}
use Rattle.std.proofs.lemmas.Nat.{mod-mul-add}
use Rattle.sdf_filters.proofs.Counts.{within_phases}
use Rattle.sdf_filters.proofs.order.place_of.Goals as goal

pub overflow_mul-result : goal.overflow_mul-result
overflow_mul-result c =
    omega (
      arith,
      within_phases c.args.count c.args.way.up c.args.way.phase c.args.turn c.requires.phase
          c.requires.turn,
    )

pub overflow_add-result : goal.overflow_add-result
overflow_add-result c =
    omega (
      arith,
      within_phases c.args.count c.args.way.up c.args.way.phase c.args.turn c.requires.phase
          c.requires.turn,
    )

pub returns-clause-within : goal.returns-clause-within
returns-clause-within c =
    within_phases c.args.count c.args.way.up c.args.way.phase c.args.turn c.requires.phase c.requires.turn

pub returns-clause-of : goal.returns-clause-of
returns-clause-of c = mod-mul-add c.args.turn c.args.way.up c.args.way.phase c.requires.phase
