use Rattle.std.proofs.Common.{◌∙◌, pos, get_or, ap, ◌+ℤ◌, ◌-ℤ◌, ◌*ℤ◌}
use Rattle.std.specs.Int.{int_shr}
use Rattle.sdf_kit.specs.Dots.{wrap}
use Rattle.sdf_kit.proofs.CarriedSums.{plus_lanes, plus_at, half_at}
use Rattle.sdf_kit.proofs.carries.carry.Goals as goal

pub returns-clause-high_lanes : goal.returns-clause-high_lanes
returns-clause-high_lanes c =
    plus_lanes c.args.carried.high c.upper.result c.plus.result c.requires.high c.upper.ensures.lanes c.plus.ensures

pub returns-clause-low_lanes : goal.returns-clause-low_lanes
returns-clause-low_lanes c =
    plus_lanes c.args.carried.low c.lower.result c.plus-2.result c.requires.low c.lower.ensures.lanes c.plus-2.ensures

pub returns-clause-high : goal.returns-clause-high
returns-clause-high c l low =
    plus_at c.args.carried.high c.upper.result c.plus.result c.requires.high c.upper.ensures.lanes c.plus.ensures l low
    ∙ ap (λ z. wrap (get_or c.args.carried.high l (pos 0) +ℤ z))
    (half_at (λ x. int_shr x 16) c.args.sums c.upper.result l c.requires.sums c.upper.ensures.value low)

pub returns-clause-low : goal.returns-clause-low
returns-clause-low c l low =
    plus_at c.args.carried.low c.lower.result c.plus-2.result c.requires.low c.lower.ensures.lanes
    c.plus-2.ensures l low
    ∙ ap (λ z. wrap (get_or c.args.carried.low l (pos 0) +ℤ z))
    (half_at (λ x. x -ℤ (pos 65536 *ℤ int_shr x 16)) c.args.sums c.lower.result l c.requires.sums
    c.lower.ensures.value low)
