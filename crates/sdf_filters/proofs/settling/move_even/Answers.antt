use Rattle.std.proofs.Common.{◌≡◌, ◌+◌, ◌*◌, ◌/◌, ap, ◌∙◌, subst, arith}
use Rattle.sdf_filters.specs.Phases.{AreMoved, weight}
use Rattle.sdf_filters.proofs.PhaseSums.{sum_moved, sum_moved_more, one_moved}
use Rattle.sdf_filters.proofs.Mirrored.{weight_middle}
use Rattle.sdf_filters.proofs.settling.move_even.Goals as goal

pub returns-else-times-eq1-clause-moves : goal.returns-else-times-eq1-clause-moves
returns-else-times-eq1-clause-moves c =
    let middle : 2 * c.args.way.phase + 1 ≡ c.args.way.up = omega (arith, c.requires.up, c.requires.phase) in
    let all : weight c.args.way.up c.args.way.phase * (c.args.times / 2) ≡ c.args.times =
    ap (λ w. w * (c.args.times / 2)) (weight_middle c.args.way.up c.args.way.phase middle) ∙ omega arith in
    sum_moved c.args.way.up c.args.way.phase c.args.way.rise c.args.times c.args.taps.now c.move_rounds.new.taps middle
    (subst (λ n. AreMoved c.args.way.up c.args.way.phase c.args.way.rise n c.args.taps.now c.move_rounds.new.taps) all
    c.in_ok-move_rounds.ensures.moves)

pub returns-in_ok-step_tap-clause-moves : goal.returns-in_ok-step_tap-clause-moves
returns-in_ok-step_tap-clause-moves c =
    let middle : 2 * c.args.way.phase + 1 ≡ c.args.way.up = omega (arith, c.requires.up, c.requires.phase) in
    let two : weight c.args.way.up c.args.way.phase * (c.args.times / 2) ≡ 2 * (c.args.times / 2) =
    ap (λ w. w * (c.args.times / 2)) (weight_middle c.args.way.up c.args.way.phase middle) in
    let all : weight c.args.way.up c.args.way.phase * (c.args.times / 2) + 1 ≡ c.args.times = omega (arith, two) in
    sum_moved_more c.args.way.up c.args.way.phase c.args.way.rise _ 1 c.args.times all c.args.taps.now
    c.move_rounds.new.taps c.step_tap.new.taps
    (sum_moved c.args.way.up c.args.way.phase c.args.way.rise _ c.args.taps.now c.move_rounds.new.taps middle
    c.in_ok-move_rounds.ensures.moves)
    (one_moved c.args.way.up c.args.way.phase c.args.way.rise c.move_rounds.new.taps c.step_tap.new.taps
    c.place_of-place.result c.place_of-place.ensures.within c.place_of-place.ensures.of c.in_ok-step_tap.ensures.moves)

pub returns-else-times-eq1-clause-symmetric : goal.returns-else-times-eq1-clause-symmetric
returns-else-times-eq1-clause-symmetric c even symmetric = c.in_ok-move_rounds.ensures.moves.symmetric symmetric

pub returns-in_ok-step_tap-clause-symmetric : goal.returns-in_ok-step_tap-clause-symmetric
returns-in_ok-step_tap-clause-symmetric c even symmetric = absurd (omega (arith, even, c.if-times-eq1.true))
