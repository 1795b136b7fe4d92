use Rattle.std.proofs.Common.{◌≡◌, ℕ, ◌+◌, ◌-◌, ◌*◌, ◌/◌, length, sym, ap, subst, arith}
use Rattle.sdf_filters.specs.Phases.{AreMoved, weight}
use Rattle.sdf_filters.proofs.PhaseSums.{moved_more}
use Rattle.sdf_filters.proofs.Mirrored.{weight_middle, odd_product, in_phases}
use Rattle.sdf_filters.proofs.settling.move_odd.Goals as goal

pub move_middle-requires-clause-middle : goal.move_middle-requires-clause-middle
move_middle-requires-clause-middle c =
    odd_product c.args.way.up (length c.args.taps.now / c.args.way.up) (length c.args.taps.now) c.requires.up
    c.requires.odd (in_phases c.args.way.up (length c.args.taps.now) c.requires.whole)

pub returns-in_ok-move_rounds-clause-moves : goal.returns-in_ok-move_rounds-clause-moves
returns-in_ok-move_rounds-clause-moves c =
    let middle : 2 * c.args.way.phase + 1 ≡ c.args.way.up = omega (arith, c.requires.up, c.requires.phase) in
    let first : ℕ = c.middle_times-first.result in
    let two : weight c.args.way.up c.args.way.phase * ((c.args.times - c.middle_times-first.result) / 2)
    ≡ 2 * ((c.args.times - c.middle_times-first.result) / 2) =
    ap (λ w. w * ((c.args.times - c.middle_times-first.result) / 2))
    (weight_middle c.args.way.up c.args.way.phase middle) in
    let all : c.middle_times-first.result
    + weight c.args.way.up c.args.way.phase * ((c.args.times - c.middle_times-first.result) / 2) ≡ c.args.times =
    omega (arith, two, c.middle_times-first.ensures.few, c.middle_times-first.ensures.even) in
    moved_more c.args.way.up c.args.way.phase c.args.way.rise c.middle_times-first.result _ c.args.times all
    c.args.taps.now c.move_middle.new.taps c.move_rounds.new.taps
    (subst (λ p. AreMoved c.args.way.up p c.args.way.rise c.middle_times-first.result c.args.taps.now
    c.move_middle.new.taps) (sym c.requires.phase) c.in_ok-move_middle.ensures.moves)
    c.in_ok-move_rounds.ensures.moves
