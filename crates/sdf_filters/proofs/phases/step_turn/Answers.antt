use Rattle.std.proofs.Common.{length, arith}
use Rattle.sdf_filters.proofs.Mirrored.{pair_moved, not_own_mirror, in_phases}
use Rattle.sdf_filters.proofs.phases.step_turn.Goals as goal

pub returns-clause-moves : goal.returns-clause-moves
returns-clause-moves c =
    let long = in_phases c.args.way.up (length c.args.taps.now) c.requires.turns.whole in
    pair_moved c.args.way.up c.args.way.phase c.args.way.rise _ c.args.taps.now c.step_tap.new.taps
    c.step_tap-2.new.taps c.place_of-place.result _ long c.place_of-place.ensures.within c.requires.turns.phase
    c.place_of-place.ensures.of (omega arith)
    (λ e. not_own_mirror c.args.way.up c.args.way.phase _ c.args.way.turns c.args.turn (length c.args.taps.now) long
    c.requires.turns.phase c.requires.turns.apart c.requires.turn (omega arith) (omega arith))
    c.in_ok-step_tap.ensures.moves c.in_ok-step_tap-2.ensures.moves
