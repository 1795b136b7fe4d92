use Rattle.std.proofs.Common.{◌+◌, ◌/◌, ◌%◌, length, refl, ap, ◌∙◌, arith}
use Rattle.sdf_filters.proofs.PhaseSums.{moved_none, moved_more}
use Rattle.sdf_filters.proofs.Mirrored.{middle_moved, in_phases, middle_phase}
use Rattle.sdf_filters.proofs.settling.move_middle.Goals as goal

pub loop-init : goal.loop-init
loop-init c = moved_none c.args.up (c.args.up / 2) c.args.rise c.args.taps.now

pub loop-preserved : goal.loop-preserved
loop-preserved c =
    let same = c.loop.invariant.all in
    moved_more c.args.up (c.args.up / 2) c.args.rise c.loop.counter 1 (c.loop.counter + 1) refl c.args.taps.now
    c.loop.taps c.step_tap.new.taps c.loop.invariant
    (middle_moved c.args.up (c.args.up / 2) c.args.rise c.loop.taps c.step_tap.new.taps (length c.loop.taps / 2)
    (omega (arith, same, c.requires.middle)) (omega (arith, same, c.requires.middle))
    (middle_phase c.args.up (length c.loop.taps / c.args.up) (length c.loop.taps) c.requires.odd
    (omega (arith, same, c.requires.middle))
    (in_phases c.args.up (length c.loop.taps) (ap (λ n. n % c.args.up) same ∙ c.requires.whole)))
    c.in_ok-step_tap.ensures.moves)
