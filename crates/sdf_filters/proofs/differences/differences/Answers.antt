use Rattle.std.proofs.Common.{rules}
use Rattle.sdf_filters.proofs.Differing.{difference_step, all_differences}
use Rattle.sdf_filters.proofs.differences.differences.Goals as goal

pub loop-place-preserved : goal.loop-place-preserved
loop-place-preserved c =
    difference_step c.args.from.now c.args.taps.now c.loop-place.left.items c.push.new.self.items
    c.loop-place.place _ _
    c.in_ok-tap.tap _ c.loop-place.invariant.0 (search rules) (search rules) (search rules) c.in_ok-tap.ensures
    c.in_ok-push.ensures.items c.loop-place.invariant.1

pub returns : goal.returns
returns c =
    all_differences c.args.from.now c.args.taps.now c.loop-place.left.items c.loop-place.place c.loop-place.invariant.0
    c.loop-place.auto.place-end c.loop-place-test.false c.loop-place.invariant.1
