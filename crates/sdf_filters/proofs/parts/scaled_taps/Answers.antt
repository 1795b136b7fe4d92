use Rattle.std.proofs.Common.{◌^◌, ◌*ℤ◌, pos, rules}
use Rattle.sdf_filters.specs.Wide.{late_tap}
use Rattle.sdf_filters.proofs.PartTaps.{value_pushed}
use Rattle.sdf_filters.proofs.parts.scaled_taps.Goals as goal

pub loop-place-preserved : goal.loop-place-preserved
loop-place-preserved c =
    value_pushed (λ n. pos (2 ^ c.args.bits) *ℤ late_tap c.args.late c.args.high.now n) c.loop-place.taps.items
    c.push.new.self.items c.loop-place.place c.in_ok-tap.tap _ c.loop-place.invariant.0 (search rules)
    c.in_ok-tap.ensures c.in_ok-push.ensures.items c.loop-place.invariant.1
