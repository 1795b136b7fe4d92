use Rattle.std.proofs.Common.{◌≡◌, length, arith}
use Rattle.sdf_draw.specs.Layouts.{right_of}
use Rattle.sdf_draw.proofs.Lowest.{greatest_within}
use Rattle.sdf_draw.proofs.layout.Layout.right.Goals as goal

pub returns-clause-within : goal.returns-clause-within
returns-clause-within c = λ a low.
    let end : c.loop-place.place-index ≡ length c.args.self.now.places.items =
    omega (arith, c.loop-place-test.false, c.loop-place.auto.place-index-end) in
    let within = greatest_within right_of c.args.self.now.places.items c.loop-place.place-index a (omega (arith, end))
    (omega (arith, end)) in
    let is = c.loop-place.invariant.is in omega (arith, within, is)
