use Rattle.std.proofs.Common.{◌≡◌, ◌∙◌, ◌≤◌, ℤ, pos, get_or, unsigned_abs, FitsSigned, ap, arith, rules}
use Rattle.std.specs.Int.{w16}
use Rattle.std.proofs.lemmas.Int.{ints, to_z-of_z}
use Rattle.sdf_kit.proofs.Branching.{total_abs_more}
use Rattle.sdf_kit.proofs.branches.total.Goals as goal

pub loop-tap-preserved : goal.loop-tap-preserved
loop-tap-preserved c =
    let x : ℤ = get_or c.args.taps.now c.loop-tap.tap-index (pos 0) in
    let fits : FitsSigned w16 x = search rules in
    let value : c.from-total.result ≡ unsigned_abs x =
    c.from-total.ensures ∙ (c.unsigned_abs.ensures.value ∙ ap unsigned_abs (to_z-of_z w16 x fits)) in
    let small : unsigned_abs x ≤ 32768 = omega (arith, ints, fits.sfits) in
    let more = total_abs_more c.args.taps.now c.loop-tap.tap-index c.loop-tap-test.true in
    record {
      is = omega (arith, more, value, c.loop-tap.invariant.is);
      small = omega (arith, value, small, c.loop-tap.invariant.small);
    }
