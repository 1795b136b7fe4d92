use Rattle.std.proofs.Common.{◌≡◌, ◌≤◌, ◌+◌, ◌*◌, ◌∙◌, ℤ, pos, get_or, max, take, unsigned_abs, FitsSigned, ap, arith}
use Rattle.std.proofs.Common.{rules}
use Rattle.std.specs.Int.{w16}
use Rattle.std.proofs.lemmas.Int.{ints, to_z-of_z}
use Rattle.std.proofs.lemmas.List.{take_all}
use Rattle.sdf_kit.specs.Stretches.{weight}
use Rattle.sdf_kit.proofs.InStretches.{weight_more, max_is}
use Rattle.sdf_kit.proofs.stretches.weight.Goals as goal

pub loop-pair-preserved : goal.loop-pair-preserved
loop-pair-preserved c =
    let x : ℤ = get_or c.args.taps.now (2 * c.loop-pair.pair) (pos 0) in
    let y : ℤ = get_or c.args.taps.now (2 * c.loop-pair.pair + 1) (pos 0) in
    let x_fits : FitsSigned w16 x = search rules in
    let y_fits : FitsSigned w16 y = search rules in
    let first : c.from-first.result ≡ unsigned_abs x =
    c.from-first.ensures ∙ (c.unsigned_abs.ensures.value ∙ ap unsigned_abs (to_z-of_z w16 x x_fits)) in
    let second : c.from-second.result ≡ unsigned_abs y =
    c.from-second.ensures ∙ (c.unsigned_abs-in-loop-pair.ensures.value ∙ ap unsigned_abs (to_z-of_z w16 y y_fits)) in
    let x_small : unsigned_abs x ≤ 32768 = omega (arith, ints, x_fits.sfits) in
    let y_small : unsigned_abs y ≤ 32768 = omega (arith, ints, y_fits.sfits) in
    let largest : c.max-most.result ≡ max c.loop-pair.most (c.from-first.result + c.from-second.result) =
    c.max-most.ensures ∙ max_is c.loop-pair.most (c.from-first.result + c.from-second.result) in
    let more = weight_more c.args.taps.now c.loop-pair.pair (omega (arith, c.requires, c.loop-pair-test.true)) in
    record {
      is = omega (arith, more, first, second, c.loop-pair.invariant.is, largest);
      small = omega (arith, first, second, x_small, y_small, c.loop-pair.invariant.small, largest);
    }

pub returns-clause-is : goal.returns-clause-is
returns-clause-is c =
    let all : take (2 * c.loop-pair.pair) c.args.taps.now ≡ c.args.taps.now =
    take_all (2 * c.loop-pair.pair) c.args.taps.now (omega (arith, c.requires, c.loop-pair-test.false)) in
    c.loop-pair.invariant.is ∙ ap weight all
