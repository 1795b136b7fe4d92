use Rattle.std.proofs.Common.{◌≡◌, ◌∙◌, pos, ◌+ℤ◌, ◌*ℤ◌, to_z, of_z, ap, ℤ, w32, w64, FitsSigned, arith}
use Rattle.std.proofs.lemmas.Int.{ints, to_z-of_z}
use Rattle.sdf_kit.specs.Samples.{rescaled}
use Rattle.sdf_kit.proofs.window.join.Goals as goal

sum_is : (a b : ℤ) → FitsSigned w32 a → FitsSigned w32 b →
    to_z w64 (of_z w64 (to_z w64 (of_z w64 (pos 256 *ℤ to_z w64 (of_z w64 a))) +ℤ to_z w64 (of_z w64 b))) ≡
    (pos 256 *ℤ a) +ℤ b
sum_is a b f g = omega (arith, ints, f.sfits, g.sfits)

pub returns : goal.returns
returns c =
    let high : c.from.result ≡ c.args.high = c.from.ensures ∙ to_z-of_z w32 c.args.high c.ranges.high in
    let low : c.from-2.result ≡ c.args.low = c.from-2.ensures ∙ to_z-of_z w32 c.args.low c.ranges.low in
    let fits : FitsSigned w32 c.rescale.result = record { sfits = c.rescale.type_inv } in
    to_z-of_z w32 c.rescale.result fits ∙ (rw (high, low) at c.rescale.ensures
    ∙ ap (λ z. rescaled z c.args.shift) (sum_is c.args.high c.args.low c.ranges.high c.ranges.low))
