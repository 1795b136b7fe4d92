use Rattle.std.proofs.Common.{◌≡◌, ℕ, ℤ, ◌+◌, ◌+ℤ◌, pos, get_or, FitsSigned, w32, w64, ap, sym, ◌∙◌, rules, arith}
use Rattle.std.proofs.lemmas.Int.{to_z-of_z}
use Rattle.sdf_kit.specs.Samples.{sample, saturated, sum_below}
use Rattle.sdf_kit.proofs.Sums.{sum_of_part, two_below}
use Rattle.sdf_kit.proofs.add.sum_from.Goals as goal

pub returns-then-many-eq2 : goal.returns-then-many-eq2
unfolding saturated
returns-then-many-eq2 c =
    let xs = c.args.samples.now in
    let at : ℕ = c.args.at in
    let x : ℤ = get_or xs at (pos 0) in
    let y : ℤ = get_or xs (at + 1) (pos 0) in
    let x_fits : FitsSigned w32 x = search rules in
    let y_fits : FitsSigned w32 y = search rules in
    let fits : FitsSigned w32 c.saturating_add.result = search rules in
    let first : at + 0 ≡ at = omega arith in
    let all : sum_below c.args.many (λ q. sample xs (at + q)) ≡ x +ℤ y =
    ap (λ n. sum_below n (λ q. sample xs (at + q))) c.if-many-eq2.true
    ∙ (two_below (λ q. sample xs (at + q)) ∙ ap (λ n. sample xs n +ℤ y) first) in
    to_z-of_z w32 c.saturating_add.result fits ∙ (c.saturating_add.ensures
    ∙ ap saturated ((λ k. to_z-of_z w32 x x_fits k +ℤ to_z-of_z w32 y y_fits k) ∙ sym all))

pub returns-else-many-eq2 : goal.returns-else-many-eq2
returns-else-many-eq2 c =
    let fits : FitsSigned w32 c.saturate.result = search rules in
    let wide : FitsSigned w64 c.sum.result = search rules in
    to_z-of_z w32 c.saturate.result fits ∙ (c.saturate.ensures
    ∙ ap saturated (to_z-of_z w64 c.sum.result wide
    ∙ (c.sum.ensures ∙ sum_of_part c.args.samples.now c.args.at c.args.many c.requires.room)))
