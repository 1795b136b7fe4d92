use Rattle.std.proofs.Common.{◌≡◌, ◌∙◌, ◌*◌, ◌≤◌, ℕ, ℤ, ◌*ℤ◌, pos, get_or, unsigned_abs, of_z, to_z, w32, ap, refl}
use Rattle.std.proofs.Common.{subst, arith}
use Rattle.std.proofs.lemmas.Bool.{leb-true}
use Rattle.std.proofs.lemmas.Int.{to_z-of_z, unsigned_abs-mul}
use Rattle.std.proofs.Math.Nat.{mul-le-mul_right}
use Rattle.sdf_kit.proofs.Settling.{fits_wider}
use Rattle.sdf_kit.proofs.gain.Gain.are_small.Goals as goal

-- a sample within a peak that the gain allows
product_small : (sample gain : ℤ) (peak : ℕ) → unsigned_abs sample ≤ peak → peak * unsigned_abs gain ≤ 2147467263 →
    unsigned_abs (sample *ℤ gain) ≤ 2147467263
product_small sample gain peak within room =
    let parts : unsigned_abs (sample *ℤ gain) ≡ unsigned_abs sample * unsigned_abs gain =
    unsigned_abs-mul sample gain in
    let low : unsigned_abs sample * unsigned_abs gain ≤ peak * unsigned_abs gain =
    mul-le-mul_right (unsigned_abs gain) within in
    omega arith

pub returns : goal.returns
returns c = λ e k l.
    let gain : ℤ = c.self.inside.gain in
    let same : to_z w32 (of_z w32 gain) ≡ gain = to_z-of_z w32 gain (fits_wider gain c.self.invariant.gain) in
    let within = c.max_abs.ensures k l in
    let factor : c.from-2.result ≡ unsigned_abs gain =
    c.from-2.ensures ∙ (c.unsigned_abs.ensures.value ∙ ap unsigned_abs same) in
    let product : c.from.result * c.from-2.result ≡ c.max_abs.result * unsigned_abs gain =
    rw (c.from.ensures, factor) refl in
    subst (λ g. unsigned_abs (get_or c.args.taken.now k (pos 0) *ℤ g.gain) ≤ 2147467263) c.self.view_is
    (product_small (get_or c.args.taken.now k (pos 0)) gain c.max_abs.result within
    (omega (arith, leb-true (c.from.result * c.from-2.result) c.from-3.result e, product, c.from-3.ensures)))
