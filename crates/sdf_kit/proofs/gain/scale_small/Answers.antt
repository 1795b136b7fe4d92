use Rattle.std.proofs.Common.{◌≡◌, ◌≤◌, ◌*ℤ◌, ◌∙◌, FitsSigned, ap, of_z, subst, sym, to_z, unsigned_abs, w32, ℤ, arith}
use Rattle.std.specs.Int.{w16}
use Rattle.std.proofs.lemmas.Int.{fits_signed_from_abs, to_z-of_z}
use Rattle.sdf_kit.specs.Samples.{rescaled}
use Rattle.sdf_kit.proofs.Settling.{fits_wider}
use Rattle.sdf_kit.proofs.gain.scale_small.Goals as goal

-- no step wraps
product_is : (sample gain : ℤ) → FitsSigned w32 sample → unsigned_abs (sample *ℤ gain) ≤ 2147467263 →
    FitsSigned w16 gain →
    to_z w32 (of_z w32 (to_z w32 (of_z w32 sample) *ℤ to_z w32 (of_z w32 gain))) ≡ sample *ℤ gain
product_is sample gain fits small f =
    let left : to_z w32 (of_z w32 sample) ≡ sample = to_z-of_z w32 sample fits in
    let right : to_z w32 (of_z w32 gain) ≡ gain = to_z-of_z w32 gain (fits_wider gain f) in
    rw (left, right) (to_z-of_z w32 (sample *ℤ gain) (fits_signed_from_abs w32 (sample *ℤ gain) (omega arith)))

pub rescale_small-requires-clause-small : goal.rescale_small-requires-clause-small
rescale_small-requires-clause-small c =
    subst (λ z. unsigned_abs z ≤ 2147467263)
    (sym (product_is c.args.sample c.args.gain c.ranges.sample c.requires.small c.requires.gain)) c.requires.small

pub returns : goal.returns
returns c =
    to_z-of_z w32 c.rescale_small.result (record { sfits = c.rescale_small.type_inv })
    ∙ (c.rescale_small.ensures ∙ ap (λ z. rescaled z c.args.shift)
    (product_is c.args.sample c.args.gain c.ranges.sample c.requires.small c.requires.gain))
