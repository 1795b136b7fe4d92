-- The upper and the lower half of lanes.
use Rattle.std.proofs.Common.{◌≡◌, ℕ, zero, suc, ◌%◌, ℤ, pos, negsuc, ◌-ℤ◌, ◌*ℤ◌, List, [], ◌∷◌, map, length}
use Rattle.std.proofs.Common.{replicate, of_z, to_z, w32, FitsSigned, refl, ap, subst, ◌∙◌, arith}
use Rattle.std.specs.Int.{int_shr}
use Rattle.std.specs.Simd.Lanes.{zip2, Each1}
use Rattle.std.proofs.lemmas.Int.{ints, to_z-of_z, to_z_pos}
use Rattle.std.proofs.lemmas.Nat.{and_mask}
use Rattle.std.proofs.lemmas.List.{length-map}
use Rattle.sdf_kit.specs.Dots.{AreLanes}
use borrow.Rule.Simd.Lanes.{act2}
use borrow.Table.Row.{s_int}
use mir.Syntax.{signed, shr, bit_and as and_op}

abbrev pub upper_lane : ℕ → ℕ → ℕ
upper_lane = act2 (shr signed) (s_int w32) (s_int w32) (s_int w32)

abbrev lower_lane : ℕ → ℕ → ℕ
lower_lane = act2 and_op (s_int w32) (s_int w32) (s_int w32)

lower_value : (x : ℤ) → FitsSigned w32 x → pos (of_z w32 x % 65536) ≡ x -ℤ (pos 65536 *ℤ int_shr x 16)
lower_value (pos n) f = omega (arith, ints, f.sfits)
lower_value (negsuc n) f = omega (arith, ints, f.sfits)

upper_fits : (x : ℤ) → FitsSigned w32 x → FitsSigned w32 (int_shr x 16)
upper_fits (pos n) f = record { sfits = omega (arith, f.sfits) }
upper_fits (negsuc n) f = record { sfits = omega (arith, f.sfits) }

lower_fits : (x : ℤ) → FitsSigned w32 x → FitsSigned w32 (x -ℤ (pos 65536 *ℤ int_shr x 16))
lower_fits x f = subst (FitsSigned w32) (lower_value x f) (record { sfits = omega arith })

all_fit : (f : ℤ → ℤ) → ((x : ℤ) → FitsSigned w32 x → FitsSigned w32 (f x)) → (a : List ℤ) → Each1 (FitsSigned w32) a →
    Each1 (FitsSigned w32) (map f a)
all_fit f each [] fits = tt
all_fit f each (x ∷ a) fits = (each x fits.0, all_fit f each a fits.1)

pub upper_lanes : (a : List ℤ) → AreLanes w32 8 a → AreLanes w32 8 (map (λ x. int_shr x 16) a)
upper_lanes a l = record {
  many = length-map a (λ x. int_shr x 16) ∙ l.many;
  fits = all_fit (λ x. int_shr x 16) upper_fits a l.fits;
}

pub lower_lanes : (a : List ℤ) → AreLanes w32 8 a → AreLanes w32 8 (map (λ x. x -ℤ (pos 65536 *ℤ int_shr x 16)) a)
lower_lanes a l = record {
  many = length-map a (λ x. x -ℤ (pos 65536 *ℤ int_shr x 16)) ∙ l.many;
  fits = all_fit (λ x. x -ℤ (pos 65536 *ℤ int_shr x 16)) lower_fits a l.fits;
}

upper_one : (x : ℤ) → FitsSigned w32 x → to_z w32 (upper_lane (of_z w32 x) 16) ≡ int_shr x 16
upper_one x f =
    let same : to_z w32 (of_z w32 x) ≡ x = to_z-of_z w32 x f in
    rw same (to_z-of_z w32 (int_shr x 16) (upper_fits x f))

lower_one : (x : ℤ) → FitsSigned w32 x → to_z w32 (lower_lane (of_z w32 x) 65535) ≡ x -ℤ (pos 65536 *ℤ int_shr x 16)
lower_one x f =
    ap (to_z w32) (and_mask (of_z w32 x) 16) ∙ (to_z_pos w32 (of_z w32 x % 65536) (omega arith) ∙ lower_value x f)

pub upper_is : (n : ℕ) (a : List ℤ) → length a ≡ n → Each1 (FitsSigned w32) a →
    map (to_z w32) (zip2 upper_lane (map (of_z w32) a) (replicate n 16)) ≡ map (λ x. int_shr x 16) a
upper_is n [] e f = refl
upper_is zero (x ∷ a) e f = absurd (omega (arith, e))
upper_is (suc n) (x ∷ a) e f =
    let first = upper_one x f.0 in
    let rest = upper_is n a (omega (arith, e)) f.1 in
    rw (first, rest) refl

pub lower_is : (n : ℕ) (a : List ℤ) → length a ≡ n → Each1 (FitsSigned w32) a →
    map (to_z w32) (zip2 lower_lane (map (of_z w32) a) (replicate n 65535)) ≡
    map (λ x. x -ℤ (pos 65536 *ℤ int_shr x 16)) a
lower_is n [] e f = refl
lower_is zero (x ∷ a) e f = absurd (omega (arith, e))
lower_is (suc n) (x ∷ a) e f =
    let first = lower_one x f.0 in
    let rest = lower_is n a (omega (arith, e)) f.1 in
    rw (first, rest) refl
