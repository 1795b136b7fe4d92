-- The limits of a document's lists are those of the kit.
use Rattle.std.proofs.Common.{◌≡◌, ◌∙◌, Bool, true, false, ℕ, ℤ, pos, negsuc, List, [], ◌∷◌, refl, sym, ap, arith, ◌≤◌}
use Rattle.std.proofs.Common.{Ok}
use Rattle.std.specs.Prelude.{◌&&◌, nat_le, IsTrue, length}
use Rattle.std.specs.List.{list_all}
use Rattle.std.proofs.Math.Dec.{leb-suc-suc}
use Rattle.sdf_kinds.specs.declared.row.Width.TheVariants as width
use Rattle.sdf_document.specs.Lists.{fits, is_list}
use Rattle.std.proofs.lemmas.Bool.Decides.{leb_tells}
use Rattle.sdf_kit.specs.Fault.{has_16_bits, is_between}
use Rattle.sdf_kit.specs.Fir.{filter_of}
use Rattle.sdf_kit.specs.Kit.{kit_of}
use Rattle.sdf_limits.specs.declared.TheConstants.{MAX_FACTOR, MAX_SHIFT, MAX_TAPS}
use Rattle.sdf_kit.specs.declared.kit.Kit.TheVariants as kits

and_true : (b : Bool) → (b && true) ≡ b
and_true true = refl
and_true false = refl

second : (a b : Bool) → (a && b) ≡ true → b ≡ true
second true b h = h
second false true h = refl
second false false h = h

tap_has_16_bits : (z : ℤ) → fits width.Bits16 z ≡ has_16_bits z
tap_has_16_bits (pos n) = sym (leb-suc-suc n 32767)
tap_has_16_bits (negsuc n) = and_true (nat_le n 32767) ∙ sym (leb-suc-suc n 32767)

same_test : (zs : List ℤ) → list_all (fits width.Bits16) zs ≡ list_all has_16_bits zs
same_test [] = refl
same_test (z ∷ zs) = ap (λ b. b && list_all (fits width.Bits16) zs) (tap_has_16_bits z)
    ∙ ap (λ b. has_16_bits z && b) (same_test zs)

taps_pass : (zs : List ℤ) → IsTrue (is_list MAX_TAPS width.Bits16 zs) → list_all has_16_bits zs ≡ true
taps_pass zs h = sym (same_test zs) ∙ second (nat_le 1 (length zs) && nat_le (length zs) MAX_TAPS)
    (list_all (fits width.Bits16) zs) h

first : (a b : Bool) → (a && b) ≡ true → a ≡ true
first true b h = refl
first false true h = h
first false false h = h

le_test : (a b : ℕ) → a ≤ b → nat_le a b ≡ true
le_test a b h = grind (arith, leb_tells a b)

between : (low high n : ℕ) → (low ≤ n) × (n ≤ high) → is_between low high n ≡ true
between low high n h = ap (λ b. b && nat_le n high) (le_test low n h.0) ∙ le_test n high h.1

-- values of a filter that are within the limits of a document pass the tests of the kit
pub filter_passes : (up down shift : ℕ) (taps : List ℤ) → (1 ≤ up) × (up ≤ MAX_FACTOR) →
    (1 ≤ down) × (down ≤ MAX_FACTOR) → shift ≤ MAX_SHIFT → IsTrue (is_list MAX_TAPS width.Bits16 taps)
    → kit_of kits.Fir (filter_of up down taps shift) ≡
    Ok (kits.Fir (record { up = up; down = down; taps = taps; shift = shift }))
filter_passes up down shift taps u d s t =
    let b1 : is_between 1 MAX_FACTOR up ≡ true = between 1 MAX_FACTOR up u in
    let b2 : is_between 1 MAX_FACTOR down ≡ true = between 1 MAX_FACTOR down d in
    let b3 : nat_le shift MAX_SHIFT ≡ true = le_test shift MAX_SHIFT s in
    let b4 : is_between 1 MAX_TAPS (length taps) ≡ true =
    first (nat_le 1 (length taps) && nat_le (length taps) MAX_TAPS) (list_all (fits width.Bits16) taps) t in
    let b5 : list_all has_16_bits taps ≡ true = taps_pass taps t in
    rw (b1, b2, b3, b4, b5) refl
