-- When two lists are equal, as `==` says.
use Rattle.std.specs.Prelude.{◌≡◌, ◌&&◌, ℕ, List, Option, Some, None, Bool, bytes_eq}
use Rattle.std.specs.Option.{option_eq}
use Rattle.std.specs.Ordering.{int_eq}
use Rattle.std.specs.Bool.{Decides}
use Rattle.std.specs.Cmp.{IsPartialEquivalence, IsEquivalence, partial_equiv_from_equiv, decided}
use Rattle.std.specs.Cmp.Lexicographic.{pointwise}
use Rattle.std.specs.Cmp.Rules.{signed_items}
use Rattle.std.proofs.Common.{refl, ap, rules}
use Rattle.std.proofs.lemmas.Bool.Decides.{Decides-like, Decides-and}
use Rattle.std.proofs.lemmas.Slice.Eq.{bytes_eq-Decides}
use Rattle.sdf_document.specs.Lists.{ListValue}

-- the files and the values are equal
unfoldable pub list_eq : ListValue → ListValue → Bool
list_eq x y = option_eq bytes_eq x.file y.file && pointwise int_eq x.values y.values

inside : (x y : List ℕ) → Some x ≡ Some y → x ≡ y
inside x y e = search rules

names_decide : (x y : Option (List ℕ)) → Decides (option_eq bytes_eq x y) (x ≡ y)
names_decide None None = (λ e. refl, λ e. refl)
names_decide None (Some y) = search rules
names_decide (Some x) None = search rules
names_decide (Some x) (Some y) = Decides-like (bytes_eq x y) (λ e. ap Some e) (inside x y) (bytes_eq-Decides x y)

-- equal lists are the same
pub lists_decide : (x y : ListValue) → Decides (list_eq x y) (x ≡ y)
unfolding list_eq
lists_decide x y = Decides-like (option_eq bytes_eq x.file y.file && pointwise int_eq x.values y.values)
    (λ p. search rules)
    (λ e. (ap (λ (l : ListValue). l.file) e, ap (λ (l : ListValue). l.values) e))
    (Decides-and (option_eq bytes_eq x.file y.file) (pointwise int_eq x.values y.values)
    (names_decide x.file y.file) (signed_items x.values y.values))

pub list_equivalence : IsEquivalence list_eq
list_equivalence = decided list_eq lists_decide

pub list_partial_equivalence : IsPartialEquivalence list_eq
list_partial_equivalence = partial_equiv_from_equiv list_equivalence
