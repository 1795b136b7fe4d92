-- Equal kinds are the same, and equal links have the same view.
use Rattle.std.proofs.Common.{◌≡◌, ◌⊎◌, inl, inr, ℤ, ℕ, Bool, true, false, arith, refl, ap, subst, rules, nat_eq}
use Rattle.std.specs.Bool.{Decides}
use Rattle.std.specs.Prelude.{◌&&◌}
use Rattle.std.specs.Ordering.{int_eq}
use Rattle.std.specs.Cmp.{signed_Decides, unsigned_Decides}
use Rattle.std.specs.Cmp.Rules.{signed_items}
use Rattle.std.proofs.lemmas.Bool.Decides.{Decides-like, Decides-and, nat_tests}
use Rattle.sdf_document.specs.declared.entry.KindEntry.{KindEntry}
use Rattle.sdf_document.specs.declared.entry.LinkEntry.{LinkEntry}
use Rattle.sdf_document.specs.contracts.entry.KindEntryPartialEq.TheImpl as kind_eq
use Rattle.sdf_document.specs.contracts.entry.KindEntryEq.TheImpl.Laws as kind_laws
use Rattle.sdf_document.specs.contracts.entry.LinkEntryPartialEq.TheImpl as link_eq
use Rattle.sdf_document.specs.Lists.{ListValue}
use Rattle.sdf_document.specs.Links.{LinkValue, link_view}
use Rattle.sdf_document.specs.Equal.{list_eq, lists_decide}

by_test : (P : Type 0) (b : Bool) → (b ≡ true → P) → (b ≡ false) ⊎ P
by_test P true f = inr (f refl)
by_test P false f = inl refl

lists_tell : (x y : ListValue) → (list_eq x y ≡ false) ⊎ (x ≡ y)
lists_tell x y = by_test (x ≡ y) (list_eq x y) (lists_decide x y).0

integers_same : (x y : ℤ) → int_eq x y ≡ true → x ≡ y
integers_same x y = (signed_Decides x y).0

kinds_same : (x y : KindEntry) → kind_eq.eq-value.it x y ≡ true → x ≡ y
kinds_same x y h = grind (arith, nat_tests, integers_same, lists_tell)

pub kinds_decide : (x y : KindEntry) → Decides (kind_eq.eq-value.it x y) (x ≡ y)
kinds_decide x y = (kinds_same x y, λ e. subst (λ z. kind_eq.eq-value.it x z ≡ true) e (kind_laws.laws-law.refl x))

ends_decide : (x y : ℕ × ℕ) → Decides (nat_eq x.0 y.0 && nat_eq x.1 y.1) (x ≡ y)
ends_decide x y = Decides-like (nat_eq x.0 y.0 && nat_eq x.1 y.1) (λ p. search rules)
    (λ e. (ap (λ (p : ℕ × ℕ). p.0) e, ap (λ (p : ℕ × ℕ). p.1) e))
    (Decides-and (nat_eq x.0 y.0) (nat_eq x.1 y.1) (unsigned_Decides x.0 y.0) (unsigned_Decides x.1 y.1))

pub links_decide : (x y : LinkEntry) → Decides (link_eq.eq-value.it x y) (link_view x ≡ link_view y)
links_decide x y = Decides-like (link_eq.eq-value.it x y) (λ p. search rules)
    (λ e. (ap (λ (l : LinkValue). l.from) e, (ap (λ (l : LinkValue). l.to) e, ap (λ (l : LinkValue). l.initial) e)))
    (Decides-and _ _ (ends_decide x.from y.from)
    (Decides-and _ _ (ends_decide x.to y.to) (signed_items x.initial.items y.initial.items)))
