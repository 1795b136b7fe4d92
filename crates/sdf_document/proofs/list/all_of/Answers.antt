use Rattle.std.proofs.Common.{◌≡◌, ◌&&◌, ◌++◌, ◌∷◌, [], ℕ, ℤ, pos, Bool, true, false, List, Option, Some, None}
use Rattle.std.proofs.Common.{if◌then◌else◌, get_or, take, refl, sym, ap, ◌∙◌, rules, to_z, of_z, w32, w64, FitsSigned}
use Rattle.std.specs.List.{list_all}
use Rattle.std.proofs.lemmas.Int.{to_z-of_z}
use Rattle.std.proofs.lemmas.List.{take_more, take_all}
use Rattle.std.proofs.lemmas.List.Folds.{list_all_more, list_all_at}
use Rattle.sdf_document.specs.Lists.{fits}
use Rattle.sdf_document.proofs.list.all_of.Goals as goal

-- what the test of a number that is read says of it
kept_of : (p : ℤ → Bool) (x z v : ℤ) → x ≡ z → ◌≡◌ {A = Option ℤ} (Some v) (if p x then Some x else None) →
    (v ≡ z) × (p z ≡ true)
kept_of p x z v same e = let k = go (p x) e in (k.0 ∙ same, sym (ap p same) ∙ k.1)
  where
    go : (t : Bool) → ◌≡◌ {A = Option ℤ} (Some v) (if t then Some x else None) → (v ≡ x) × (t ≡ true)
    go true e = (cc, refl)
    go false e = absurd (cc)

missed_of : (p : ℤ → Bool) (x z : ℤ) → x ≡ z → ◌≡◌ {A = Option ℤ} None (if p x then Some x else None) → p z ≡ false
missed_of p x z same e = sym (ap p same) ∙ go (p x) e
  where
    go : (t : Bool) → ◌≡◌ {A = Option ℤ} None (if t then Some x else None) → t ≡ false
    go true e = absurd (cc)
    go false e = refl

pub loop-number-init : goal.loop-number-init
loop-number-init c = (c.new-values.ensures.items, refl)

pub loop-number-preserved : goal.loop-number-preserved
loop-number-preserved c =
    let zs : List ℤ = c.args.numbers.now in
    let i : ℕ = c.loop-number.number-index in
    let z : ℤ = get_or zs i (pos 0) in
    let v : ℤ = c.in-Some.value in
    let signed : FitsSigned w64 z = search rules in
    let kept = kept_of (fits c.args.width) (to_z w64 (of_z w64 z)) z v (to_z-of_z w64 z signed) c.in-Some.ensures in
    let short : FitsSigned w32 v = search rules in
    let items : List ℤ → ℤ → List ℤ = λ xs v. xs ++ v ∷ [] in (
      c.in_ok-push-in-Some.ensures.items ∙ (ap (items c.loop-number.values.items) (to_z-of_z w32 v short)
          ∙ ap (λ xs. items xs v) c.loop-number.invariant.0
          ∙ (ap (items (take i zs)) kept.0 ∙ sym (take_more zs i (pos 0) c.loop-number-test.true))),
      list_all_more (fits c.args.width) zs i (pos 0) c.loop-number-test.true
          ∙ (ap (λ t. t && fits c.args.width z) c.loop-number.invariant.1 ∙ kept.1),
    )

pub returns-in-None : goal.returns-in-None
returns-in-None c =
    let zs : List ℤ = c.args.numbers.now in
    let i : ℕ = c.loop-number.number-index in
    let z : ℤ = get_or zs i (pos 0) in
    let signed : FitsSigned w64 z = search rules in
    let some : Bool → Option (List ℤ) = λ t. if t then Some zs else None in
    let missed = missed_of (fits c.args.width) (to_z w64 (of_z w64 z)) z (to_z-of_z w64 z signed) c.in-None.ensures in
    sym (ap some (list_all_at (fits c.args.width) zs i (pos 0) c.loop-number-test.true missed))

pub returns : goal.returns
returns c =
    let zs : List ℤ = c.args.numbers.now in
    let some : Bool → Option (List ℤ) = λ t. if t then Some zs else None in
    let end = take_all c.loop-number.number-index zs c.loop-number-test.false in
    ap Some (c.loop-number.invariant.0 ∙ end) ∙ sym
    (ap some (ap (list_all (fits c.args.width)) (sym end) ∙ c.loop-number.invariant.1))
