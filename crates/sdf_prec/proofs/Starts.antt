-- One more firing of a row starts, or one more actor's firing ends.
use Rattle.std.proofs.Common.{◌≡◌, ℕ, ◌+◌, ◌≤◌, ◌<◌, ◌⊎◌, List, length, get_or, set, sym, ap, ◌∙◌, subst, inl, inr}
use Rattle.std.proofs.Common.{arith, Option, Some, None}
use Rattle.std.proofs.lemmas.List.{get_or-set_same, get_or-set_other}
use Rattle.std.proofs.lemmas.Option.{none-some, same_Some}
use Rattle.std.proofs.lemmas.Bool.{cases_eq}
use Rattle.sdf_prec.specs.declared.firing.Firing.{Firing}
use Rattle.sdf_prec.specs.Floor.{AreStarted, AreEnded}

-- nothing stands in the row
pub starting_none : (cost : ℕ → ℕ) (now i : ℕ) (cells : List (Option Firing)) (started whose until : ℕ → ℕ) →
    ((j : ℕ) (f : Firing) → j < i → get_or cells j None ≡ Some f → ⊥) →
    AreStarted cost now i cells started whose until started whose until
starting_none cost now i cells started whose until none = record {
  each = λ j f l e. absurd (none j f l e);
  others = λ a h. (λ _. started a);
  columns = λ j h. (λ _. whose j, λ _. until j);
}

module _ (cost : ℕ → ℕ) (now i : ℕ) (cells : List (Option Firing)) (started whose until : ℕ → ℕ) (s w u : List ℕ)
    (b : AreStarted cost now i cells started whose until (λ a. get_or s a 0) (λ j. get_or w j 0)
    (λ j. get_or u j 0)) where
  pub starting_skips : get_or cells i None ≡ None →
      AreStarted cost now (i + 1) cells started whose until (λ a. get_or s a 0) (λ j. get_or w j 0)
      (λ j. get_or u j 0)
  starting_skips none = record {
    each = λ j f l is. go j f l is (cases_eq j i);
    others = λ a h. b.others a (λ j f l. h j f (omega arith));
    columns = λ j h. b.columns j (λ f l. h f (omega arith));
  }
    where
      go : (j : ℕ) (f : Firing) → j < i + 1 → get_or cells j None ≡ Some f → (j ≡ i) ⊎ (j ≡ i → ⊥) →
          (get_or s f.actor 0 ≡ f.number + 1) × (get_or w j 0 ≡ f.actor) × (get_or u j 0 ≡ now + cost f.actor)
      go j f l is (inl same) = absurd (none-some f (sym none ∙ (ap (λ j. get_or cells j None) (sym same) ∙ is)))
      go j f l is (inr ne) = b.each j f (omega arith) is

  pub starting_more : (f : Firing) (end : ℕ) → get_or cells i None ≡ Some f → end ≡ now + cost f.actor →
      f.actor < length s → i < length w → i < length u →
      ((j m : ℕ) (f g : Firing) → get_or cells j None ≡ Some f → get_or cells m None ≡ Some g →
      f.actor ≡ g.actor → j ≡ m) →
      AreStarted cost now (i + 1) cells started whose until (λ a. get_or (set s f.actor (f.number + 1)) a 0)
      (λ j. get_or (set w i f.actor) j 0) (λ j. get_or (set u i end) j 0)
  starting_more f end here is in_s in_w in_u once = record {
    each = λ j g l at. go j g l at (cases_eq j i);
    others = λ a h. others a h (cases_eq a f.actor);
    columns = λ j h. columns j h (cases_eq j i);
  }
    where
      go : (j : ℕ) (g : Firing) → j < i + 1 → get_or cells j None ≡ Some g → (j ≡ i) ⊎ (j ≡ i → ⊥) →
          (get_or (set s f.actor (f.number + 1)) g.actor 0 ≡ g.number + 1)
          × (get_or (set w i f.actor) j 0 ≡ g.actor) × (get_or (set u i end) j 0 ≡ now + cost g.actor)
      go j g l at (inl same) =
          let its : f ≡ g = same_Some f g (sym here ∙ (ap (λ j. get_or cells j None) (sym same) ∙ at)) in
          subst (λ (g : Firing). (get_or (set s f.actor (f.number + 1)) g.actor 0 ≡ g.number + 1)
          × (get_or (set w i f.actor) j 0 ≡ g.actor) × (get_or (set u i end) j 0 ≡ now + cost g.actor)) its (
            get_or-set_same s f.actor (f.number + 1) 0 in_s,
            ap (λ j. get_or (set w i f.actor) j 0) same ∙ get_or-set_same w i f.actor 0 in_w,
            ap (λ j. get_or (set u i end) j 0) same ∙ (get_or-set_same u i end 0 in_u ∙ is),
          )
      go j g l at (inr ne) =
          let old = b.each j g (omega arith) at in
          let apart : g.actor ≡ f.actor → ⊥ = λ same. ne (once j i g f at here same) in (
            get_or-set_other s f.actor g.actor (f.number + 1) 0 apart ∙ old.0,
            get_or-set_other w i j f.actor 0 ne ∙ old.1,
            get_or-set_other u i j end 0 ne ∙ old.2,
          )

      others : (a : ℕ) → ((j : ℕ) (g : Firing) → j < i + 1 → get_or cells j None ≡ Some g → g.actor ≡ a → ⊥) →
          (a ≡ f.actor) ⊎ (a ≡ f.actor → ⊥) → get_or (set s f.actor (f.number + 1)) a 0 ≡ started a
      others a h (inl same) = absurd (h i f (omega arith) here (sym same))
      others a h (inr ne) =
          get_or-set_other s f.actor a (f.number + 1) 0 ne ∙ b.others a (λ j g l. h j g (omega arith))

      columns : (j : ℕ) → ((g : Firing) → j < i + 1 → get_or cells j None ≡ Some g → ⊥) → (j ≡ i) ⊎ (j ≡ i → ⊥) →
          (get_or (set w i f.actor) j 0 ≡ whose j) × (get_or (set u i end) j 0 ≡ until j)
      columns j h (inl same) = absurd (h f (omega arith) (ap (λ j. get_or cells j None) same ∙ here))
      columns j h (inr ne) =
          let old = b.columns j (λ g l. h g (omega arith)) in
          (get_or-set_other w i j f.actor 0 ne ∙ old.0, get_or-set_other u i j end 0 ne ∙ old.1)

pub ending_begins : (now : ℕ) (whose until : ℕ → ℕ) (old : List ℕ) → AreEnded now 0 whose until old old
ending_begins now whose until old = record {
  through = λ j l. absurd (omega arith);
  same = λ a h. (λ _. get_or old a 0);
}

module _ (now i : ℕ) (whose until : ℕ → ℕ) (old new : List ℕ) (s : AreEnded now i whose until old new) where
  pub ending_skips : (until i ≡ now → ⊥) → AreEnded now (i + 1) whose until old new
  ending_skips not = record {
    through = λ j l e. go j l e (cases_eq j i);
    same = λ a h. s.same a (λ j l. h j (omega arith));
  }
    where
      go : (j : ℕ) → j < i + 1 → until j ≡ now → (j ≡ i) ⊎ (j ≡ i → ⊥) →
          get_or new (whose j) 0 ≡ get_or old (whose j) 0 + 1
      go j l e (inl is) = absurd (not (subst (λ j. until j ≡ now) is e))
      go j l e (inr ne) = s.through j (omega arith) e

  pub ending_more : whose i < length new → until i ≡ now →
      ((j : ℕ) → j < i → until j ≡ now → whose j ≡ whose i → ⊥) →
      AreEnded now (i + 1) whose until old (set new (whose i) (get_or new (whose i) 0 + 1))
  ending_more known now_is apart = record {
    through = λ j l e. go j l e (cases_eq j i);
    same = λ a h. other a (λ e. h i (omega arith) now_is (sym e)) ∙ s.same a (λ j l. h j (omega arith));
  }
    where
      then : List ℕ
      then = set new (whose i) (get_or new (whose i) 0 + 1)

      there : get_or then (whose i) 0 ≡ get_or new (whose i) 0 + 1
      there = get_or-set_same new (whose i) (get_or new (whose i) 0 + 1) 0 known

      other : (a : ℕ) → (a ≡ whose i → ⊥) → get_or then a 0 ≡ get_or new a 0
      other a ne = get_or-set_other new (whose i) a (get_or new (whose i) 0 + 1) 0 ne

      untouched : get_or new (whose i) 0 ≡ get_or old (whose i) 0
      untouched = s.same (whose i) apart

      go : (j : ℕ) → j < i + 1 → until j ≡ now → (j ≡ i) ⊎ (j ≡ i → ⊥) →
          get_or then (whose j) 0 ≡ get_or old (whose j) 0 + 1
      go j l e (inl is) = subst (λ j. get_or then (whose j) 0 ≡ get_or old (whose j) 0 + 1) (sym is)
          (there ∙ ap (λ k. k + 1) untouched)
      go j l e (inr ne) = other (whose j) (λ is. apart j (omega arith) e is) ∙ s.through j (omega arith) e

-- one firing more
pub rises_more : (old new : List ℕ) (i : ℕ) → i < length new → ((a : ℕ) → get_or old a 0 ≤ get_or new a 0) → (a : ℕ) →
    get_or old a 0 ≤ get_or (set new i (get_or new i 0 + 1)) a 0
rises_more old new i l rises a = go (cases_eq a i)
  where
    go : (a ≡ i) ⊎ (a ≡ i → ⊥) → get_or old a 0 ≤ get_or (set new i (get_or new i 0 + 1)) a 0
    go (inl e) = subst (λ a. get_or old a 0 ≤ get_or (set new i (get_or new i 0 + 1)) a 0) (sym e)
        (omega (arith, get_or-set_same new i (get_or new i 0 + 1) 0 l, rises i))
    go (inr ne) = omega (arith, get_or-set_other new i a (get_or new i 0 + 1) 0 ne, rises a)
