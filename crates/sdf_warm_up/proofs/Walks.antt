-- A long walk over the channels of a graph comes to an actor again.
use Rattle.std.proofs.Common.{◌≡◌, ◌≢◌, ℕ, ◌≤◌, ◌<◌, true, false, List, ◌∷◌, length, refl, sym, subst}
use Rattle.std.proofs.Common.{◌⊎◌, inl, inr, ⊎_elim, arith}
use Rattle.std.proofs.Math.Dec.{eqb}
use Rattle.std.specs.List.{All, AllPairs, list_any}
use Rattle.std.proofs.lemmas.Bool.{cases_Bool, both_ways, eqb-true, eq-eqb, or_cases}
use Rattle.std.proofs.lemmas.Bool.Decides.{Decides-eqb}
use Rattle.std.proofs.lemmas.List.Folds.{list_any_at}
use Rattle.std.proofs.lemmas.List.Kept.{AllPairs-cons}
use Rattle.std.proofs.lemmas.Map.Made.{IsDistinct-from_AllPairs}
use Rattle.std.proofs.lemmas.Map.Steps.{length-le_from_distinct_below}
use Rattle.sdf_graph.specs.Rates.{Rates}
use Rattle.sdf_warm_up.specs.Warm.{Leads, one, more, HasLoop}
use Rattle.sdf_warm_up.specs.WarmUps.{Walk, start, on, EndsWalk}

-- a number that a list does not have is unlike each of its numbers
apart : (b : ℕ) (xs : List ℕ) → list_any (eqb b) xs ≡ false → All (λ y. b ≢ y) xs
apart b xs none i d l same = both_ways (list_any (eqb b) xs) none (list_any_at (eqb b) xs i d l (eq-eqb b _ same))

module _ (r : Rates) where
  -- each actor that a walk leaves leads to its end
  leads : (past : List ℕ) (b : ℕ) → Walk r past b → (x : ℕ) → list_any (eqb x) past ≡ true → Leads r x b
  leads _ _ (start a known) x h = absurd (both_ways false refl h)
  leads _ _ (on c past known w) x h = ⊎_elim
      (λ is. subst (λ a. Leads r a (r.target c)) (sym (eqb-true x (r.source c) is)) (one c known))
      (λ k. more x c known (leads past (r.source c) w x k))
      (or_cases (eqb x (r.source c)) (list_any (eqb x) past) h)

  -- a walk comes to no actor twice, or there is a loop
  distinct : (past : List ℕ) (b : ℕ) → Walk r past b → AllPairs (λ x y. x ≢ y) (b ∷ past) ⊎ HasLoop r
  distinct _ _ (start a known) = inl (λ i j d l h. absurd (omega arith))
  distinct _ _ (on c past known w) = ⊎_elim next inr (distinct past (r.source c) w)
    where
      next : AllPairs (λ x y. x ≢ y) (r.source c ∷ past) →
          AllPairs (λ x y. x ≢ y) (r.target c ∷ r.source c ∷ past) ⊎ HasLoop r
      next d = ⊎_elim
          (λ here. inr (record {
            actor = r.target c;
            back = leads (r.source c ∷ past) (r.target c) (on c past known w) (r.target c) here;
          }))
          (λ none. inl (AllPairs-cons (λ x y. x ≢ y) (r.target c) (r.source c ∷ past)
          (apart (r.target c) (r.source c ∷ past) none) d))
          (cases_Bool (list_any (eqb (r.target c)) (r.source c ∷ past)))

  -- it comes to actors of the graph
  known_actors : ((c : ℕ) → c < r.channels → r.target c < r.actors) → (past : List ℕ) (b : ℕ) → Walk r past b →
      (x : ℕ) → list_any (eqb x) (b ∷ past) ≡ true → x < r.actors
  known_actors targets _ _ (start a known) x h = ⊎_elim
      (λ is. subst (λ y. y < r.actors) (sym (eqb-true x a is)) known)
      (λ none. absurd (both_ways false refl none))
      (or_cases (eqb x a) false h)
  known_actors targets _ _ (on c past known w) x h = ⊎_elim
      (λ is. subst (λ y. y < r.actors) (sym (eqb-true x (r.target c) is)) (targets c known))
      (λ k. known_actors targets past (r.source c) w x k)
      (or_cases (eqb x (r.target c)) (list_any (eqb x) (r.source c ∷ past)) h)

  -- a walk of as many channels as there are actors goes round a loop
  pub long_loops : ((c : ℕ) → c < r.channels → r.target c < r.actors) → (n a : ℕ) → r.actors ≤ n → EndsWalk r n a →
      HasLoop r
  long_loops targets n a many w = ⊎_elim
      (λ d. let few : length (a ∷ w.past) ≤ r.actors =
      length-le_from_distinct_below (a ∷ w.past) r.actors (IsDistinct-from_AllPairs Decides-eqb (a ∷ w.past) d)
      (known_actors targets w.past a w.walk) in
      absurd (omega (arith, few, w.long, many)))
      (λ l. l) (distinct w.past a w.walk)
