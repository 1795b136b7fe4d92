-- The firings of runs go round the actors.
use Rattle.std.proofs.Common.{◌≡◌, ℕ, ◌≤◌, ◌<◌, List, [], ◌∷◌, ◌++◌, length, get_or, take, refl, sym, ◌∙◌, subst, inl}
use Rattle.std.proofs.Common.{inr, ◌⊎◌, arith}
use Rattle.std.proofs.lemmas.List.{get_or_push}
use Rattle.std.proofs.lemmas.Bool.{cases_lt}
use Rattle.sdf_graph.specs.Rates.{Rates, GraphValue, rates}
use Rattle.sdf_graph.specs.Sequences.{times, IsRunnable}
use Rattle.sdf_sched.specs.Pick.{IsPicked, IsChoice, begins, fires}
use Rattle.sdf_sched.specs.Round.{IsNextInPass}
use Rattle.sdf_sched.specs.Runs.{IsRunsChoice, ComesBefore, IsNextFrom, last_fired}
use Rattle.sdf_sched.specs.Laws.{RunsStay}
use Rattle.sdf_sched.proofs.Choices.{is_runnable, stands, stands_before}
use Rattle.sdf_sched.proofs.Going.{each_more, length-last}

-- a runnable actor is the first one going round from itself
first_is_itself : (r : Rates) (q k : ℕ → ℕ) (a b : ℕ) → IsNextFrom r q k a b → IsRunnable r q k a → b ≡ a
first_is_itself r q k a b next on = go (cases_lt a b) (cases_lt b a)
  where
    go : (a < b) ⊎ (b ≤ a) → (b < a) ⊎ (a ≤ b) → b ≡ a
    go (inl less) z = absurd (next.first a on (inl (omega arith, less)))
    go z (inl more) = absurd (next.first a on (inr (more, inl (omega arith))))
    go (inr h) (inr l) = omega arith

module _ (g : GraphValue) (q : ℕ → ℕ) where
  chosen_is_next : (k : ℕ → ℕ) (last last' a : ℕ) → IsChoice IsRunsChoice g q last k a last' →
      IsNextFrom (rates g) q k last a
  chosen_is_next k last last' a c = record {
    runnable = is_runnable ℕ IsRunsChoice g q k last last' a c;
    first = λ b on h. none b on h c.chosen.next;
  }
    where
      among : (b : ℕ) → IsRunnable (rates g) q k b → (i : ℕ) × ((i < length c.among) × (get_or c.among i 0 ≡ b))
      among b on = stands ℕ IsRunsChoice g q k last last' a c b on

      before_it : (b : ℕ) → b < a → IsRunnable (rates g) q k b → (i : ℕ) × ((i < c.at) × (get_or c.among i 0 ≡ b))
      before_it b l on = stands_before ℕ IsRunsChoice g q k last last' a c b l on

      none : (b : ℕ) → IsRunnable (rates g) q k b → ComesBefore last b a → IsNextInPass last c.among c.at → ⊥
      none b on (inl (h, l)) (inl (from, before)) = let i = before_it b l on in omega (arith, before i.0 i.1.0, i.1.1)
      none b on (inr (l, z)) (inl (from, before)) = omega (arith, c.is)
      none b on (inl (h, l)) (inr (first, before)) = let i = among b on in omega (arith, before i.0 i.1.0, i.1.1)
      none b on (inr (l, inl h)) (inr (first, before)) = let i = among b on in omega (arith, before i.0 i.1.0, i.1.1)
      none b on (inr (l, inr less)) (inr (first, before)) = let i = before_it b less on in omega (arith, i.1.0)

  -- the state is the actor that fired last
  fired_last : (w : List ℕ) (last : ℕ) → IsPicked IsRunsChoice g q 0 w last → last ≡ last_fired w
  fired_last _ _ begins = refl
  fired_last _ _ (fires w a last last' picked c) =
      c.chosen.after ∙ (c.is ∙ sym (get_or_push (0 ∷ w) a 0 (length (w ++ a ∷ [])) (omega (arith, length-last w a))))

  each_next : (w : List ℕ) (last : ℕ) → IsPicked IsRunsChoice g q 0 w last → (i : ℕ) → i < length w →
      IsNextFrom (rates g) q (times (take i w)) (last_fired (take i w)) (get_or w i 0)
  each_next _ _ begins i h = absurd (omega arith)
  each_next _ _ (fires w a last last' picked c) i h =
      each_more (λ v b. IsNextFrom (rates g) q (times v) (last_fired v) b) w a (each_next w last picked)
      (subst (λ l. IsNextFrom (rates g) q (times w) l a) (fired_last w last picked)
      (chosen_is_next (times w) last last' a c)) i h

pub runs_stay : RunsStay
runs_stay g q w last picked = record {
  next = each_next g q w last picked;
  stays = λ i h on. first_is_itself (rates g) q (times (take i w)) (last_fired (take i w)) (get_or w i 0)
      (each_next g q w last picked i h) on;
}
