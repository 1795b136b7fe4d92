-- Where the actors stand among which a pick chooses.
use Rattle.std.proofs.Common.{◌≡◌, ℕ, ◌≤◌, ◌<◌, length, get_or, ◌∙◌, inl, inr, ◌⊎◌, arith}
use Rattle.std.proofs.lemmas.List.{get_or_default}
use Rattle.std.proofs.lemmas.Bool.{cases_lt}
use Rattle.sdf_graph.specs.Rates.{GraphValue, rates}
use Rattle.sdf_graph.specs.Sequences.{IsRunnable}
use Rattle.sdf_sched.specs.Pick.{Chooses, IsChoice}
use Rattle.sdf_sched.proofs.Updates.{place_of, not_falling}

module _ (P : Type 0) (chooses : Chooses P) (g : GraphValue) (q k : ℕ → ℕ) (p p' : P) (a : ℕ)
    (c : IsChoice chooses g q p k a p') where
  pub is_runnable : IsRunnable (rates g) q k a
  is_runnable = (c.runnable.each a).0 (c.at, c.below, get_or_default c.among c.at a 0 c.below ∙ c.is)

  -- each runnable actor stands among them, and one that is less than the chosen one before it
  pub stands : (b : ℕ) → IsRunnable (rates g) q k b → (i : ℕ) × ((i < length c.among) × (get_or c.among i 0 ≡ b))
  stands b on = place_of c.among b ((c.runnable.each b).1 on)

  pub stands_before : (b : ℕ) → b < a → IsRunnable (rates g) q k b → (i : ℕ) × ((i < c.at) × (get_or c.among i 0 ≡ b))
  stands_before b l on = let i = stands b on in (i.0, (order i.0 i.1.0 i.1.1 (cases_lt i.0 c.at), i.1.1))
    where
      order : (i : ℕ) → i < length c.among → get_or c.among i 0 ≡ b → (i < c.at) ⊎ (c.at ≤ i) → i < c.at
      order i h e (inl less) = less
      order i h e (inr more) = absurd (omega (arith, not_falling c.among c.runnable.rising c.at i more h, c.is))
