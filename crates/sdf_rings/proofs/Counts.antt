-- What each run of the machine keeps of its counts.
use Rattle.std.proofs.Common.{ℕ, ◌+◌, ◌≤◌, ◌<◌, List, [], ◌∷◌, eqb, subst, arith}
use Rattle.std.proofs.lemmas.Bool.{eqb-true, cond_both}
use Rattle.sdf_graph.specs.Rates.{IsSound}
use Rattle.sdf_actor.specs.Histories.{Wiring, Answers}
use Rattle.sdf_rings.specs.Machine.{Machine, Event, Take, Put, at_start, happens, CanTake, CanPut, IsAllowed, IsRun}
use Rattle.sdf_rings.specs.Machine.{after}

pub record IsCounted {A : Type 0} (f : Wiring A) (k cap : ℕ → ℕ) (m : Machine A) : Type 0 where
  pub took_in : (c : ℕ) → c < f.rates.channels → m.took c ≤ k (f.rates.target c)
  pub gave_in : (c : ℕ) → c < f.rates.channels → m.gave c ≤ k (f.rates.source c)
  pub enough : (c : ℕ) → c < f.rates.channels → f.rates.consumed c (m.took c) ≤
      f.rates.initial c + f.rates.produced c (m.gave c)
  pub room : (c : ℕ) → c < f.rates.channels → f.rates.initial c + f.rates.produced c (m.gave c) ≤
      cap c + f.rates.consumed c (m.took c)

module _ {A : Type 0} (f : Wiring A) (sound : IsSound f.rates) (x : Answers A) (k cap : ℕ → ℕ) where
  count_take : (m : Machine A) → IsCounted f k cap m → (c : ℕ) → CanTake f k m c →
      IsCounted f k cap (happens f x m (Take c))
  count_take m keep c h = record {
    took_in = λ d l. cond_both (eqb c d) (m.took d + 1) (m.took d) (λ n. n ≤ k (f.rates.target d))
        (λ t. let h' : CanTake f k m d = subst (CanTake f k m) (eqb-true c d t) h in omega (arith, h'.left))
        (λ t. keep.took_in d l);
    gave_in = keep.gave_in;
    enough = λ d l. cond_both (eqb c d) (m.took d + 1) (m.took d)
        (λ n. f.rates.consumed d n ≤ f.rates.initial d + f.rates.produced d (m.gave d))
        (λ t. let h' : CanTake f k m d = subst (CanTake f k m) (eqb-true c d t) h in h'.holds) (λ t. keep.enough d l);
    room = λ d l. cond_both (eqb c d) (m.took d + 1) (m.took d)
        (λ n. f.rates.initial d + f.rates.produced d (m.gave d) ≤ cap d + f.rates.consumed d n)
        (λ t. let rise : f.rates.consumed d (m.took d) ≤ f.rates.consumed d (m.took d + 1) =
        sound.consumed_rises d (m.took d) (m.took d + 1) (omega arith) in omega (arith, keep.room d l))
        (λ t. keep.room d l);
  }

  count_put : (m : Machine A) → IsCounted f k cap m → (c : ℕ) → CanPut f k cap m c →
      IsCounted f k cap (happens f x m (Put c))
  count_put m keep c h = record {
    took_in = keep.took_in;
    gave_in = λ d l. cond_both (eqb c d) (m.gave d + 1) (m.gave d) (λ n. n ≤ k (f.rates.source d))
        (λ t. let h' : CanPut f k cap m d = subst (CanPut f k cap m) (eqb-true c d t) h in omega (arith, h'.left))
        (λ t. keep.gave_in d l);
    enough = λ d l. cond_both (eqb c d) (m.gave d + 1) (m.gave d)
        (λ n. f.rates.consumed d (m.took d) ≤ f.rates.initial d + f.rates.produced d n)
        (λ t. let rise : f.rates.produced d (m.gave d) ≤ f.rates.produced d (m.gave d + 1) =
        sound.produced_rises d (m.gave d) (m.gave d + 1) (omega arith) in omega (arith, keep.enough d l))
        (λ t. keep.enough d l);
    room = λ d l. cond_both (eqb c d) (m.gave d + 1) (m.gave d)
        (λ n. f.rates.initial d + f.rates.produced d n ≤ cap d + f.rates.consumed d (m.took d))
        (λ t. let h' : CanPut f k cap m d = subst (CanPut f k cap m) (eqb-true c d t) h in h'.room)
        (λ t. keep.room d l);
  }

  pub count_one : (m : Machine A) → IsCounted f k cap m → (e : Event) → IsAllowed f k cap m e →
      IsCounted f k cap (happens f x m e)
  count_one m keep (Take c) h = count_take m keep c h
  count_one m keep (Put c) h = count_put m keep c h

  pub count_run : (m : Machine A) (es : List Event) → IsCounted f k cap m → IsRun f x k cap m es →
      IsCounted f k cap (after f x m es)
  count_run m [] keep run = keep
  count_run m (e ∷ es) keep run = count_run (happens f x m e) es (count_one m keep e run.0) run.1

  pub count_start : ((c : ℕ) → c < f.rates.channels → f.rates.initial c ≤ cap c) → IsCounted f k cap (at_start f)
  count_start fits = record {
    took_in = λ c l. omega arith;
    gave_in = λ c l. omega arith;
    enough = λ c l. omega (arith, sound.consumed_none c);
    room = λ c l. omega (arith, sound.produced_none c, fits c l);
  }
