-- What a schedule shows where it stops.
use Rattle.std.proofs.Common.{◌≡◌, ℕ, zero, suc, ◌≤◌, ◌<◌, List, [], length, get_or, slice_index, take, sum, eqb, true}
use Rattle.std.proofs.Common.{false, sym, ap, ◌∙◌, subst, inl, inr, ◌⊎◌, arith}
use Rattle.std.proofs.lemmas.List.{ext_get_or}
use Rattle.std.proofs.lemmas.Bool.{cases_lt, eqb-true, false≢true}
use Rattle.sdf_graph.specs.Rates.{GraphValue, IsSound, rates}
use Rattle.sdf_graph.specs.Sequences.{times, IsRunnable, IsAdmissible, IsPass, IsDeadlocked}
use Rattle.sdf_graph.specs.Periods.{IsLeastPeriod}
use Rattle.sdf_graph.specs.CountsValue.{CountsValue}
use Rattle.sdf_sched.specs.Pick.{Chooses, IsPicked, begins, fires}
use Rattle.sdf_sched.specs.ClassS.{IsGoing}
use Rattle.sdf_sched.specs.Period.{IsPeriodOf}
use Rattle.sdf_sched.specs.Stuck.{IsShortList, IsStuckAt}
use Rattle.sdf_sched.specs.declared.stuck.Stuck.{Stuck}
use Rattle.sdf_sched.proofs.Greedy.{stuck_counts}
use Rattle.sdf_sched.proofs.Going.{each_more}
use Rattle.sdf_sched.proofs.Choices.{is_runnable}

-- each firing that a pick chooses is of a runnable actor
module _ (P : Type 0) (chooses : Chooses P) (g : GraphValue) (q : ℕ → ℕ) (p : P) where
  pub each_runs : (w : List ℕ) (p' : P) → IsPicked chooses g q p w p' → (i : ℕ) → i < length w →
      IsRunnable (rates g) q (times (take i w)) (get_or w i 0)
  each_runs _ _ begins i h = absurd (omega arith)
  each_runs _ _ (fires w a p' p'' picked choice) i h =
      each_more (λ v b. IsRunnable (rates g) q (times v) b) w a (each_runs w p' picked)
      (is_runnable P chooses g q (times w) p' p'' a choice) i h

module _ (P : Type 0) (chooses : Chooses P) (g : GraphValue) (q : List ℕ) (p : P) where
  module _ (t : CountsValue) (w : List ℕ) (p' : P) (now : IsGoing chooses g q p t w p' []) where
    runnable : (i : ℕ) → i < length w → IsRunnable (rates g) (slice_index q) (times (take i w)) (get_or w i 0)
    runnable i h = each_runs P chooses g (slice_index q) p w p' now.picked i h

    pub none_left : (a : ℕ) → IsRunnable (rates g) (slice_index q) (slice_index t.fired) a → ⊥
    none_left a on = let h = (now.list.each a).1 on in omega (arith, h.1)

    admissible : IsAdmissible (rates g) w
    admissible i h = let on = runnable i h in (on.0, on.2)

    count_of : (a : ℕ) → get_or t.fired a 0 ≡ times w a
    count_of a = ap (λ (k : ℕ → ℕ). k a) now.counted

    -- where some sequence does all firings, this one does
    module _ (sound : IsSound (rates g)) (v : List ℕ)
        (pass : IsPass (rates g) (slice_index q) v) where
      done : (a : ℕ) → a < g.actors → get_or t.fired a 0 ≡ get_or q a 0
      done a h = go (cases_lt (get_or t.fired a 0) (get_or q a 0))
        where
          go : (get_or t.fired a 0 < get_or q a 0) ⊎ (get_or q a 0 ≤ get_or t.fired a 0) →
              get_or t.fired a 0 ≡ get_or q a 0
          go (inl less) = absurd
              (stuck_counts (rates g) (slice_index q) (slice_index t.fired) sound none_left a h less v pass)
          go (inr full) = omega (arith, now.within a)

      pub is_pass : IsPass (rates g) (slice_index q) w
      is_pass = (admissible, λ a h. omega (arith, done a h, count_of a))

      pub is_whole : length q ≡ g.actors → length w ≡ sum q
      is_whole len = sym now.total ∙ ap sum (ext_get_or 0 t.fired q now.all
          (λ a h. done a (omega (arith, now.all, len))))

    module _ (short : List (ℕ × ℕ)) (lacks : IsShortList (rates g) (slice_index q) (slice_index t.fired) short)
        (len : length q ≡ g.actors) where
      -- with no actor unfinished the period is over
      module _ (none : length short ≡ 0) where
        full : (a : ℕ) → a < g.actors → get_or t.fired a 0 ≡ get_or q a 0
        full a h = go (cases_lt (get_or t.fired a 0) (get_or q a 0))
          where
            go : (get_or t.fired a 0 < get_or q a 0) ⊎ (get_or q a 0 ≤ get_or t.fired a 0) →
                get_or t.fired a 0 ≡ get_or q a 0
            go (inl less) = let i = lacks.all a h less in absurd (omega (arith, i.1.0))
            go (inr done) = omega (arith, now.within a)

        pub all_fired : t.fired ≡ q
        all_fired = ext_get_or 0 t.fired q now.all (λ a h. full a (omega (arith, now.all)))

        pub is_period : IsLeastPeriod (rates g) q → sum q ≤ 65536 →
            IsPeriodOf (rates g) (record { order = w; repetitions = q })
        is_period least small = record {
          least = least;
          pass = (admissible, λ a h. omega (arith, full a h, count_of a));
          all = sym now.total ∙ ap sum all_fired;
          within = omega (arith, now.total, ap sum all_fired);
        }

      -- else there is none
      module _ (sound : IsSound (rates g)) (some : 0 < length short) where
        pub is_deadlocked : IsDeadlocked (rates g) (slice_index q)
        is_deadlocked = let first = lacks.each 0 some in
            stuck_counts (rates g) (slice_index q) (slice_index t.fired) sound none_left _ first.known first.unfinished

      pub is_stuck : (s : Stuck) → s.done.items ≡ t.fired → s.short.items ≡ short →
          IsStuckAt (rates g) (slice_index q) w s
      is_stuck s done same = record {
        admissible = admissible;
        all = ap length done ∙ now.all ∙ len;
        counts = λ a h. ap (λ (k : List ℕ). get_or k a 0) done ∙ count_of a;
        within = λ a h. omega (arith, now.within a, count_of a);
        short = subst (IsShortList (rates g) (slice_index q) (times w)) (sym same)
            (subst (λ (k : ℕ → ℕ). IsShortList (rates g) (slice_index q) k short) now.counted lacks);
      }

-- what is_empty's answer says of a list
pub none_of : (n m : ℕ) → n ≡ m → true ≡ eqb n 0 → m ≡ 0
none_of n m e t = sym e ∙ eqb-true n 0 (sym t)

pub some_of : (n m : ℕ) → n ≡ m → false ≡ eqb n 0 → 0 < m
some_of zero m e t = absurd (false≢true t)
some_of (suc n) m e t = omega arith
