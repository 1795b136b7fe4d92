-- Some sequence of enabled firings completes a period, or none does: a greedy schedule is fired to where it stops.
use Rattle.std.proofs.Common.{◌≡◌, ℕ, zero, suc, ◌+◌, ◌-◌, ◌≤◌, ◌<◌, List, [], ◌∷◌, ◌++◌, length, get_or, take, sym}
use Rattle.std.proofs.Common.{subst, inl, inr, ◌⊎◌, arith}
use Rattle.std.proofs.lemmas.Bool.{cases_lt, cases_eq}
use Rattle.sdf_graph.specs.Rates.{Rates, IsSound, sum_to}
use Rattle.sdf_graph.specs.Sequences.{times, IsReady, IsEnabled, IsRunnable, IsPass, IsDeadlocked}
use Rattle.sdf_sched.specs.Laws.{PeriodOrDeadlock}
use Rattle.sdf_sched.proofs.Greedy.{stuck_counts}
use Rattle.sdf_sched.proofs.Going.{times-last_same, times-last_other, each_more}

-- below m each number is of one sort, or one is of the other
look_below : (P Q : ℕ → Type 0) → ((c : ℕ) → P c ⊎ Q c) → (m : ℕ) → ((c : ℕ) → c < m → P c) ⊎ ((c : ℕ) × (c < m) × Q c)
look_below P Q test zero = inl (λ c h. absurd (omega arith))
look_below P Q test (suc m) = go (look_below P Q test m) (test m)
  where
    next : ((c : ℕ) → c < m → P c) → P m → (c : ℕ) → c < m + 1 → (c < m) ⊎ (m ≤ c) → P c
    next before here c h (inl early) = before c early
    next before here c h (inr late) = subst P (let e : m ≡ c = omega arith in e) here

    go : ((c : ℕ) → c < m → P c) ⊎ ((c : ℕ) × (c < m) × Q c) → P m ⊎ Q m →
        ((c : ℕ) → c < suc m → P c) ⊎ ((c : ℕ) × (c < suc m) × Q c)
    go (inr found) here = inr (found.0, omega (arith, found.1), found.2)
    go (inl before) (inr here) = inr (m, omega arith, here)
    go (inl before) (inl here) = inl (λ c h. next before here c (omega arith) (cases_lt c m))

-- sums of which no value is greater
sum_le : (f g : ℕ → ℕ) (m : ℕ) → ((b : ℕ) → f b ≤ g b) → sum_to f m ≤ sum_to g m
sum_le f g zero le = omega arith
sum_le f g (suc m) le = omega (arith, sum_le f g m le, le m)

-- and one is less
sum_lt : (f g : ℕ → ℕ) (a m : ℕ) → a < m → ((b : ℕ) → f b ≤ g b) → f a < g a → sum_to f m < sum_to g m
sum_lt f g a zero h le less = absurd (omega arith)
sum_lt f g a (suc m) h le less = go (cases_lt a m) (λ early. sum_lt f g a m early le less)
  where
    go : (a < m) ⊎ (m ≤ a) → (a < m → sum_to f m < sum_to g m) → sum_to f (suc m) < sum_to g (suc m)
    go (inl early) before = omega (arith, before early, le m)
    go (inr late) before =
        let same : a ≡ m = omega arith in
        let here : f m < g m = subst (λ b. f b < g b) same less in
        omega (arith, sum_le f g m le)

module _ (r : Rates) (q : ℕ → ℕ) where
  ready : (k : ℕ → ℕ) (c : ℕ) → IsReady r k c ⊎ (IsReady r k c → ⊥)
  ready k c = go (cases_lt (r.initial c + r.produced c (k (r.source c))) (r.consumed c (k (r.target c) + 1)))
    where
      go : (r.initial c + r.produced c (k (r.source c)) < r.consumed c (k (r.target c) + 1))
          ⊎ (r.consumed c (k (r.target c) + 1) ≤ r.initial c + r.produced c (k (r.source c))) →
          IsReady r k c ⊎ (IsReady r k c → ⊥)
      go (inl short) = inr (λ on. omega (arith, on, short))
      go (inr enough) = inl enough

  ready_into : (k : ℕ → ℕ) (a c : ℕ) → (r.target c ≡ a → IsReady r k c) ⊎ ((r.target c ≡ a → IsReady r k c) → ⊥)
  ready_into k a c = go (cases_eq (r.target c) a) (ready k c)
    where
      go : (r.target c ≡ a) ⊎ (r.target c ≡ a → ⊥) → IsReady r k c ⊎ (IsReady r k c → ⊥) →
          (r.target c ≡ a → IsReady r k c) ⊎ ((r.target c ≡ a → IsReady r k c) → ⊥)
      go (inr other) _ = inl (λ same. absurd (other same))
      go (inl same) (inl on) = inl (λ _. on)
      go (inl same) (inr off) = inr (λ all. off (all same))

  enabled : (k : ℕ → ℕ) (a : ℕ) → IsEnabled r k a ⊎ (IsEnabled r k a → ⊥)
  enabled k a = go (look_below (λ c. r.target c ≡ a → IsReady r k c) (λ c. (r.target c ≡ a → IsReady r k c) → ⊥)
      (ready_into k a) r.channels)
    where
      go : IsEnabled r k a ⊎ ((c : ℕ) × (c < r.channels) × ((r.target c ≡ a → IsReady r k c) → ⊥)) →
          IsEnabled r k a ⊎ (IsEnabled r k a → ⊥)
      go (inl on) = inl on
      go (inr (c, h, off)) = inr (λ on. off (on c h))

  runnable : (k : ℕ → ℕ) (a : ℕ) → a < r.actors → IsRunnable r q k a ⊎ (IsRunnable r q k a → ⊥)
  runnable k a h = go (cases_lt (k a) (q a)) (enabled k a)
    where
      go : (k a < q a) ⊎ (q a ≤ k a) → IsEnabled r k a ⊎ (IsEnabled r k a → ⊥) →
          IsRunnable r q k a ⊎ (IsRunnable r q k a → ⊥)
      go (inr full) _ = inr (λ on. omega (arith, on.1))
      go (inl less) (inl on) = inl (h, less, on)
      go (inl less) (inr off) = inr (λ on. off on.2)

  idle_or_not : (k : ℕ → ℕ) (a : ℕ) → (IsRunnable r q k a → ⊥) ⊎ IsRunnable r q k a
  idle_or_not k a = go (cases_lt a r.actors)
    where
      turn : IsRunnable r q k a ⊎ (IsRunnable r q k a → ⊥) → (IsRunnable r q k a → ⊥) ⊎ IsRunnable r q k a
      turn (inl on) = inr on
      turn (inr off) = inl off

      go : (a < r.actors) ⊎ (r.actors ≤ a) → (IsRunnable r q k a → ⊥) ⊎ IsRunnable r q k a
      go (inl known) = turn (runnable k a known)
      go (inr beyond) = inl (λ on. omega (arith, on.0))

  -- each firing is of a runnable actor
  record IsGreedy (w : List ℕ) : Type 0 where
    each : (i : ℕ) → i < length w → IsRunnable r q (times (take i w)) (get_or w i 0)
    within : (a : ℕ) → times w a ≤ q a

  abbrev left : List ℕ → ℕ
  left w = sum_to (λ a. q a - times w a) r.actors

  module _ (w : List ℕ) (greedy : IsGreedy w) (a : ℕ) (on : IsRunnable r q (times w) a) where
    within_fired : (b : ℕ) → (a ≡ b) ⊎ (a ≡ b → ⊥) → times (w ++ a ∷ []) b ≤ q b
    within_fired b (inl same) = subst (λ b. times (w ++ a ∷ []) b ≤ q b) same (omega (arith, times-last_same w a, on.1))
    within_fired b (inr other) = omega (arith, times-last_other w a b (λ e. other (sym e)), greedy.within b)

    fired : IsGreedy (w ++ a ∷ [])
    fired = record {
      each = each_more (λ v b. IsRunnable r q (times v) b) w a greedy.each on;
      within = λ b. within_fired b (cases_eq a b);
    }

    fewer : (b : ℕ) → (a ≡ b) ⊎ (a ≡ b → ⊥) → q b - times (w ++ a ∷ []) b ≤ q b - times w b
    fewer b (inl same) = subst (λ b. q b - times (w ++ a ∷ []) b ≤ q b - times w b) same
        (omega (arith, times-last_same w a))
    fewer b (inr other) = omega (arith, times-last_other w a b (λ e. other (sym e)))

    left_falls : left (w ++ a ∷ []) < left w
    left_falls =
        sum_lt (λ b. q b - times (w ++ a ∷ []) b) (λ b. q b - times w b) a r.actors on.0 (λ b. fewer b (cases_eq a b))
        (omega (arith, times-last_same w a, on.1))

  record StopsAt (w : List ℕ) : Type 0 where
    greedy : IsGreedy w
    none : (a : ℕ) → a < r.actors → IsRunnable r q (times w) a → ⊥

  -- firings that complete the period, or the proof that none do
  abbrev Outcome : Type 0
  Outcome = ((w : List ℕ) × IsPass r q w) ⊎ IsDeadlocked r q

  runs_or_stops : (w : List ℕ) → ((a : ℕ) → a < r.actors → IsRunnable r q (times w) a → ⊥)
      ⊎ ((a : ℕ) × (a < r.actors) × IsRunnable r q (times w) a)
  runs_or_stops w = look_below (λ a. IsRunnable r q (times w) a → ⊥) (IsRunnable r q (times w))
      (idle_or_not (times w)) r.actors

  go_on : (n : ℕ) (w : List ℕ) → IsGreedy w → left w ≤ n → (v : List ℕ) × StopsAt v
  go_on zero w greedy most = go (runs_or_stops w)
    where
      go : ((a : ℕ) → a < r.actors → IsRunnable r q (times w) a → ⊥)
          ⊎ ((a : ℕ) × (a < r.actors) × IsRunnable r q (times w) a) → (v : List ℕ) × StopsAt v
      go (inl none) = (w, record { greedy = greedy; none = none })
      go (inr (a, h, on)) = absurd (omega (arith, left_falls w greedy a on))
  go_on (suc n) w greedy most = go (runs_or_stops w)
      (λ a on. go_on n (w ++ a ∷ []) (fired w greedy a on) (omega (arith, left_falls w greedy a on)))
    where
      go : ((a : ℕ) → a < r.actors → IsRunnable r q (times w) a → ⊥)
          ⊎ ((a : ℕ) × (a < r.actors) × IsRunnable r q (times w) a) →
          ((a : ℕ) → IsRunnable r q (times w) a → (v : List ℕ) × StopsAt v) → (v : List ℕ) × StopsAt v
      go (inl none) next = (w, record { greedy = greedy; none = none })
      go (inr (a, h, on)) next = next a on

  begins : IsGreedy []
  begins = record { each = λ i h. absurd (omega arith); within = λ a. omega arith }

  full_or_not : (v : List ℕ) → IsGreedy v → (a : ℕ) → (times v a ≡ q a) ⊎ (times v a < q a)
  full_or_not v greedy a = go (cases_lt (times v a) (q a))
    where
      go : (times v a < q a) ⊎ (q a ≤ times v a) → (times v a ≡ q a) ⊎ (times v a < q a)
      go (inl less) = inr less
      go (inr full) = inl (omega (arith, greedy.within a))

  module _ (sound : IsSound r) (v : List ℕ) (stops : StopsAt v) where
    completes : ((a : ℕ) → a < r.actors → times v a ≡ q a) → IsPass r q v
    completes all = ((λ i h. ((stops.greedy.each i h).0, (stops.greedy.each i h).2)), all)

    ends : ((a : ℕ) → a < r.actors → times v a ≡ q a) ⊎ ((a : ℕ) × (a < r.actors) × (times v a < q a)) → Outcome
    ends (inl all) = inl (v, completes all)
    ends (inr (a, h, less)) = inr (stuck_counts r q (times v) sound (λ b on. stops.none b on.0 on) a h less)

    outcome : Outcome
    outcome = ends (look_below (λ a. times v a ≡ q a) (λ a. times v a < q a) (full_or_not v stops.greedy) r.actors)

  decided : IsSound r → Outcome
  decided sound = let last = go_on (left []) [] begins (omega arith) in outcome sound last.0 last.1

pub period_or_deadlock : PeriodOrDeadlock
period_or_deadlock = decided
