-- The rates of a graph are sound, and its period vectors are periods.
use Rattle.std.proofs.Common.{◌≡◌, ℕ, ◌+◌, ◌*◌, ◌≤◌, List, get_or, length, sum, sym, ap, ◌∙◌, arith}
use Rattle.sdf_graph.specs.Rates.{IsCycle, channel, sum_to, rate_at}
use Rattle.sdf_graph.specs.Laws.{GraphsAreSound, GraphsHavePeriods}
use Rattle.sdf_graph.proofs.Cycles.{sum_to_rises, sum_to_small, sum_to_anew, sum_to_cycles, sum_to_cycle}

pub sound_of : GraphsAreSound
sound_of g ok = record {
  source_in = ok.from_in;
  target_in = ok.to_in;
  produced_none = λ c. omega arith;
  consumed_none = λ c. omega arith;
  produced_rises = λ c i j h. sum_to_rises (rate_at (channel g c).put) i j h;
  consumed_rises = λ c i j h. sum_to_rises (rate_at (channel g c).take) i j h;
}

-- no firing moves many samples
pub rate_small : (n : ℕ) (xs : List ℕ) → IsCycle n xs → (i : ℕ) → rate_at xs i ≤ 1024
rate_small n xs ok i = ok.small _

pub moved_small : (n : ℕ) (xs : List ℕ) → IsCycle n xs → (i : ℕ) → sum_to (rate_at xs) i ≤ 1024 * i
moved_small n xs ok i = sum_to_small (rate_at xs) 1024 (rate_small n xs ok) i

-- nor does a cycle
pub cycle_small : (n : ℕ) (xs : List ℕ) → IsCycle n xs → sum xs ≤ 65536
cycle_small n xs ok = omega (arith, moved_small n xs ok (length xs), sum_to_cycle xs, ok.all, ok.short)

-- what whole cycles move
pub whole_cycles : (n : ℕ) (xs : List ℕ) → IsCycle n xs → (k q : ℕ) → q ≡ k * n → sum_to (rate_at xs) q ≡ k * sum xs
whole_cycles n xs ok k q e = ap (sum_to (rate_at xs)) (e ∙ ap (λ m. k * m) (sym ok.all)) ∙ sum_to_cycles xs k

anew : (n : ℕ) (xs : List ℕ) → IsCycle n xs → (k q i : ℕ) → q ≡ k * n →
    sum_to (rate_at xs) (i + q) ≡ sum_to (rate_at xs) i + sum_to (rate_at xs) q
anew n xs ok k q i e =
    ap (λ m. sum_to (rate_at xs) (i + m)) (e ∙ ap (λ m. k * m) (sym ok.all))
    ∙ omega (arith, sum_to_anew xs k i, whole_cycles n xs ok k q e)

pub period_of : GraphsHavePeriods
period_of g q ok period = record {
  balanced = period.balanced;
  produced_anew = λ c i l. let d = period.whole (channel g c).from (ok.from_in c l) in
      anew _ _ (ok.put c l) d.0 (get_or q (channel g c).from 0) i d.1;
  consumed_anew = λ c i l. let d = period.whole (channel g c).to (ok.to_in c l) in
      anew _ _ (ok.take c l) d.0 (get_or q (channel g c).to 0) i d.1;
}
