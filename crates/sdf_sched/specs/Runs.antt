-- The policy of runs: it stays with an actor while it is runnable, and then goes to the next runnable one in file
-- order.
use Rattle.std.specs.Prelude.{◌≡◌, ℕ, ◌≤◌, ◌<◌, List, ◌∷◌, length, slice_index, take, ◌⊎◌}
use Rattle.sdf_graph.specs.Rates.{Rates, GraphValue}
use Rattle.sdf_graph.specs.Sequences.{times, IsRunnable}
use Rattle.sdf_sched.specs.Round.{IsNextInPass}

-- the state of `Runs` is the actor that fired last: the first runnable actor from there on fires; if none is left, the
-- first of all fires
pub record IsRunsChoice (last : ℕ) (g : GraphValue) (k : ℕ → ℕ) (xs : List ℕ) (at : ℕ) (last' : ℕ) : Type 0 where
  pub next : IsNextInPass last xs at
  pub after : last' ≡ slice_index xs at

-- going round the actors from actor a on, c comes before b
abbrev pub ComesBefore : ℕ → ℕ → ℕ → Type 0
ComesBefore a c b = ((a ≤ c) × (c < b)) ⊎ ((b < a) × ((a ≤ c) ⊎ (c < b)))

-- at counts k, b is the first runnable actor going round from actor a on
pub record IsNextFrom (r : Rates) (q k : ℕ → ℕ) (a b : ℕ) : Type 0 where
  pub runnable : IsRunnable r q k b
  pub first : (c : ℕ) → IsRunnable r q k c → ComesBefore a c b → ⊥

-- the actor that fired last in a sequence, or actor 0 before all firings
abbrev pub last_fired : List ℕ → ℕ
last_fired w = slice_index (0 ∷ w) (length w)

-- each firing is of the first runnable actor going round from the one before it, so an actor that is still runnable
-- fires again
pub record IsInRuns (r : Rates) (q : ℕ → ℕ) (w : List ℕ) : Type 0 where
  pub next : (i : ℕ) → i < length w → IsNextFrom r q (times (take i w)) (last_fired (take i w)) (slice_index w i)
  pub stays : (i : ℕ) → i < length w → IsRunnable r q (times (take i w)) (last_fired (take i w)) →
      slice_index w i ≡ last_fired (take i w)
