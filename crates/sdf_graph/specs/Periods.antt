-- Repetition vectors, and which one is the least.
use Rattle.std.specs.Prelude.{◌≡◌, ℕ, ◌*◌, ◌≤◌, ◌<◌, List, length, slice_index, sum}
use Rattle.sdf_graph.specs.Rates.{Rates}

-- d divides n
abbrev pub Divides : ℕ → ℕ → Type 0
Divides d n = (k : ℕ) × (n ≡ k * d)

-- a repetition vector: the firings of each actor in a period. Each actor goes through whole cycles, and equal numbers
-- of samples are put on and taken from each channel
pub record IsPeriodVector (r : Rates) (q : List ℕ) : Type 0 where
  pub all : length q ≡ r.actors
  pub positive : (a : ℕ) → a < r.actors → 0 < slice_index q a
  pub whole : (a : ℕ) → a < r.actors → Divides (r.cycle a) (slice_index q a)
  pub balanced : (c : ℕ) → c < r.channels → r.produced c (slice_index q (r.source c)) ≡
      r.consumed c (slice_index q (r.target c))

-- p is a multiple of q
abbrev pub IsMultiple : List ℕ → List ℕ → Type 0
IsMultiple p q = (k : ℕ) × ((a : ℕ) → slice_index p a ≡ k * slice_index q a)

-- the repetition vector with the least sum, which also divides all others
pub record IsLeastPeriod (r : Rates) (q : List ℕ) : Type 0 where
  pub is : IsPeriodVector r q
  pub least : (p : List ℕ) → IsPeriodVector r p → sum q ≤ sum p
  pub divides : (p : List ℕ) → IsPeriodVector r p → IsMultiple p q
