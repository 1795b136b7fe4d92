-- Homes by weight: each worker has consecutive actors in file order.
use Rattle.std.specs.Prelude.{◌≡◌, ℕ, ◌+◌, ◌*◌, ◌/◌, ◌<◌, ◌≤◌, List, length, slice_index, slice_index_or, Option, Some}
use Rattle.std.specs.Prelude.{None}
use Rattle.sdf_limits.specs.declared.TheConstants.{MAX_ACTORS, MAX_BLOCK, MAX_COST}
use Rattle.sdf_graph.specs.Rates.{Rates, sum_to}

-- the weight of all firings of each actor in a period
pub record AreLoads (actors : ℕ) (weights : List ℕ) : Type 0 where
  pub all : length weights ≡ actors
  pub few : actors ≤ MAX_ACTORS
  pub some : (a : ℕ) → a < actors → 0 < slice_index weights a
  pub small : (a : ℕ) → slice_index weights a ≤ MAX_BLOCK * MAX_COST

-- the weight of the first k actors
abbrev pub weight_to : List ℕ → ℕ → ℕ
weight_to weights k = sum_to (slice_index weights) k

-- a channel leads from an actor at place k or behind it to an actor before k
abbrev pub LeadsBack : Rates → ℕ → Type 0
LeadsBack r k = (c : ℕ) × (c < r.channels) × (r.target c < k) × (k ≤ r.source c)

-- actor k has inputs, and all of them come from the actor just before it
pub record IsFedByLast (r : Rates) (k : ℕ) : Type 0 where
  pub some : (c : ℕ) × (c < r.channels) × (r.target c ≡ k)
  pub all : (c : ℕ) → c < r.channels → r.target c ≡ k → r.source c + 1 ≡ k

-- the actors before k and the actors from k on may go to different workers: this cuts no loop, and parts no actor from
-- the actor just before it if that alone feeds it
pub record MayPart (r : Rates) (k : ℕ) : Type 0 where
  pub ahead : LeadsBack r k → ⊥
  pub fed : IsFedByLast r k → ⊥

-- the place at which the stretch of actor a begins: the last place up to a at which actors may part
pub record IsStretchStart (r : Rates) (a first : ℕ) : Type 0 where
  pub within : first ≤ a
  pub parts : MayPart r first
  pub last : (k : ℕ) → first < k → k ≤ a → MayPart r k → ⊥

-- the place at which the next stretch begins: the first place behind a at which actors may part, or the end
pub record IsStretchEnd (r : Rates) (a past : ℕ) : Type 0 where
  pub behind : a < past
  pub within : past ≤ r.actors
  pub parts : MayPart r past
  pub first : (k : ℕ) → a < k → k < past → MayPart r k → ⊥

-- the worker of a stretch: of m equal shares of all weight, the share that holds the middle of the stretch
abbrev pub share : List ℕ → ℕ → ℕ → ℕ → ℕ
share weights m first past =
    m * (weight_to weights first + weight_to weights past) / (2 * weight_to weights (length weights))

-- the home of each actor is the worker of its stretch
pub record AreSpread (r : Rates) (weights : List ℕ) (m : ℕ) (homes : List (Option ℕ)) : Type 0 where
  pub all : length homes ≡ r.actors
  pub each : (a : ℕ) → a < r.actors → (first : ℕ) × (past : ℕ) × IsStretchStart r a first × IsStretchEnd r a past
      × (slice_index_or homes a None ≡ Some (share weights m first past))
