-- The depths of a graph's actors, in an order of firings.
use Rattle.std.specs.Prelude.{◌≡◌, ℕ, ◌+◌, ◌<◌, ◌≤◌, List, length, slice_index}
use Rattle.std.specs.List.{Contains}
use Rattle.sdf_graph.specs.Rates.{Rates}
use Rattle.sdf_times.specs.Times.{IsGreatest}

-- actor a fires at a place of the order, up to which actor b does not fire
pub record IsSooner (order : List ℕ) (a b : ℕ) : Type 0 where
  pub place : ℕ
  pub within : place < length order
  pub fires : slice_index order place ≡ a
  pub not_yet : (k : ℕ) → k ≤ place → slice_index order k ≡ b → ⊥

-- channel c leads to actor a from an actor that fires sooner: it does not lead back
pub record LeadsOn (r : Rates) (order : List ℕ) (c a : ℕ) : Type 0 where
  pub known : c < r.channels
  pub into : r.target c ≡ a
  pub sooner : IsSooner order (r.source c) a

-- the depth of actor a is one more than the greatest depth from which a channel leads on to it
pub record IsDepth (r : Rates) (order : List ℕ) (depth : ℕ → ℕ) (a : ℕ) : Type 0 where
  pub before : ℕ
  pub greatest : IsGreatest (λ u. (c : ℕ) × LeadsOn r order c a × (depth (r.source c) ≡ u)) before
  pub is : depth a ≡ before + 1

-- the depths of the actors, defined for each actor that fires
pub record AreDepths (r : Rates) (order depths : List ℕ) : Type 0 where
  pub all : length depths ≡ r.actors
  pub each : (a : ℕ) → a < r.actors → Contains order a → IsDepth r order (slice_index depths) a
