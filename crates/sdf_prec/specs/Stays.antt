-- The actors that homes by weight keep on one worker.
use Rattle.std.specs.Prelude.{◌≡◌, ℕ, ◌+◌, ◌<◌, ◌≤◌, List, slice_index_or, Option, None}
use Rattle.sdf_graph.specs.Rates.{Rates}
use Rattle.sdf_prec.specs.Spread.{IsFedByLast, AreSpread}

-- all actors from the target to the source of a channel that leads back have one home, so that a loop has one worker
abbrev pub LoopsStay : Type 0
LoopsStay =
    (r : Rates) (weights : List ℕ) (m : ℕ) (homes : List (Option ℕ)) (c a : ℕ) → AreSpread r weights m homes →
    c < r.channels → r.target c ≤ a → a ≤ r.source c → r.source c < r.actors →
    slice_index_or homes a None ≡ slice_index_or homes (r.source c) None

-- an actor and the next one have one home if the first alone feeds the second
abbrev pub FedStay : Type 0
FedStay =
    (r : Rates) (weights : List ℕ) (m : ℕ) (homes : List (Option ℕ)) (a : ℕ) → AreSpread r weights m homes →
    a + 1 < r.actors → IsFedByLast r (a + 1) → slice_index_or homes a None ≡ slice_index_or homes (a + 1) None
