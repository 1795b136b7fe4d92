-- The channels that lead to an actor.
use Rattle.std.specs.Prelude.{◌≡◌, ℕ, ◌<◌, List, slice_index}
use Rattle.sdf_graph.specs.Rates.{Rates}

-- a channel leads to actor a from an actor of depth u
abbrev pub IsInDepth : Rates → List ℕ → ℕ → ℕ → Type 0
IsInDepth r depths a u = (c : ℕ) × (c < r.channels) × (r.target c ≡ a) × (slice_index depths (r.source c) ≡ u)
