-- Marks of actors.
use Rattle.std.specs.Prelude.{◌≡◌, ℕ, ◌<◌, List, length, slice_index, slice_index_or, Bool, true, false}
use Rattle.std.specs.List.{Contains}

-- the list has the marked actors, each once
pub record AreListed (is_marked : List Bool) (actors : List ℕ) : Type 0 where
  pub each : (p : ℕ) → p < length actors → slice_index_or is_marked (slice_index actors p) false ≡ true
  pub all : (a : ℕ) → slice_index_or is_marked a false ≡ true → Contains actors a
  pub once : (p m : ℕ) → p < m → m < length actors → slice_index actors p ≡ slice_index actors m → ⊥
