-- What must be true of the elements of a slice whose first is number base, and what becomes of them.
use Rattle.std.specs.Prelude.{◌≡◌, ℕ, ◌+◌, ◌^◌, ◌<◌, List, length, slice_index_or}

module _ {X : Type 0} where
  -- P is true of some element
  abbrev pub SomeHolds : (X → Type 0) → List X → Type 0
  SomeHolds P xs = (i : ℕ) × (d : X) × (i < length xs) × P (slice_index_or xs i d)

  -- P is true of each element and its number
  pub record HoldsFrom (P : ℕ → X → Type 0) (base : ℕ) (xs : List X) : Type 0 where
    pub room : base + length xs < 2 ^ 64
    pub each : (k : ℕ) (d : X) → k < length xs → P (base + k) (slice_index_or xs k d)

  -- R is true of the number of each element, the element before, and the element after
  pub record BecameFrom (R : ℕ → X → X → Type 0) (base : ℕ) (xs ys : List X) : Type 0 where
    pub len : length ys ≡ length xs
    pub each : (k : ℕ) (d : X) → k < length xs → R (base + k) (slice_index_or xs k d) (slice_index_or ys k d)
