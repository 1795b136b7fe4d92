-- What became of the elements of a list.
use Rattle.std.specs.Prelude.{ℕ, ◌≡◌, ◌<◌, List, length, slice_index_or}

module _ {X : Type 0} where
  -- R is true of element i before and after
  abbrev pub BecameAt : (X → X → Type 0) → List X → List X → ℕ → Type 0
  BecameAt R old new i = (d : X) → R (slice_index_or old i d) (slice_index_or new i d)

  -- R is true of each element before and after
  abbrev pub AllBecame : (X → X → Type 0) → List X → List X → Type 0
  AllBecame R old new = (i : ℕ) (d : X) → i < length old → R (slice_index_or old i d) (slice_index_or new i d)

  -- each element except number i is as it was
  abbrev pub SameBut : List X → List X → ℕ → Type 0
  SameBut old new i = (j : ℕ) (d : X) → (i ≡ j → ⊥) → slice_index_or new j d ≡ slice_index_or old j d
