-- Calls of a function with each element of a list.
use Rattle.std.specs.Prelude.{◌≡◌, ℕ, ◌+◌, ◌<◌, List, length, slice_index_or}
use denote.Ref.{MutBor}
use denote.Param.Members.{Shared}
use Rattle.std.specs.Fork.{AcceptsAt, ChangesAt}

module _ {F T : Type 0} (g : Shared F (ℕ × (MutBor T × Unit {0})) ((Unit {0}) × (MutBor T × Unit {0}))) (f : F) where
  -- f may be called with each element of xs, numbered from `from`
  pub record AcceptsFrom (from : ℕ) (xs : List T) : Type 0 where
    pub each : (i k : ℕ) (d : T) → i ≡ from + k → k < length xs → AcceptsAt g f i (slice_index_or xs k d)

  -- each element of ys is what a call of f left of the element of xs at its place
  pub record ChangesFrom (from : ℕ) (xs ys : List T) : Type 0 where
    pub each : (i k : ℕ) (d : T) → i ≡ from + k → k < length xs →
        ChangesAt g f i (slice_index_or xs k d) (slice_index_or ys k d)
