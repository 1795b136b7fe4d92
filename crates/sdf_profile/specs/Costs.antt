-- Costs of firings, in multiples of the cheapest firing.
use Rattle.std.specs.Prelude.{◌≡◌, ◌⊎◌, ℕ, suc, ◌*◌, ◌+◌, ◌-◌, ◌/◌, ◌≤◌, ◌<◌, List, length, map, slice_index, min}
use Rattle.sdf_limits.specs.declared.TheConstants.{MAX_COST}

-- a time in multiples of the least, rounded to the nearest
abbrev pub rounded_multiple : ℕ → ℕ → ℕ
rounded_multiple least time = (2 * time + least) / (2 * least)

-- a time in multiples of the least, from 1 to the most that a key may say
abbrev pub cost_of : ℕ → ℕ → ℕ → ℕ
cost_of most least time = min most (suc (rounded_multiple least time - 1))

-- no time is above 0
abbrev pub AreNone : List ℕ → Type 0
AreNone times = (i : ℕ) → i < length times → slice_index times i ≡ 0

-- one of the times is this
abbrev pub IsOneOf : List ℕ → ℕ → Type 0
IsOneOf times time = (i : ℕ) × (i < length times) × (slice_index times i ≡ time)

-- the least of the times above 0; any number above 0 if there is none
pub record IsLeastTime (times : List ℕ) (least : ℕ) : Type 0 where
  pub some : 0 < least
  pub below : (i : ℕ) → i < length times → 0 < slice_index times i → least ≤ slice_index times i
  pub reached : AreNone times ⊎ IsOneOf times least

-- the costs of firings that take these times
pub record AreCostsOf (times costs : List ℕ) : Type 0 where
  pub least : ℕ
  pub is : IsLeastTime times least
  pub are : costs ≡ map (cost_of MAX_COST least) times
