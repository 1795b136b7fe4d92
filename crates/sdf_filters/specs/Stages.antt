-- The stages of a conversion, and their product.
use Rattle.std.specs.Prelude.{◌≡◌, ◌≢◌, ℕ, ◌+◌, ◌*◌, ◌%◌, ◌<◌, ◌≤◌, ◌⊎◌, List, [], ◌∷◌}
use Rattle.std.specs.Int.{IsGcd}
use Rattle.std.specs.List.{All}
use Rattle.sdf_limits.specs.declared.TheConstants.{MAX_FACTOR}
use Rattle.sdf_filters.specs.declared.stage.Stage.{Stage}
use Rattle.sdf_filters.specs.declared.fault.FilterFault.{FilterFault}
use Rattle.sdf_filters.specs.declared.fault.FilterFault.TheVariants.{OutOfMemory, NoRate, FactorTooLarge}

-- the product of all `up`
abbrev pub ups : List Stage → ℕ
ups [] = 1
ups (s ∷ ss) = s.up * ups ss

-- the product of all `down`
abbrev pub downs : List Stage → ℕ
downs [] = 1
downs (s ∷ ss) = s.down * downs ss

-- a stage is not 1 / 1
abbrev pub DoesSomething : Stage → Type 0
DoesSomething s = 2 < s.up + s.down

-- the product of the stages is to / from, no rate is 0, and each stage does something
pub record IsSplit (from to : ℕ) (stages : List Stage) : Type 0 where
  pub from_some : 0 < from
  pub to_some : 0 < to
  pub product : ups stages * from ≡ downs stages * to
  pub each : All DoesSomething stages

-- up / down is to / from in lowest terms
pub record IsLowest (from to up down : ℕ) : Type 0 where
  pub common : ℕ
  pub greatest : IsGcd from to common
  pub from_is : from ≡ common * down
  pub to_is : to ≡ common * up
  pub up_some : 0 < up
  pub down_some : 0 < down

-- the product of the stages, times what is left of the ratio, is up / down
pub record IsSplitOf (up down up_left down_left : ℕ) (stages : List Stage) : Type 0 where
  pub up_is : ups stages * up_left ≡ up
  pub down_is : downs stages * down_left ≡ down
  pub up_some : 0 < up_left
  pub down_some : 0 < down_left
  pub each : All DoesSomething stages

-- a stage is a part of up / down, and does something
pub record IsPart (up down : ℕ) (s : Stage) : Type 0 where
  pub up_divides : up % s.up ≡ 0
  pub down_divides : down % s.down ≡ 0
  pub some : DoesSomething s

-- no number from 2 to 64 divides it
abbrev pub HasNoFactor : ℕ → Type 0
HasNoFactor n = (d : ℕ) → 1 < d → d ≤ MAX_FACTOR → n % d ≢ 0

pub record IsLeastFactor (n d : ℕ) : Type 0 where
  pub more : 1 < d
  pub within : d ≤ MAX_FACTOR
  pub divides : n % d ≡ 0
  pub least : (e : ℕ) → 1 < e → e < d → n % e ≢ 0

-- a factor of the ratio is over 64, and none of its own are from 2 to 64
pub record IsTooLarge (up down factor : ℕ) : Type 0 where
  pub large : MAX_FACTOR < factor
  pub of : (up % factor ≡ 0) ⊎ (down % factor ≡ 0)
  pub none : HasNoFactor factor

abbrev pub IsPartFault : ℕ → ℕ → FilterFault → Type 0
IsPartFault up down OutOfMemory = Unit {0}
IsPartFault up down (FactorTooLarge factor) = IsTooLarge up down factor
IsPartFault up down fault = ⊥

-- a rate is 0; or none is, and their ratio in lowest terms has a factor that is too large, or memory was refused
abbrev pub IsSplitFault : ℕ → ℕ → FilterFault → Type 0
IsSplitFault from to OutOfMemory = (0 < from) × (0 < to)
IsSplitFault from to NoRate = (from ≡ 0) ⊎ (to ≡ 0)
IsSplitFault from to (FactorTooLarge factor) =
    (0 < from) × (0 < to) × (up : ℕ) × (down : ℕ) × IsLowest from to up down × IsTooLarge up down factor
IsSplitFault from to fault = ⊥
