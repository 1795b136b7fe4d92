-- Rows with one firing each, in its actor's home.
use Rattle.std.specs.Prelude.{◌≡◌, ℕ, ◌<◌, ◌⊎◌, List, length, take, replicate, slice_index, slice_index_or, slice_set}
use Rattle.std.specs.Prelude.{Option, Some, None}
use Rattle.sdf_graph.specs.Rates.{Rates}
use Rattle.sdf_graph.specs.Sequences.{times}
use Rattle.sdf_sched.specs.Runs.{IsInRuns}
use Rattle.sdf_prec.specs.declared.firing.Firing.{Firing}
use Rattle.sdf_prec.specs.declared.fault.PrecFault.{PrecFault}
use Rattle.sdf_prec.specs.declared.fault.PrecFault.TheVariants.{BadHome}
use Rattle.sdf_prec.specs.Blocks.{IsSizeFault}
use Rattle.sdf_prec.specs.Tables.{row}
use Rattle.sdf_prec.specs.Accepting.{IsSize}

-- the home of actor a is one of the first m columns
abbrev pub HasHome : List (Option ℕ) → ℕ → ℕ → Type 0
HasHome homes m a = (j : ℕ) × (slice_index_or homes a None ≡ Some j) × (j < m)

-- a is the lowest actor below `actors` without a home below m
pub record IsBadHome (homes : List (Option ℕ)) (m actors a : ℕ) : Type 0 where
  pub known : a < actors
  pub bad : HasHome homes m a → ⊥
  pub before : (b : ℕ) → b < a → HasHome homes m b

-- the firing at place p of a sequence
abbrev pub firing_at : List ℕ → ℕ → Firing
firing_at w p = record { actor = slice_index w p; number = times (take p w) (slice_index w p) }

-- row by row the firings of a sequence, each alone in its actor's home among m columns; no actor without a home fires
pub record AreByHomes (homes : List (Option ℕ)) (m : ℕ) (w : List ℕ) (rows : List (List (Option Firing))) : Type 0 where
  pub all : length rows ≡ length w
  pub homed : (p : ℕ) → p < length w → HasHome homes m (slice_index w p)
  pub each : (p j : ℕ) → p < length w → slice_index_or homes (slice_index w p) None ≡ Some j →
      row rows p ≡ slice_set (replicate m None) j (Some (firing_at w p))

-- row by row the n a firings of each actor a in runs: an actor fires on while it is runnable, and then the next one in
-- file order
pub record AreRunsByHomes (r : Rates) (n : ℕ → ℕ) (homes : List (Option ℕ)) (m : ℕ)
    (rows : List (List (Option Firing))) : Type 0 where
  pub order : List ℕ
  pub in_runs : IsInRuns r n order
  pub by : AreByHomes homes m order rows

-- why there is no table by homes: its size, or otherwise the lowest actor without a home
abbrev pub IsHomesFault : ℕ → ℕ → List ℕ → List (Option ℕ) → PrecFault → Type 0
IsHomesFault j m reps homes e = IsSizeFault j m reps e
    ⊎ (IsSize j m reps × ((a : ℕ) × (e ≡ BadHome a) × IsBadHome homes m (length reps) a))
