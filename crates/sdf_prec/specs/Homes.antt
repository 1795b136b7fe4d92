-- The columns that hold the firings of an actor.
use Rattle.std.specs.Prelude.{◌≡◌, ℕ, ◌<◌, ◌⊎◌, ◌==◌, List, length, slice_index_or, if◌then◌else◌, Option, Some, None}
use Rattle.sdf_prec.specs.declared.firing.Firing.{Firing}
use Rattle.sdf_prec.specs.declared.table.homes.HomeColumns.{HomeColumns}
use Rattle.sdf_prec.specs.declared.table.homes.HomeColumns.TheVariants.{Nowhere, In, Apart}
use Rattle.sdf_prec.specs.Tables.{cell}

-- the columns with the property P: none, this one, or several
abbrev pub IsHomeColumns : (ℕ → Type 0) → HomeColumns → Type 0
IsHomeColumns P Nowhere = (m : ℕ) → P m → ⊥
IsHomeColumns P (In j) = P j × ((m : ℕ) → P m → m ≡ j)
IsHomeColumns P Apart = (j : ℕ) × (m : ℕ) × P j × P m × (j ≡ m → ⊥)

-- the columns with column m added
abbrev pub with_column : HomeColumns → ℕ → HomeColumns
with_column Nowhere m = In m
with_column (In j) m = if j == m then In j else Apart
with_column Apart m = Apart

-- the only column, if there is exactly one
abbrev pub home_of : HomeColumns → Option ℕ
home_of Nowhere = None
home_of (In j) = Some j
home_of Apart = None

-- a firing of actor a stands in column m of one of the first i rows, or among the first j columns of row i
abbrev pub IsAmong : List (List (Option Firing)) → ℕ → ℕ → ℕ → ℕ → Type 0
IsAmong rows i j a m = (k : ℕ) × (f : Firing) × (cell rows k m ≡ Some f) × (f.actor ≡ a)
    × ((k < i) ⊎ ((k ≡ i) × (m < j)))

abbrev pub home_columns_of : List HomeColumns → ℕ → HomeColumns
home_columns_of all a = slice_index_or all a Nowhere

-- the columns of each actor's firings in the first i rows and the first j columns of row i
abbrev pub AreHomeColumns : List (List (Option Firing)) → ℕ → ℕ → List HomeColumns → Type 0
AreHomeColumns rows i j all = (a : ℕ) → a < length all → IsHomeColumns (IsAmong rows i j a) (home_columns_of all a)
