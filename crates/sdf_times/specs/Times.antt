-- The start and end times of a table's firings, and lower bounds for any table of its block.
use Rattle.std.specs.Prelude.{◌≡◌, ℕ, ◌+◌, ◌*◌, ◌≤◌, ◌<◌, ◌⊎◌, List, [], length, slice_index, slice_index_or, Option}
use Rattle.std.specs.Prelude.{Some, None}
use Rattle.sdf_graph.specs.Rates.{Rates, sum_to}
use Rattle.sdf_prec.specs.declared.firing.Firing.{Firing}
use Rattle.sdf_prec.specs.Precedence.{WaitsFor}
use Rattle.sdf_prec.specs.Blocks.{block, IsShort}
use Rattle.sdf_prec.specs.Tables.{cell, IsOfBlock, TableValue, IsTable}
use Rattle.sdf_prec.specs.Levels.{IsLevel}

-- the greatest of the numbers with the property P, or 0 if there are none
pub record IsGreatest (P : ℕ → Type 0) (t : ℕ) : Type 0 where
  pub above : (u : ℕ) → P u → u ≤ t
  pub reached : (t ≡ 0) ⊎ P t

-- the firing stands in the table
abbrev pub IsInTable : List (List (Option Firing)) → Firing → Type 0
IsInTable rows f = (i : ℕ) × (j : ℕ) × (cell rows i j ≡ Some f)

-- firing g stands in f's column, in an earlier row
abbrev pub IsAbove : List (List (Option Firing)) → Firing → Firing → Type 0
IsAbove rows g f = (k : ℕ) × (i : ℕ) × (j : ℕ) × (k < i) × (cell rows k j ≡ Some g) × (cell rows i j ≡ Some f)

-- g has to end before f starts: f waits for g, or g stands before f in its column
abbrev pub ComesBefore : Rates → List (List (Option Firing)) → Firing → Firing → Type 0
ComesBefore r rows g f = WaitsFor r f g ⊎ IsAbove rows g f

-- a firing ends its cost after its start; each firing of actor a costs cost a
abbrev pub end_of : (ℕ → ℕ) → (Firing → ℕ) → Firing → ℕ
end_of cost start f = start f + cost f.actor

-- f starts at the latest end of the firings that come before it, or at 0 if there are none
abbrev pub IsStart : Rates → (ℕ → ℕ) → List (List (Option Firing)) → (Firing → ℕ) → Firing → Type 0
IsStart r cost rows start f = IsGreatest (λ t. (g : Firing) × ComesBefore r rows g f
    × (end_of cost start g ≡ t)) (start f)

-- the times of a table: each of its firings starts at the latest end of the firings that come before it, or at 0
abbrev pub AreStarts : Rates → (ℕ → ℕ) → List (List (Option Firing)) → (Firing → ℕ) → Type 0
AreStarts r cost rows start = (f : Firing) → IsInTable rows f → IsStart r cost rows start f

-- when the last firing of the table ends
abbrev pub IsMakespan : (ℕ → ℕ) → List (List (Option Firing)) → (Firing → ℕ) → ℕ → Type 0
IsMakespan cost rows start t = IsGreatest (λ u. (f : Firing) × IsInTable rows f × (end_of cost start f ≡ u)) t

-- the cost of the firing in a cell, or 0 if it is empty
abbrev pub cost_in : (ℕ → ℕ) → Option Firing → ℕ
cost_in cost None = 0
cost_in cost (Some f) = cost f.actor

-- the load of column j: the cost of all firings in it
abbrev pub load_of : (ℕ → ℕ) → List (List (Option Firing)) → ℕ → ℕ
load_of cost rows j = sum_to (λ i. cost_in cost (cell rows i j)) (length rows)

-- the cost of all firings of a block in which each actor a below `actors` fires n a times
abbrev pub work_of : ℕ → (ℕ → ℕ) → (ℕ → ℕ) → ℕ
work_of actors n cost = sum_to (λ a. n a * cost a) actors

-- the greatest level of a firing of the block: the cost of its costliest chain
abbrev pub IsSpan : Rates → (ℕ → ℕ) → (ℕ → ℕ) → ℕ → Type 0
IsSpan r n cost t = IsGreatest (λ u. (f : Firing) × IsOfBlock r n f × IsLevel r n cost f u) t

-- the greater of the span and of the work over the workers, rounded up: the least time in which the costliest chain
-- ends and the workers can do the work
pub record IsBound (span work workers t : ℕ) : Type 0 where
  pub chains : span ≤ t
  pub shares : work ≤ t * workers
  pub least : (u : ℕ) → span ≤ u → work ≤ u * workers → t ≤ u

-- a table of m columns for a block of some periods
pub record IsBlockTable (r : Rates) (m : ℕ) (t : TableValue) : Type 0 where
  pub periods : ℕ
  pub reps : List ℕ
  pub all : length reps ≡ r.actors
  pub short : IsShort periods reps
  pub table : IsTable r (slice_index (block periods reps)) m t

-- times as they are kept: the start times of each actor's first firings, the end of the last firing of all, and the
-- load of each column
pub record TimesValue : Type 0 where
  pub starts : List (List ℕ)
  pub makespan : ℕ
  pub loads : List ℕ

-- the start of a firing in these lists
abbrev pub start_in : List (List ℕ) → Firing → ℕ
start_in starts f = slice_index (slice_index_or starts f.actor []) f.number

-- these lists have a start of the firing
abbrev pub HasStart : List (List ℕ) → Firing → Type 0
HasStart starts f = f.number < length (slice_index_or starts f.actor [])
