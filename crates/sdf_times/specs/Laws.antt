-- Statements of the laws.
use Rattle.std.specs.Prelude.{◌≡◌, ℕ, ◌≤◌, ◌<◌, List, length, Option, Bool}
use Rattle.sdf_graph.specs.Rates.{Rates}
use Rattle.sdf_prec.specs.declared.firing.Firing.{Firing}
use Rattle.sdf_prec.specs.Tables.{row, IsValid}
use Rattle.sdf_prec.specs.TimedRows.{Timed, timed, cells_of, StandsAt, AreTimedRows, hu_rule}
use Rattle.sdf_times.specs.Times.{IsInTable, ComesBefore, end_of, AreStarts, IsMakespan, work_of, IsSpan, IsBound}

-- a valid table has times
abbrev pub StartsExist : Type 0
StartsExist = (r : Rates) (n cost : ℕ → ℕ) (rows : List (List (Option Firing))) → IsValid r n rows →
    (start : Firing → ℕ) × AreStarts r cost rows start

-- the times of a valid table are the least at which each firing starts after the ends of the firings that come before
-- it
abbrev pub StartsAreLeast : Type 0
StartsAreLeast =
    (r : Rates) (n cost : ℕ → ℕ) (rows : List (List (Option Firing))) (start other : Firing → ℕ) → IsValid r n rows →
    AreStarts r cost rows start →
    ((f g : Firing) → IsInTable rows f → ComesBefore r rows g f → end_of cost other g ≤ other f) → (f : Firing) →
    IsInTable rows f → start f ≤ other f

-- a valid table has one set of times
abbrev pub StartsAreOne : Type 0
StartsAreOne =
    (r : Rates) (n cost : ℕ → ℕ) (rows : List (List (Option Firing))) (start other : Firing → ℕ) → IsValid r n rows →
    AreStarts r cost rows start → AreStarts r cost rows other →
    (f : Firing) → IsInTable rows f → start f ≡ other f

-- no table of the block with `width` columns ends sooner than the bound
abbrev pub BoundsHold : Type 0
BoundsHold =
    (r : Rates) (n cost : ℕ → ℕ) (width : ℕ) (rows : List (List (Option Firing))) (start : Firing → ℕ)
    (makespan span bound : ℕ) → IsValid r n rows →
    ((i : ℕ) → i < length rows → length (row rows i) ≤ width) → AreStarts r cost rows start →
    IsMakespan cost rows start makespan → IsSpan r n cost span →
    IsBound span (work_of r.actors n cost) width bound → bound ≤ makespan

-- in rows by Hu's rule with these costs, no firing starts later than its row
abbrev pub RowsAreNoSooner : Type 0
RowsAreNoSooner =
    (r : Rates) (n cost : ℕ → ℕ) (level : Firing → ℕ) (width : ℕ) (homed : Bool) (rows : List Timed)
    (start : Firing → ℕ) → AreTimedRows r n width (hu_rule r n cost level width homed) rows →
    IsValid r n (cells_of rows) → AreStarts r cost (cells_of rows) start → (i j : ℕ) (f : Firing) →
    StandsAt rows i j f →
    start f ≤ (timed rows i).start

-- in rows by Hu's rule with costs of at least 1, each firing starts when its row does
abbrev pub RowsAreOnTime : Type 0
RowsAreOnTime =
    (r : Rates) (n cost : ℕ → ℕ) (level : Firing → ℕ) (width : ℕ) (homed : Bool) (rows : List Timed)
    (start : Firing → ℕ) → ((a : ℕ) → a < r.actors → 1 ≤ cost a) →
    AreTimedRows r n width (hu_rule r n cost level width homed) rows → IsValid r n (cells_of rows) →
    AreStarts r cost (cells_of rows) start → (i j : ℕ) (f : Firing) → StandsAt rows i j f →
    start f ≡ (timed rows i).start
