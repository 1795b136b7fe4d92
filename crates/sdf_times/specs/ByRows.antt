-- The time of a block whose rows are done one after another.
use Rattle.std.specs.Prelude.{ℕ, zero, suc, ◌≤◌, List, length, max, Option}
use Rattle.sdf_graph.specs.Rates.{Rates, sum_to}
use Rattle.sdf_prec.specs.declared.firing.Firing.{Firing}
use Rattle.sdf_prec.specs.Tables.{row, cell, IsValid}
use Rattle.sdf_times.specs.Times.{AreStarts, IsMakespan, cost_in}

-- the greatest of the first i values, or 0 if i is 0
abbrev pub greatest_to : (ℕ → ℕ) → ℕ → ℕ
greatest_to f zero = 0
greatest_to f (suc i) = max (greatest_to f i) (f i)

-- what row i takes: the greatest cost of its firings
abbrev pub row_time : (ℕ → ℕ) → List (List (Option Firing)) → ℕ → ℕ
row_time cost rows i = greatest_to (λ j. cost_in cost (cell rows i j)) (length (row rows i))

-- what a block takes if each row starts when all firings of the row before have ended
abbrev pub time_by_rows : (ℕ → ℕ) → List (List (Option Firing)) → ℕ
time_by_rows cost rows = sum_to (row_time cost rows) (length rows)

-- no table ends later than it would row by row
abbrev pub RowsTakeLonger : Type 0
RowsTakeLonger =
    (r : Rates) (n cost : ℕ → ℕ) (rows : List (List (Option Firing))) (start : Firing → ℕ) (makespan : ℕ) →
    IsValid r n rows → AreStarts r cost rows start → IsMakespan cost rows start makespan →
    makespan ≤ time_by_rows cost rows
