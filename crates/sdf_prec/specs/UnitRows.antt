-- If each firing costs 1, the rows of the rule with costs are Hu's rows.
use Rattle.std.specs.Prelude.{◌≡◌, ℕ, ◌<◌, List}
use Rattle.sdf_graph.specs.Rates.{Rates}
use Rattle.sdf_prec.specs.declared.firing.Firing.{Firing}
use Rattle.sdf_prec.specs.PlainRows.{AreFreeRows, AreHomedRows}
use Rattle.sdf_prec.specs.TimedRows.{Timed, cells_of, AreTimedRows, IsFreeRow, IsHomedRow}

abbrev pub UnitFreeRowsArePlain : Type 0
UnitFreeRowsArePlain =
    (r : Rates) (n cost : ℕ → ℕ) (level : Firing → ℕ) (width : ℕ) (rows : List Timed) →
    ((a : ℕ) → a < r.actors → cost a ≡ 1) →
    AreTimedRows r n width (IsFreeRow r n cost level width) rows → AreFreeRows r n level width (cells_of rows)

abbrev pub UnitHomedRowsArePlain : Type 0
UnitHomedRowsArePlain =
    (r : Rates) (n cost : ℕ → ℕ) (level : Firing → ℕ) (width : ℕ) (rows : List Timed) →
    ((a : ℕ) → a < r.actors → cost a ≡ 1) →
    AreTimedRows r n width (IsHomedRow r n cost level width) rows → AreHomedRows r n level width (cells_of rows)
