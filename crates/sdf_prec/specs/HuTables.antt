-- Tables by Hu's rule with costs.
use Rattle.std.specs.Prelude.{ℕ, Bool}
use Rattle.sdf_graph.specs.Rates.{Rates}
use Rattle.sdf_prec.specs.declared.firing.Firing.{Firing}
use Rattle.sdf_prec.specs.Levels.{IsLevel}
use Rattle.sdf_prec.specs.Tables.{TableValue, IsTable, IsOfBlock}
use Rattle.sdf_prec.specs.TimedRows.{AreHuRows}

-- a table of the rule's rows, by the levels of the block's firings
pub record IsHuTable (r : Rates) (n cost : ℕ → ℕ) (width : ℕ) (homed : Bool) (t : TableValue) : Type 0 where
  pub table : IsTable r n width t
  pub level : Firing → ℕ
  pub levels_are : (f : Firing) → IsOfBlock r n f → IsLevel r n cost f (level f)
  pub rows_are : AreHuRows r n cost level width homed t.rows
