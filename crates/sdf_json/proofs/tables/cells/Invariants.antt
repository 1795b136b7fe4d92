use Rattle.std.proofs.Common.{◌≡◌, map, take}
use Rattle.serde_json.specs.View.{view}
use Rattle.sdf_json.specs.Tables.{cell_value}
use Rattle.sdf_json.proofs.tables.cells.Given as goal

abbrev pub invariant-loop-cell : goal.invariant-loop-cell
invariant-loop-cell l = map view l.list.items ≡ map (cell_value l.design) (take l.cell-index l.cells)
