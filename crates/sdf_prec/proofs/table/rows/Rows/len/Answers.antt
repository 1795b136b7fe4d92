use Rattle.std.proofs.Common.{length, sym, ap, ◌∙◌}
use Rattle.sdf_prec.specs.Rows.{RowsValue}
use Rattle.sdf_prec.proofs.RowsIn.{rows_long}
use Rattle.sdf_prec.proofs.table.rows.Rows.len.Goals as goal

pub returns : goal.returns
returns c = sym (rows_long c.self.inside.width c.self.inside.count c.self.inside.cells.items)
    ∙ ap (λ (x : RowsValue). length x.rows) c.self.view_is
