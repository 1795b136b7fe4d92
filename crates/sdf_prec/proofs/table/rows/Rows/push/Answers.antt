use Rattle.std.proofs.Common.{◌+◌, ◌++◌, ◌∷◌, [], sym, ap, ◌∙◌}
use Rattle.sdf_prec.specs.Rows.{RowsValue, rows_in}
use Rattle.sdf_prec.proofs.RowsIn.{rows_more}
use Rattle.sdf_prec.proofs.table.rows.Rows.push.Goals as goal

pub returns-clause-rows : goal.returns-clause-rows
returns-clause-rows c =
    let i = c.self.inside in
    let new = c.args.cells.now in
    let wide = c.requires.wide ∙ sym (ap (λ (x : RowsValue). x.width) c.self.view_is) in
    ap (rows_in i.width (i.count + 1)) c.in_ok-extend_from_slice.ensures.items
    ∙ (rows_more i.width i.count i.cells.items new c.self.invariant wide
    ∙ ap (λ (x : RowsValue). x.rows ++ new ∷ []) c.self.view_is)
