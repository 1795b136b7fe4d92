use Rattle.std.proofs.Common.{◌≡◌, ◌-◌, ◌+◌, ◌*◌, take, drop, length, sym, ap, ◌∙◌, arith}
use Rattle.sdf_prec.specs.Rows.{RowsValue}
use Rattle.sdf_prec.specs.Tables.{row}
use Rattle.sdf_prec.proofs.RowsIn.{row_is, row_fits}
use Rattle.sdf_prec.proofs.table.rows.Rows.row.Goals as goal

pub overflow_mul-start : goal.overflow_mul-start
overflow_mul-start c =
    let i = c.self.inside in
    let fits = row_fits i.width i.count c.args.i i.cells.items c.args.self.now.rows
    (ap (λ (x : RowsValue). x.rows) c.self.view_is) c.self.invariant c.requires in
    omega (arith, fits.1, ap length c.as_slice-cells.ensures.value)

pub overflow_add-result : goal.overflow_add-result
overflow_add-result c =
    let i = c.self.inside in
    let fits = row_fits i.width i.count c.args.i i.cells.items c.args.self.now.rows
    (ap (λ (x : RowsValue). x.rows) c.self.view_is) c.self.invariant c.requires in
    omega (arith, fits.1, ap length c.as_slice-cells.ensures.value)

pub offset_bounds-cells-start : goal.offset_bounds-cells-start
offset_bounds-cells-start c =
    let i = c.self.inside in
    let fits = row_fits i.width i.count c.args.i i.cells.items c.args.self.now.rows
    (ap (λ (x : RowsValue). x.rows) c.self.view_is) c.self.invariant c.requires in
    omega (arith, fits.1, ap length c.as_slice-cells.ensures.value)

pub slice_bounds-result-end : goal.slice_bounds-result-end
slice_bounds-result-end c =
    let i = c.self.inside in
    let fits = row_fits i.width i.count c.args.i i.cells.items c.args.self.now.rows
    (ap (λ (x : RowsValue). x.rows) c.self.view_is) c.self.invariant c.requires in
    omega (arith, fits.1, ap length c.as_slice-cells.ensures.value)

pub returns : goal.returns
returns c =
    let i = c.self.inside in
    let fits = row_fits i.width i.count c.args.i i.cells.items c.args.self.now.rows
    (ap (λ (x : RowsValue). x.rows) c.self.view_is) c.self.invariant c.requires in
    let start = c.args.i * i.width in
    let wide : start + i.width - start ≡ i.width = omega arith in
    (λ n. take (wide n) (drop start (c.as_slice-cells.ensures.value n)))
    ∙ (sym (row_is i.width i.count i.cells.items c.args.i fits.0)
    ∙ ap (λ (x : RowsValue). row x.rows c.args.i) c.self.view_is)
