use Rattle.std.proofs.Common.{ℕ, length, get_or, None, sym, ap, ◌∙◌, arith}
use Rattle.sdf_graph.specs.Rates.{rates}
use Rattle.sdf_times.proofs.Cells.{are_cells, cell_is, within}
use Rattle.sdf_times.proofs.Fired.{prepared, until_small, walk_fire, wide_fire}
use Rattle.sdf_times.proofs.Walks.{walk_skip, walk_row}
use Rattle.sdf_times.proofs.walk.fire_row.Goals.{in-Some+in_ok-fire, in_default}
use Rattle.sdf_times.proofs.walk.fire_row.Goals as goal

pub fire-requires-clause-prepared : goal.fire-requires-clause-prepared
fire-requires-clause-prepared c =
    let r = rates c.args.graph.now in
    let rows = c.args.table.now.rows in
    let cost : ℕ → ℕ = λ a. get_or c.args.costs.now a 0 in
    let is = cell_is rows _ c.args.i c.loop-column.column c.in-Some.firing c.row-cell-items.ensures c.in-Some.is in
    prepared r c.requires.table.0 cost rows c.args.i c.loop-column.column c.in-Some.firing c.loop-column.starts.items
    c.loop-column.until.items (are_cells r c.requires.table.0 rows c.requires.table.1.valid)
    (λ a l. (c.requires.costs.each a l).1) is c.loop-column.invariant.walk c.requires.short

pub fire-requires-clause-column : goal.fire-requires-clause-column
fire-requires-clause-column c =
    let rows = c.args.table.now.rows in
    let is = cell_is rows _ c.args.i c.loop-column.column c.in-Some.firing c.row-cell-items.ensures c.in-Some.is in
    within rows c.args.i c.loop-column.column c.in-Some.firing _ _ is (c.requires.table.1.wide c.args.i
    c.requires.within) c.loop-column.invariant.wide

pub fire-requires-clause-small : goal.fire-requires-clause-small
fire-requires-clause-small c =
    let r = rates c.args.graph.now in
    let rows = c.args.table.now.rows in
    let cost : ℕ → ℕ = λ a. get_or c.args.costs.now a 0 in
    let is = cell_is rows _ c.args.i c.loop-column.column c.in-Some.firing c.row-cell-items.ensures c.in-Some.is in
    until_small r c.requires.table.0 cost rows c.args.i c.loop-column.column c.in-Some.firing c.loop-column.starts.items
    c.loop-column.until.items (are_cells r c.requires.table.0 rows c.requires.table.1.valid)
    (λ a l. (c.requires.costs.each a l).1) is c.loop-column.invariant.walk c.requires.short
    (within rows c.args.i c.loop-column.column c.in-Some.firing _ _ is (c.requires.table.1.wide c.args.i
    c.requires.within) c.loop-column.invariant.wide)

pub loop-column-preserved : goal.loop-column-preserved
loop-column-preserved c =
    let r = rates c.args.graph.now in
    let rows = c.args.table.now.rows in
    let cost : ℕ → ℕ = λ a. get_or c.args.costs.now a 0 in
    let i : ℕ = c.args.i in
    let j : ℕ = c.loop-column.column in
    let starts = c.loop-column.starts.items in
    let until = c.loop-column.until.items in
    let cells = are_cells r c.requires.table.0 rows c.requires.table.1.valid in
    elim c.match-cell.branch [
      | in-Some+in_ok-fire w ↦
          let f = w.in-Some.firing in
          let is = cell_is rows _ i j f c.row-cell-items.ensures w.in-Some.is in
          let known = within rows i j f _ _ is (c.requires.table.1.wide i c.requires.within)
          c.loop-column.invariant.wide in
          rw (w.starts-is, w.until-is) (record {
            walk = walk_fire r c.requires.table.0 cost rows i j f starts until cells
                (λ a l. (c.requires.costs.each a l).1) is c.loop-column.invariant.walk w.fire.new.starts.items
                w.fire.new.until.items known w.in_ok-fire.ensures;
            wide = wide_fire r c.requires.table.0 cost rows i j f starts until cells
                (λ a l. (c.requires.costs.each a l).1) is c.loop-column.invariant.walk w.fire.new.starts.items
                w.fire.new.until.items known w.in_ok-fire.ensures ∙ c.loop-column.invariant.wide;
          })
      | in_default w ↦
          rw (w.starts-is, w.until-is) (record {
            walk = walk_skip r cost rows i j starts until
                (ap (λ xs. get_or xs j None) (sym c.row-cell-items.ensures) ∙ w.in_default.is)
                c.loop-column.invariant.walk;
            wide = c.loop-column.invariant.wide;
          })
    ]

pub returns-clause-walk : goal.returns-clause-walk
returns-clause-walk c =
    walk_row (rates c.args.graph.now) (λ a. get_or c.args.costs.now a 0) c.args.table.now.rows c.args.i
    c.loop-column.column c.loop-column.starts.items c.loop-column.until.items
    (omega (arith, ap (λ xs. length xs) c.row-cell-items.ensures, c.loop-column-test.false))
    c.loop-column.invariant.walk
