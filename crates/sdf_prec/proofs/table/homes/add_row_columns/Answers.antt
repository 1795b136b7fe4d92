use Rattle.std.proofs.Common.{◌≡◌, ℕ, ◌<◌, length, get_or, Some, None, sym, ap, ◌∙◌, arith}
use Rattle.std.proofs.lemmas.List.{length-set}
use Rattle.sdf_prec.specs.Tables.{row, cell}
use Rattle.sdf_prec.specs.Homes.{with_column, home_columns_of}
use Rattle.sdf_prec.proofs.RowCells.{stands_at}
use Rattle.sdf_prec.proofs.Standings.{standing_some, standing_skip, standing_row}
use Rattle.sdf_prec.proofs.table.homes.add_row_columns.Goals.{in-Some, in_default}
use Rattle.sdf_prec.proofs.table.homes.add_row_columns.Goals as goal

pub add_column-requires : goal.add_column-requires
add_column-requires c =
    let rs = c.args.rows.now.rows in
    let is : cell rs c.args.i c.loop-column.column ≡ Some c.in-Some.firing =
    ap (λ r. get_or r c.loop-column.column None) (sym c.row-cell-items.ensures) ∙ c.in-Some.is in
    omega (
      arith,
      c.requires.known c.in-Some.firing
          (stands_at (row rs c.args.i) c.loop-column.column c.in-Some.firing is),
      c.loop-column.invariant.same,
    )

pub loop-column-preserved : goal.loop-column-preserved
loop-column-preserved c =
    let rs = c.args.rows.now.rows in
    let i : ℕ = c.args.i in
    let j : ℕ = c.loop-column.column in
    let all = c.loop-column.home_columns in
    let cells : row rs i ≡ c.row-cell-items.result.now = sym c.row-cell-items.ensures in
    elim c.match-cell.branch [
      | in-Some w ↦
          let f = w.in-Some.firing in
          let is : cell rs i j ≡ Some f = ap (λ r. get_or r j None) cells ∙ w.in-Some.is in
          let known : f.actor < length all = omega (
            arith,
            c.requires.known f (stands_at (row rs i) j f is),
            c.loop-column.invariant.same,
          ) in
          rw (w.home_columns-is, w.add_column.ensures)
          (record {
            same = length-set all f.actor (with_column (home_columns_of all f.actor) j) ∙ c.loop-column.invariant.same;
            are = standing_some rs i j all c.loop-column.invariant.are f is known;
          })
      | in_default w ↦
          rw (w.home_columns-is)
          (record {
            same = c.loop-column.invariant.same;
            are = standing_skip rs i j all c.loop-column.invariant.are
                (ap (λ r. get_or r j None) cells ∙ w.in_default.is);
          })
    ]

pub returns : goal.returns
returns c =
    standing_row c.args.rows.now.rows c.args.i c.loop-column.column c.loop-column.home_columns
    c.loop-column.invariant.are
    (omega (arith, ap length c.row-cell-items.ensures, c.loop-column-test.false))
