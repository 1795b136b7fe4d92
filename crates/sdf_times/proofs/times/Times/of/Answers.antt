use Rattle.std.proofs.Common.{◌≡◌, ℕ, ◌<◌, List, length, get_or, sym, ap, ◌∙◌, subst, arith}
use Rattle.std.proofs.lemmas.List.{length-replicate}
use Rattle.sdf_graph.specs.Rates.{rates}
use Rattle.sdf_prec.specs.Blocks.{block}
use Rattle.sdf_prec.specs.Tables.{IsTable}
use Rattle.sdf_times.specs.Walks.{IsWalk, IsPast}
use Rattle.sdf_times.specs.Times.{IsGreatest}
use Rattle.sdf_times.proofs.Caps.{rows_small}
use Rattle.sdf_times.proofs.Cells.{are_cells}
use Rattle.sdf_times.proofs.Walks.{walk_first, walk_starts, walk_has, walk_makespan, zeros}
use Rattle.sdf_times.proofs.times.Times.of.Goals.{In_ok-loads}
use Rattle.sdf_times.proofs.times.Times.of.Goals as goal

pub loop-i-init : goal.loop-i-init
loop-i-init c =
    let zero = c.in_ok-until.ensures.items_if_clones_equal (λ y e. e) in
    record {
      walk = walk_first (rates c.args.graph.now) (λ a. get_or c.args.costs.now a 0) c.args.table.now.rows
          c.in_ok-starts.starts.items c.in_ok-until.until.items (c.in_ok-starts.ensures.all ∙ c.actors.ensures.count)
          c.in_ok-starts.ensures.none
          (λ m. ap (λ (xs : List ℕ). get_or xs m 0) zero ∙ zeros c.args.m m);
      wide = ap length zero ∙ length-replicate c.args.m 0;
    }

pub fire_row-requires-clause-table : goal.fire_row-requires-clause-table
fire_row-requires-clause-table c =
    let b = c.requires.table in
    let n : ℕ → ℕ = λ a. get_or (block b.periods b.reps) a 0 in
    (n, subst (λ k. IsTable (rates c.args.graph.now) n k c.args.table.now) (sym c.loop-i.invariant.wide) b.table)

pub fire_row-requires-clause-short : goal.fire_row-requires-clause-short
fire_row-requires-clause-short c = omega (
  arith,
  rows_small (rates c.args.graph.now) c.args.m c.args.table.now c.requires.table,
  c.loop-i-test.true,
)

pub loads-requires-clause-known : goal.loads-requires-clause-known
loads-requires-clause-known c =
    let b = c.requires.table in
    let cells = are_cells (rates c.args.graph.now) (λ a. get_or (block b.periods b.reps) a 0) c.args.table.now.rows
    b.table.valid in
    λ i j f e. omega (arith, (cells.known i j f e).0, c.requires.costs.all)

pub loads-requires-clause-short : goal.loads-requires-clause-short
loads-requires-clause-short c = rows_small (rates c.args.graph.now) c.args.m c.args.table.now
    c.requires.table

-- the walk at the end of the table
done : (c : In_ok-loads) → IsWalk (rates c.args.graph.now) (λ a. get_or c.args.costs.now a 0) c.args.table.now.rows
    (IsPast (length c.args.table.now.rows) 0) c.loop-i.starts.items c.loop-i.until.items
done c =
    let end : c.loop-i.i ≡ length c.args.table.now.rows =
    omega (arith, c.loop-i-test.false, c.loop-i.auto.i-end, c.rows-i-end.ensures) in
    subst (λ i. IsWalk (rates c.args.graph.now) (λ a. get_or c.args.costs.now a 0) c.args.table.now.rows (IsPast i 0)
    c.loop-i.starts.items c.loop-i.until.items) end c.loop-i.invariant.walk

pub returns-clause-starts : goal.returns-clause-starts
returns-clause-starts c =
    walk_starts (rates c.args.graph.now) (λ a. get_or c.args.costs.now a 0) c.args.table.now.rows c.loop-i.starts.items
    c.loop-i.until.items (done (goal.at.returns-clause-starts c).In_ok-loads)

pub returns-clause-has : goal.returns-clause-has
returns-clause-has c =
    walk_has (rates c.args.graph.now) (λ a. get_or c.args.costs.now a 0) c.args.table.now.rows c.loop-i.starts.items
    c.loop-i.until.items (done (goal.at.returns-clause-has c).In_ok-loads)

pub returns-clause-makespan : goal.returns-clause-makespan
returns-clause-makespan c =
    let most = subst (λ xs. IsGreatest (λ u. (j : ℕ) × (j < length xs) × (get_or xs j 0 ≡ u))
    c.greatest-makespan.result) c.deref.ensures.value c.greatest-makespan.ensures in
    walk_makespan (rates c.args.graph.now) (λ a. get_or c.args.costs.now a 0) c.args.table.now.rows
    c.loop-i.starts.items c.loop-i.until.items (done (goal.at.returns-clause-makespan c).In_ok-loads)
    (λ i l. c.requires.table.table.wide i l ∙ sym c.loop-i.invariant.wide) c.greatest-makespan.result most
