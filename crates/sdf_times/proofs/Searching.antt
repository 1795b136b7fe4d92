-- What a search needs of a table for whole periods.
use Rattle.std.proofs.Common.{◌≡◌, ◌∙◌, ℕ, ◌+◌, ◌*◌, ◌≤◌, ◌<◌, List, [], ◌∷◌, length, get_or, sum, ap, arith, Some}
use Rattle.std.proofs.lemmas.List.Sums.{sum_by-cons}
use Rattle.sdf_limits.specs.declared.TheConstants.{MAX_BLOCK}
use Rattle.sdf_graph.specs.Rates.{GraphValue, IsShape, rates}
use Rattle.sdf_prec.specs.Blocks.{block}
use Rattle.sdf_prec.specs.Numbers.{InBlock}
use Rattle.sdf_prec.specs.Tables.{TableValue, cell}
use Rattle.sdf_prec.specs.declared.firing.Firing.{Firing}
use Rattle.sdf_times.specs.Checks.{IsBlockRun}
use Rattle.sdf_times.proofs.Cells.{are_cells}
use Rattle.sdf_times.proofs.Caps.{rows_small}
use Rattle.sdf_times.proofs.Settings.{fires}
use Rattle.sdf_times.proofs.Spans.{block_length}

block_sum : (j : ℕ) (reps : List ℕ) → sum (block j reps) ≡ j * sum reps
block_sum j [] = omega arith
block_sum j (x ∷ xs) =
    let ih = block_sum j xs in
    let more = sum_by-cons (λ y. y) x xs in
    let all : j * sum (x ∷ xs) ≡ j * (x + sum xs) = ap (λ k. j * k) more in
    omega (arith, ih, all, sum_by-cons (λ y. y) (j * x) (block j xs))

module _ (g : GraphValue) (reps : List ℕ) (j width : ℕ) (t : TableValue) (costs : List ℕ)
    (run : IsBlockRun g reps j width t costs) where
  pub actors_are : length (block j reps) ≡ g.actors
  actors_are = block_length j reps ∙ run.period.all

  pub cells_known : (i k : ℕ) (f : Firing) → cell t.rows i k ≡ Some f → InBlock (block j reps) f
  cells_known i k f e =
      let of = (are_cells (rates g) (λ a. get_or (block j reps) a 0) t.rows run.table.valid).known i k f e in
      (omega (arith, of.0, actors_are), of.1)

  pub costs_known : (i k : ℕ) (f : Firing) → cell t.rows i k ≡ Some f → f.actor < length costs
  costs_known i k f e = omega (arith, (cells_known i k f e).0, actors_are, run.costs_are.all)

  pub block_few : sum (block j reps) ≤ MAX_BLOCK
  block_few = omega (arith, block_sum j reps, run.short)

  pub rows_few : length t.rows ≤ MAX_BLOCK
  rows_few = rows_small (rates g) width t (record {
    periods = j;
    reps = reps;
    all = run.period.all;
    short = run.short;
    table = run.table;
  })

  pub all_fire : IsShape g → (a : ℕ) → a < length (block j reps) → 0 < get_or (block j reps) a 0
  all_fire shape a l = fires g shape reps j width t costs run a (omega (arith, l, actors_are))
