-- How many rows a table has.
use Rattle.std.proofs.Common.{◌≡◌, ℕ, suc, ◌*◌, ◌≤◌, ◌<◌, List, [], ◌∷◌, length, get_or, refl, ap, arith, Option, Some}
use Rattle.std.proofs.Common.{None}
use Rattle.std.specs.Prelude.{sum}
use Rattle.std.proofs.Math.Nat.{mul-le-mul_left}
use Rattle.std.proofs.lemmas.List.Sums.{get_or-le-sum_by}
use Rattle.std.proofs.lemmas.List.{length-map, length-append}
use Rattle.sdf_limits.specs.declared.TheConstants.{MAX_BLOCK}
use Rattle.sdf_graph.specs.Rates.{Rates}
use Rattle.sdf_graph.specs.Sequences.{repeated}
use Rattle.sdf_prec.specs.declared.firing.Firing.{Firing}
use Rattle.sdf_prec.specs.Tables.{firings, row, order, sequence, TableValue}
use Rattle.sdf_prec.specs.Blocks.{IsShort}
use Rattle.sdf_prec.proofs.Theorems.{tables_count}
use Rattle.sdf_prec.specs.BlockTables.{IsTableOf}

-- rows with some firing are no more than their firings
some_each : (rows : List (List (Option Firing))) → ((i : ℕ) → i < length rows → 0 < length (firings (row rows i))) →
    length rows ≤ length (order rows)
some_each [] some = omega arith
some_each (cells ∷ rows) some =
    let ih = some_each rows (λ i h. some (suc i) (omega arith)) in
    omega (arith, ih, some 0 (omega arith), length-append (firings cells) (order rows))

-- a table has no more rows than its block has firings
pub rows_few : (r : Rates) (q : List ℕ) (j : ℕ) (t : TableValue) → length q ≡ r.actors → IsTableOf r q j t →
    length t.rows ≤ MAX_BLOCK
rows_few r q j t all is =
    let once : repeated 1 t.order ≡ t.order = refl in
    let order_is : t.order ≡ sequence t.rows = is.table.exact.order_is in
    omega (
      arith,
      tables_count r q j is.width t 1 all is.table,
      ap length once,
      ap length order_is,
      is.short,
      some_each t.rows is.table.some,
      length-map (order t.rows) (λ (f : Firing). f.actor),
    )

-- a block has no more periods than firings
pub factor_few : (j : ℕ) (q : List ℕ) {actors : ℕ} → 0 < actors → length q ≡ actors →
    ((a : ℕ) → a < actors → 0 < get_or q a 0) → IsShort j q → j ≤ MAX_BLOCK
factor_few j q some all positive short =
    let one : 1 ≤ sum q = omega (arith, positive 0 some, get_or-le-sum_by (λ x. x) q 0 0 (omega (arith, all, some))) in
    let more : j * 1 ≤ j * sum q = mul-le-mul_left j one in
    omega (arith, more, short)

-- a row has no more firings than columns
pub firings_few : (cells : List (Option Firing)) → length (firings cells) ≤ length cells
firings_few [] = omega arith
firings_few (None ∷ cells) = let ih = firings_few cells in omega (arith, ih)
firings_few (Some f ∷ cells) = let ih = firings_few cells in omega (arith, ih)
