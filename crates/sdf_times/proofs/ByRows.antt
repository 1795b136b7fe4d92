-- No table ends later than it would row by row.
use Rattle.std.proofs.Common.{◌≡◌, ℕ, zero, suc, ◌+◌, ◌≤◌, ◌<◌, ◌⊎◌, List, length, inl, inr, ap, arith}
use Rattle.std.proofs.Common.{Option, Some}
use Rattle.std.proofs.lemmas.Bool.{cases_eq}
use Rattle.sdf_graph.specs.Rates.{Rates, sum_to}
use Rattle.sdf_graph.proofs.Theorems.{sums_rise}
use Rattle.sdf_prec.specs.declared.firing.Firing.{Firing}
use Rattle.sdf_prec.specs.Tables.{row, cell}
use Rattle.sdf_times.specs.Times.{IsInTable, ComesBefore, end_of, AreStarts, cost_in}
use Rattle.sdf_times.specs.ByRows.{greatest_to, row_time, time_by_rows, RowsTakeLonger}
use Rattle.sdf_times.proofs.Greatest.{greatest_least}
use Rattle.sdf_times.proofs.Cells.{AreCells, are_cells, column_in, row_in}
use Rattle.sdf_times.proofs.Walks.{before_earlier}

greatest_step : (f : ℕ → ℕ) (i j : ℕ) → j < suc i → (j < i → f j ≤ greatest_to f i) → (j ≡ i) ⊎ (j ≡ i → ⊥) →
    f j ≤ greatest_to f (suc i)
greatest_step f i j l ih (inl e) = omega (arith, ap f e)
greatest_step f i j l ih (inr ne) = omega (arith, ih (omega arith))

-- each of the first values is no greater than the greatest
pub greatest_above : (f : ℕ → ℕ) (i j : ℕ) → j < i → f j ≤ greatest_to f i
greatest_above f zero j l = absurd (omega arith)
greatest_above f (suc i) j l = greatest_step f i j l (λ h. greatest_above f i j h) (cases_eq j i)

module _ (r : Rates) (n cost : ℕ → ℕ) (rows : List (List (Option Firing))) (cells : AreCells r n rows) where
  abbrev until : ℕ → ℕ
  until i = sum_to (row_time cost rows) i

  -- the cost of a firing is within what its row takes
  pub cost_within : (k m : ℕ) (f : Firing) → cell rows k m ≡ Some f → until k + cost f.actor ≤ until (suc k)
  cost_within k m f e =
      let low = greatest_above (λ j. cost_in cost (cell rows k j)) (length (row rows k)) m
      (column_in (row rows k) m f e) in
      omega (arith, low, ap (cost_in cost) e)

  pub until_rises : (i k : ℕ) → i ≤ k → until i ≤ until k
  until_rises i k l = sums_rise (row_time cost rows) i k l

  module _ (start : Firing → ℕ) (starts : AreStarts r cost rows start) where
    start_at : (k m : ℕ) (f : Firing) → cell rows k m ≡ Some f →
        ((x y : ℕ) (g : Firing) → x < k → cell rows x y ≡ Some g → start g ≤ until x) → start f ≤ until k
    start_at k m f e before =
        greatest_least (λ t. (g : Firing) × ComesBefore r rows g f × (end_of cost start g ≡ t)) (start f) (until k)
        (starts f (k, m, e)) (λ u w. low u w.0 w.1 w.2)
      where
        low : (u : ℕ) (g : Firing) → ComesBefore r rows g f → end_of cost start g ≡ u → u ≤ until k
        low u g b is =
            let at = before_earlier r n rows cells k m f g e b in
            omega (
              arith,
              before at.0 at.1 g at.2 at.3,
              is,
              cost_within at.0 at.1 g at.3,
              until_rises (suc at.0) k (omega (arith, at.2)),
            )

    start_to : (i k m : ℕ) (f : Firing) → k < i → cell rows k m ≡ Some f → start f ≤ until k
    start_to zero k m f l e = absurd (omega arith)
    start_to (suc i) k m f l e = start_at k m f e (λ x y g low at. start_to i x y g (omega arith) at)

    end_within : (u : ℕ) (f : Firing) → IsInTable rows f → end_of cost start f ≡ u → u ≤ until (length rows)
    end_within u f (k, m, e) is =
        omega (
          arith,
          start_to (suc k) k m f (omega arith) e,
          is,
          cost_within k m f e,
          until_rises (suc k) (length rows) (omega (arith, row_in rows k m f e)),
        )

pub rows_take_longer : RowsTakeLonger
rows_take_longer r n cost rows start makespan v starts last =
    greatest_least (λ u. (f : Firing) × IsInTable rows f × (end_of cost start f ≡ u)) makespan
    (time_by_rows cost rows) last
    (λ u w. end_within r n cost rows (are_cells r n rows v) start starts u w.0 w.1 w.2)
