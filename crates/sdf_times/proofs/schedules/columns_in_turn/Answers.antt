use Rattle.std.proofs.Common.{◌≡◌, ℕ, ◌≤◌, ◌<◌, ◌⊎◌, below_more, refl, get_or, inl, inr, List, length, Option, Some}
use Rattle.std.proofs.Common.{arith}
use Rattle.std.proofs.lemmas.Bool.{cases_lt}
use Rattle.sdf_prec.specs.declared.firing.Firing.{Firing}
use Rattle.sdf_prec.specs.Tables.{row, cell}
use Rattle.sdf_times.specs.Checks.{IsColumnInTurn}
use Rattle.sdf_times.proofs.Cells.{column_in, row_in}
use Rattle.sdf_times.proofs.schedules.columns_in_turn.Goals as goal

pub loop-column-preserved : goal.loop-column-preserved
loop-column-preserved c =
    below_more (λ j. IsColumnInTurn c.args.table.now.rows (λ a. get_or c.args.costs.now a 0) c.args.starts.now c.args.t
    c.args.q j) c.loop-column.column c.loop-column.invariant (c.if-not-column_in_turn.ensures.0 refl)

-- past the last column no firing stands
past : (rows : List (List (Option Firing))) (cost : ℕ → ℕ) (starts : List (List ℕ)) (t q width : ℕ) →
    ((i : ℕ) → i < length rows → length (row rows i) ≡ width) → (j : ℕ) → width ≤ j →
    IsColumnInTurn rows cost starts t q j
past rows cost starts t q width wide j high = record {
  next = λ k i g f e d l. absurd (none k g e);
  round = λ k i g f e d. absurd (none k g e);
}
  where
    none : (k : ℕ) (g : Firing) → cell rows k j ≡ Some g → ⊥
    none k g e = omega (arith, column_in (row rows k) j g e, wide k (row_in rows k j g e))

pub returns : goal.returns
returns c = (λ _ j. go j (cases_lt j c.loop-column.column), λ _. refl)
  where
    go : (j : ℕ) → (j < c.loop-column.column) ⊎ (c.loop-column.column ≤ j) →
        IsColumnInTurn c.args.table.now.rows (λ a. get_or c.args.costs.now a 0) c.args.starts.now c.args.t c.args.q j
    go j (inl low) = c.loop-column.invariant j low
    go j (inr high) = past c.args.table.now.rows (λ a. get_or c.args.costs.now a 0) c.args.starts.now c.args.t c.args.q
        c.columns-column-end.result c.columns-column-end.ensures j (omega (arith, high, c.loop-column-test.false))
