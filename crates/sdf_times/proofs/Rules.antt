-- In rows by Hu's rule no firing starts later than its row.
use Rattle.std.proofs.Common.{◌≡◌, ℕ, zero, suc, ◌+◌, ◌≤◌, ◌<◌, ◌⊎◌, List, [], ◌∷◌, length, get_or, take, inl, inr}
use Rattle.std.proofs.Common.{sym, ap, ◌∙◌, subst, arith, refl, Option, Some, Bool, true, false}
use Rattle.std.specs.Prelude.{slice_get}
use Rattle.std.proofs.lemmas.List.{get_or-take, get_or_default, get_or_past, length-take}
use Rattle.std.proofs.lemmas.Option.{none-some, same_Some}
use Rattle.std.proofs.lemmas.Bool.{cases_lt}
use Rattle.sdf_graph.specs.Rates.{Rates}
use Rattle.sdf_prec.specs.declared.firing.Firing.{Firing}
use Rattle.sdf_prec.specs.Tables.{firing, row, cell_of, cell}
use Rattle.sdf_prec.specs.TimedRows.{Timed, no_row, timed, cells_of, StandsAt, end_at, IsBusy, IsReadyAt}
use Rattle.sdf_prec.specs.TimedRows.{AreTimedRows, hu_rule}
use Rattle.sdf_times.specs.Times.{ComesBefore, AreStarts, end_of}
use Rattle.sdf_times.specs.Laws.{RowsAreNoSooner}
use Rattle.sdf_times.proofs.Greatest.{greatest_least}
use Rattle.sdf_times.proofs.Cells.{AreCells, are_cells}

row_at : (rows : List Timed) (i : ℕ) → row (cells_of rows) i ≡ (timed rows i).cells
row_at [] i = refl
row_at (x ∷ rows) zero = refl
row_at (x ∷ rows) (suc i) = row_at rows i

pub cell_at : (rows : List Timed) (i j : ℕ) → cell (cells_of rows) i j ≡ cell_of (timed rows i).cells j
cell_at rows i j = ap (λ cells. cell_of cells j) (row_at rows i)

got : (fs : List Firing) (p : ℕ) (f : Firing) → slice_get fs p ≡ Some f → (p < length fs) × (firing fs p ≡ f)
got [] p f e = absurd (none-some f e)
got (g ∷ fs) zero f e = (omega arith, same_Some g f e)
got (g ∷ fs) (suc p) f e = let at = got fs p f e in (omega (arith, at.0), at.1)

pub timed_take : (rows : List Timed) (i k : ℕ) → k < i → timed (take i rows) k ≡ timed rows k
timed_take rows i k l = get_or-take i rows k no_row l

-- what stands in the first i rows
pub at_take : (rows : List Timed) (i k j : ℕ) (g : Firing) → StandsAt (take i rows) k j g →
    (k < i) × StandsAt rows k j g
at_take rows i k j g e = go (cases_lt k i)
  where
    go : (k < i) ⊎ (i ≤ k) → (k < i) × StandsAt rows k j g
    go (inl low) = (low, subst (λ (x : Timed). cell_of x.cells j ≡ Some g) (timed_take rows i k low) e)
    go (inr high) =
        let none : timed (take i rows) k ≡ no_row = get_or_past (take i rows) k no_row
        (omega (arith, length-take i rows)) in
        absurd (none-some g (subst (λ (x : Timed). cell_of x.cells j ≡ Some g) none e))

module _ (r : Rates) (n cost : ℕ → ℕ) (level : Firing → ℕ) (width : ℕ) where
  -- a firing of the rule's row is ready, and its column is not busy
  by_rule : (homed : Bool) (past : List Timed) (t : ℕ) (cells : List (Option Firing)) (j : ℕ) (f : Firing) →
      hu_rule r n cost level width homed past t cells → cell_of cells j ≡ Some f →
      IsReadyAt r n cost past t f × (IsBusy cost past t j → ⊥)
  by_rule true past t cells j f h e =
      let st = h.placed.only j f e in
      let at : cell_of cells j ≡ Some (firing h.queue st.0) = e ∙ ap Some (sym st.2) in
      let place = ((h.placed.each st.0 st.1).stands j).0 at in
      (subst (IsReadyAt r n cost past t) st.2 (h.ready.each st.0 st.1), place.is_free.0)
  by_rule false past t cells j f h e =
      let in_columns = h.filled.only j f e in
      let p : ℕ = in_columns.0 in
      let is : get_or h.columns p 0 ≡ j = get_or_default h.columns p 0 j in_columns.1 ∙ in_columns.2 in
      let at = got h.queue p f (sym (h.filled.filled p in_columns.1) ∙ (ap (cell_of cells) is ∙ e)) in (
        subst (IsReadyAt r n cost past t) at.1 (h.ready.each p at.0),
        subst (λ m. IsBusy cost past t m → ⊥) is (h.idle.each p in_columns.1).1,
      )

  module _ (homed : Bool) (rows : List Timed) (start : Firing → ℕ)
      (are : AreTimedRows r n width (hu_rule r n cost level width homed) rows) (cells : AreCells r n (cells_of rows))
      (starts : AreStarts r cost (cells_of rows) start) where
    pub within : (i j : ℕ) (f : Firing) → StandsAt rows i j f → i < length rows
    within i j f e = go (cases_lt i (length rows))
      where
        go : (i < length rows) ⊎ (length rows ≤ i) → i < length rows
        go (inl low) = low
        go (inr past) = absurd (none-some f (subst (λ (x : Timed). cell_of x.cells j ≡ Some f)
            (get_or_past rows i no_row past) e))

    no_later_at : (i j : ℕ) (f : Firing) → StandsAt rows i j f →
        ((k m : ℕ) (g : Firing) → k < i → StandsAt rows k m g → start g ≤ (timed rows k).start) →
        start f ≤ (timed rows i).start
    no_later_at i j f e before =
        greatest_least (λ t. (g : Firing) × ComesBefore r (cells_of rows) g f × (end_of cost start g ≡ t)) (start f)
        (timed rows i).start (starts f (i, j, here)) (λ u w. low u w.0 w.1 w.2)
      where
        here : cell (cells_of rows) i j ≡ Some f
        here = cell_at rows i j ∙ e

        rule : IsReadyAt r n cost (take i rows) (timed rows i).start f
            × (IsBusy cost (take i rows) (timed rows i).start j → ⊥)
        rule = by_rule homed (take i rows) (timed rows i).start (timed rows i).cells j f
            (are.rows_are i (within i j f e)).by_rule e

        -- a firing of an earlier row has ended where the rule says so
        ended : (k m : ℕ) (g : Firing) → StandsAt (take i rows) k m g →
            end_at cost (take i rows) k g ≤ (timed rows i).start → end_of cost start g ≤ (timed rows i).start
        ended k m g at l =
            let x = at_take rows i k m g at in
            let same : (timed (take i rows) k).start ≡ (timed rows k).start =
            ap (λ (x : Timed). x.start) (timed_take rows i k x.0) in
            omega (arith, before k m g x.0 x.1, same, l)

        column : (k : ℕ) (g : Firing) → StandsAt (take i rows) k j g →
            (end_at cost (take i rows) k g ≤ (timed rows i).start)
            ⊎ ((timed rows i).start < end_at cost (take i rows) k g) → end_of cost start g ≤ (timed rows i).start
        column k g at (inl l) = ended k j g at l
        column k g at (inr late) = absurd (rule.1 (k, g, at, late))

        turn : (m k : ℕ) → (m < k) ⊎ (k ≤ m) → (k ≤ m) ⊎ (m < k)
        turn m k (inl l) = inr l
        turn m k (inr l) = inl l

        low : (u : ℕ) (g : Firing) → ComesBefore r (cells_of rows) g f → end_of cost start g ≡ u →
            u ≤ (timed rows i).start
        low u g (inl waits) is = let at = rule.0.waits g waits in omega (arith, ended at.0 at.1 g at.2 at.3, is)
        low u g (inr (k, x, y, l, up, at)) is =
            let same = cells.once x y i j f at here in
            let less : k < i = omega (arith, same.0) in
            let there : StandsAt rows k j g = sym (cell_at rows k j)
            ∙ (ap (cell (cells_of rows) k) (sym same.1) ∙ up) in
            let past : StandsAt (take i rows) k j g = subst (λ (x : Timed). cell_of x.cells j ≡ Some g)
            (sym (timed_take rows i k less)) there in
            omega (
              arith,
              column k g past (turn (timed rows i).start (end_at cost (take i rows) k g)
                  (cases_lt (timed rows i).start (end_at cost (take i rows) k g))),
              is,
            )

    no_later_to : (i k m : ℕ) (f : Firing) → k < i → StandsAt rows k m f → start f ≤ (timed rows k).start
    no_later_to zero k m f l e = absurd (omega arith)
    no_later_to (suc i) k m f l e = no_later_at k m f e (λ x y g low at. no_later_to i x y g (omega arith) at)

    pub no_later : (i j : ℕ) (f : Firing) → StandsAt rows i j f → start f ≤ (timed rows i).start
    no_later i j f e = no_later_to (i + 1) i j f (omega arith) e

pub rows_are_no_sooner : RowsAreNoSooner
rows_are_no_sooner r n cost level width homed rows start are v starts =
    no_later r n cost level width homed rows start are (are_cells r n (cells_of rows) v) starts
