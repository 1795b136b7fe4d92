-- From marks to the tests of rows.
use Rattle.std.proofs.Common.{◌≡◌, ℕ, ◌≤◌, ◌<◌, List, length, get_or, take, sum, sym, ap, ◌∙◌, subst, inl, inr, ◌⊎◌}
use Rattle.std.proofs.Common.{arith, Option, Some, None, MatchOption}
use Rattle.std.proofs.lemmas.List.{take_all, get_or_past}
use Rattle.std.proofs.lemmas.List.Sums.{sum_by_more_le}
use Rattle.std.proofs.lemmas.Bool.{cases_lt}
use Rattle.sdf_graph.specs.Rates.{Rates, IsSound, GraphValue, IsShape, rates}
use Rattle.sdf_prec.specs.Blocks.{block}
use Rattle.sdf_prec.specs.declared.firing.Firing.{Firing}
use Rattle.sdf_prec.specs.declared.fault.PrecFault.{PrecFault}
use Rattle.sdf_prec.specs.declared.fault.PrecFault.TheVariants.{FiringMissing, TooEarly}
use Rattle.sdf_prec.specs.Tables.{firing, firings, row, order, Stands, IsOfBlock, IsValid}
use Rattle.sdf_prec.specs.Numbers.{NumbersValue, InBlock, number}
use Rattle.sdf_prec.specs.Seen.{AreFresh, AreMarked, IsMarkedBy, IsCellsFault, IsLateAt}
use Rattle.sdf_prec.specs.Refusals.{before, AreNarrow, IsFresh, IsBefore, IsInTime, IsEarlier, CellsPass, AllPass}
use Rattle.sdf_prec.specs.Refusals.{IsAtCell, StandsFirst}
use Rattle.sdf_prec.proofs.RowMarks.{in_order, marked_earlier, in_time_earlier, first_late_earlier}
use Rattle.sdf_prec.proofs.Theorems.{needs_exist, tests_suffice}

-- no actor of a block fires more often than all together
pub one_of_all : (n : List ℕ) (most : ℕ) → sum n ≤ most → (a : ℕ) → get_or n a 0 ≤ most
one_of_all n most h a = go (cases_lt a (length n))
  where
    go : (a < length n) ⊎ (length n ≤ a) → get_or n a 0 ≤ most
    go (inl l) = omega (arith, sum_by_more_le (λ x. x) n a 0 l)
    go (inr past) = omega (arith, get_or_past n a 0 past)

module _ (r : Rates) (n : List ℕ) (each : length n ≡ r.actors) (width : ℕ) (rows : List (List (Option Firing))) where
  of_block : (f : Firing) → InBlock n f → IsOfBlock r (λ a. get_or n a 0) f
  of_block f (known, low) = (omega arith, low)

  in_block : (f : Firing) → IsOfBlock r (λ a. get_or n a 0) f → InBlock n f
  in_block f (known, low) = (omega arith, low)

  fresh_of : (fs : List Firing) → AreFresh n fs → IsFresh r (λ a. get_or n a 0) fs
  fresh_of fs fresh p l = (of_block (firing fs p) (fresh p l).0, (fresh p l).1)

  known_or_not : (f : Firing) → InBlock n f ⊎ (InBlock n f → ⊥)
  known_or_not f = go (cases_lt f.actor (length n)) (cases_lt f.number (get_or n f.actor 0))
    where
      go : (f.actor < length n) ⊎ (length n ≤ f.actor) →
          (f.number < get_or n f.actor 0) ⊎ (get_or n f.actor 0 ≤ f.number) → InBlock n f ⊎ (InBlock n f → ⊥)
      go (inl known) (inl low) = inl (known, low)
      go (inr past) x = inr (λ b. let k = b.0 in absurd (omega arith))
      go (inl known) (inr high) = inr (λ b. let k = b.1 in absurd (omega arith))

  pub cells_fault : (e : PrecFault) → IsCellsFault n width rows e → StandsFirst r (λ a. get_or n a 0) width rows e
  cells_fault e (inl (i, is, l, narrow, fresh, wide)) =
      subst (StandsFirst r (λ a. get_or n a 0) width rows) (sym is)
      (l, narrow, fresh_of (order (take i rows)) fresh, wide)
  cells_fault e (inr (i, f, fault, at)) = go (known_or_not f)
    where
      cell_at : IsAtCell r (λ a. get_or n a 0) width rows i at.column f
      cell_at = record {
        row_in = at.row_in;
        narrow = at.narrow;
        column_in = at.column_in;
        is = at.is;
        fresh = fresh_of (before rows i at.column) at.fresh;
      }

      go : InBlock n f ⊎ (InBlock n f → ⊥) → StandsFirst r (λ a. get_or n a 0) width rows e
      go (inl known) = subst (StandsFirst r (λ a. get_or n a 0) width rows) (sym (fault.0 known))
          (at.column, cell_at, of_block f known, at.again known)
      go (inr unknown) = subst (StandsFirst r (λ a. get_or n a 0) width rows) (sym (fault.1 unknown))
          (at.column, cell_at, λ b. unknown (in_block f b))

  module _ (s : NumbersValue) (same : s.firings ≡ n) (fs : List Firing)
      (m : AreMarked width rows (length rows) s fs) where
    whole : fs ≡ order rows
    whole = m.order_is ∙ ap order (take_all (length rows) rows (omega arith))

    kept : (f : Firing) → InBlock n f → InBlock s.firings f
    kept f k = subst (λ n. InBlock n f) (sym same) k

    cells_pass : CellsPass r (λ a. get_or n a 0) width rows
    cells_pass = record {
      narrow = m.narrow;
      fresh = subst (IsFresh r (λ a. get_or n a 0)) whole
          (fresh_of fs (subst (λ n. AreFresh n fs) same m.fresh));
    }

    stands : (f : Firing) → IsOfBlock r (λ a. get_or n a 0) f → 0 < number s f → Stands (order rows) f
    stands f k some = subst (λ fs. Stands fs f) whole ((m.marked f (kept f (in_block f k))).0 some)

    pub missing_fault : (f : Firing) → InBlock s.firings f → number s f ≡ 0 →
        ((g : Firing) → InBlock s.firings g → IsBefore g f → 0 < number s g) →
        StandsFirst r (λ a. get_or n a 0) width rows (FiringMissing f)
    missing_fault f k none before = (
      cells_pass,
      of_block f (subst (λ n. InBlock n f) same k),
      λ st. let some = (m.marked f k).1 (subst (λ fs. Stands fs f) (sym whole) st) in absurd (omega arith),
      λ g l low. stands g l (before g (kept g (in_block g l)) low),
    )

    pub known_in : (i : ℕ) (f : Firing) → i < length rows → Stands (firings (row rows i)) f → InBlock s.firings f
    known_in i f l st =
        let all : Stands fs f = subst (λ fs. Stands fs f) (sym m.order_is) (in_order rows i (length rows) f l l st) in
        subst (InBlock s.firings) all.2 (m.fresh all.0 all.1).0

    module _ (all : (f : Firing) → InBlock s.firings f → 0 < number s f) where
      all_stand : (f : Firing) → IsOfBlock r (λ a. get_or n a 0) f → Stands (order rows) f
      all_stand f k = stands f k (all f (kept f (in_block f k)))

      to_rows : (i : ℕ) → i ≤ length rows → (g : Firing) → IsMarkedBy s i g → IsEarlier rows i g
      to_rows i h g = (marked_earlier width rows s fs m i h g).0

      to_marks : (i : ℕ) → i ≤ length rows → (g : Firing) → IsEarlier rows i g → IsMarkedBy s i g
      to_marks i h g = (marked_earlier width rows s fs m i h g).1

      pub late_or_pass : (o : Option PrecFault) → MatchOption o
          ((i : ℕ) (f : Firing) → i < length rows → Stands (firings (row rows i)) f → IsInTime r (IsMarkedBy s i) f)
          (λ e. (i : ℕ) × (f : Firing) × (g : Firing) × (e ≡ TooEarly i f g) × (i < length rows)
          × IsLateAt r s rows i f g) →
          MatchOption o (AllPass r (λ a. get_or n a 0) width rows) (StandsFirst r (λ a. get_or n a 0) width rows)
      late_or_pass None late = record {
        cells = cells_pass;
        all = all_stand;
        in_time = λ i l f st. in_time_earlier r f (IsMarkedBy s i) (IsEarlier rows i) (to_rows i (omega arith))
            (late i f l st);
      }
      late_or_pass (Some e) (i, f, g, is, l, at) = subst (StandsFirst r (λ a. get_or n a 0) width rows) (sym is) (
        cells_pass,
        all_stand,
        (
          at.column,
          l,
          at.column_in,
          at.is,
          λ k h low st. in_time_earlier r h (IsMarkedBy s k) (IsEarlier rows k) (to_rows k (omega arith))
              (at.before k h low st),
          λ h st. in_time_earlier r h (IsMarkedBy s i) (IsEarlier rows i) (to_rows i (omega arith)) (at.in_row h st),
          first_late_earlier r f g (IsMarkedBy s i) (IsEarlier rows i) (to_rows i (omega arith))
              (to_marks i (omega arith)) at.first,
        ),
      )

-- rows of which no test fails are valid
pub valid_if_none : (g : GraphValue) → IsShape g → IsSound (rates g) →
    (reps : List ℕ) (j width : ℕ) (o : Option PrecFault) (given rows : List (List (Option Firing))) (n : List ℕ) →
    o ≡ None → given ≡ rows → n ≡ block j reps → MatchOption o (AllPass (rates g) (λ a. get_or n a 0) width given)
    (StandsFirst (rates g) (λ a. get_or n a 0) width given) →
    AreNarrow width rows (length rows) × IsValid (rates g) (λ a. get_or (block j reps) a 0) rows
valid_if_none g ok sound reps j width o given rows n none same is tested =
    let all : AllPass (rates g) (λ a. get_or n a 0) width given =
    subst (λ o. MatchOption o (AllPass (rates g) (λ a. get_or n a 0) width given)
    (StandsFirst (rates g) (λ a. get_or n a 0) width given)) none tested in
    let pass : AllPass (rates g) (λ a. get_or (block j reps) a 0) width rows =
    subst (λ n. AllPass (rates g) (λ a. get_or n a 0) width rows) is
    (subst (AllPass (rates g) (λ a. get_or n a 0) width) same all) in
    let m : ℕ → ℕ = λ a. get_or (block j reps) a 0 in
    (pass.cells.narrow, tests_suffice (rates g) m width rows sound (needs_exist g ok) pass)
