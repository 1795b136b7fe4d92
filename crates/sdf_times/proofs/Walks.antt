-- One cell more of a table.
use Rattle.std.proofs.Common.{◌≡◌, ℕ, ◌+◌, ◌≤◌, ◌<◌, ◌⊎◌, List, [], length, get_or}
use Rattle.std.proofs.Common.{replicate, inl, inr, sym, ap, ◌∙◌, arith, refl, Option, Some, None}
use Rattle.std.proofs.lemmas.List.{get_or_past, length-replicate}
use Rattle.std.proofs.lemmas.List.{get_or-replicate}
use Rattle.std.proofs.lemmas.Option.{none-some}
use Rattle.std.proofs.lemmas.Bool.{cases_lt, cases_eq}
use Rattle.sdf_graph.specs.Rates.{Rates}
use Rattle.sdf_prec.specs.declared.firing.Firing.{Firing}
use Rattle.sdf_prec.specs.Tables.{row, cell}
use Rattle.sdf_times.specs.Times.{IsGreatest, IsInTable, ComesBefore, AreStarts, IsMakespan, end_of}
use Rattle.sdf_times.specs.Times.{start_in, HasStart}
use Rattle.sdf_times.specs.Walks.{IsPast, IsColumnEnd, IsWalk}
use Rattle.sdf_times.proofs.Greatest.{greatest_same, greatest_none}
use Rattle.sdf_times.proofs.Cells.{AreCells, column_in, row_in}

-- what comes before a firing stands in an earlier row
pub before_earlier : (r : Rates) (n : ℕ → ℕ) (rows : List (List (Option Firing))) → AreCells r n rows →
    (k m : ℕ) (f g : Firing) → cell rows k m ≡ Some f → ComesBefore r rows g f →
    (i : ℕ) × (j : ℕ) × (i < k) × (cell rows i j ≡ Some g)
before_earlier r n rows cells k m f g e (inl waits) = cells.earlier k m f g e waits
before_earlier r n rows cells k m f g e (inr (i, x, j, low, above, at)) =
    let same = cells.once x j k m f at e in
    (i, j, omega (arith, same.0), above)

-- a walk by other cells that are passed, which are the same where firings stand
pub walk_same : (r : Rates) (cost : ℕ → ℕ) (rows : List (List (Option Firing))) (Past Past' : ℕ → ℕ → Type 0)
    (starts : List (List ℕ)) (until : List ℕ) →
    ((k m : ℕ) (f : Firing) → cell rows k m ≡ Some f → Past k m → Past' k m) →
    ((k m : ℕ) (f : Firing) → cell rows k m ≡ Some f → Past' k m → Past k m) →
    IsWalk r cost rows Past starts until → IsWalk r cost rows Past' starts until
walk_same r cost rows Past Past' starts until to from w = record {
  actors = w.actors;
  known = λ k m f e p. w.known k m f e (from k m f e p);
  only = λ f h. let at = w.only f h in (at.0, at.1, at.2, to at.0 at.1 f at.2 at.3);
  each = λ k m f e p. w.each k m f e (from k m f e p);
  early = λ k m f e p. w.early k m f e (from k m f e p);
  through = λ m l. greatest_same (IsColumnEnd cost rows Past (start_in starts) m)
      (IsColumnEnd cost rows Past' (start_in starts) m) (get_or until m 0)
      (λ u x. (x.0, x.1, x.2, to x.0 m x.1 x.2 x.3, x.4)) (λ u x. (x.0, x.1, x.2, from x.0 m x.1 x.2 x.3, x.4))
      (w.through m l);
}

-- an empty cell is passed
pub walk_skip : (r : Rates) (cost : ℕ → ℕ) (rows : List (List (Option Firing))) (i j : ℕ) (starts : List (List ℕ))
    (until : List ℕ) → cell rows i j ≡ None →
    IsWalk r cost rows (IsPast i j) starts until → IsWalk r cost rows (IsPast i (j + 1)) starts until
walk_skip r cost rows i j starts until none = walk_same r cost rows (IsPast i j) (IsPast i (j + 1)) starts until
    (λ k m f e p. to k m p) (λ k m f e p. from k m f e p)
  where
    to : (k m : ℕ) → IsPast i j k m → IsPast i (j + 1) k m
    to k m (inl low) = inl low
    to k m (inr (e, low)) = inr (e, omega arith)

    from : (k m : ℕ) (f : Firing) → cell rows k m ≡ Some f → IsPast i (j + 1) k m → IsPast i j k m
    from k m f e (inl low) = inl low
    from k m f e (inr (same, low)) = go (cases_eq m j)
      where
        go : (m ≡ j) ⊎ (m ≡ j → ⊥) → IsPast i j k m
        go (inl is) =
            let here : cell rows k m ≡ cell rows i j = ap (λ x. cell rows x m) same ∙ ap (cell rows i) is in
            absurd (none-some f (sym none ∙ (sym here ∙ e)))
        go (inr ne) = inr (same, omega arith)

-- and so is the end of a row
pub walk_row : (r : Rates) (cost : ℕ → ℕ) (rows : List (List (Option Firing))) (i j : ℕ) (starts : List (List ℕ))
    (until : List ℕ) → length (row rows i) ≤ j →
    IsWalk r cost rows (IsPast i j) starts until → IsWalk r cost rows (IsPast (i + 1) 0) starts until
walk_row r cost rows i j starts until past = walk_same r cost rows (IsPast i j) (IsPast (i + 1) 0) starts until
    (λ k m f e p. to k m p) (λ k m f e p. from k m f e p)
  where
    to : (k m : ℕ) → IsPast i j k m → IsPast (i + 1) 0 k m
    to k m (inl low) = inl (omega arith)
    to k m (inr (e, low)) = inl (omega arith)

    from : (k m : ℕ) (f : Firing) → cell rows k m ≡ Some f → IsPast (i + 1) 0 k m → IsPast i j k m
    from k m f e (inr (same, low)) = absurd (omega arith)
    from k m f e (inl low) = go (cases_eq k i)
      where
        go : (k ≡ i) ⊎ (k ≡ i → ⊥) → IsPast i j k m
        go (inl is) = inr (is, omega (arith, column_in (row rows k) m f e, ap (λ x. length (row rows x)) is))
        go (inr ne) = inl (omega arith)

-- before the first cell
pub walk_first : (r : Rates) (cost : ℕ → ℕ) (rows : List (List (Option Firing))) (starts : List (List ℕ))
    (until : List ℕ) → length starts ≡ r.actors →
    ((a : ℕ) → get_or starts a [] ≡ []) → ((m : ℕ) → get_or until m 0 ≡ 0) →
    IsWalk r cost rows (IsPast 0 0) starts until
walk_first r cost rows starts until all none zero = record {
  actors = all;
  known = λ k m f e p. absurd (no k m p);
  only = λ f h. absurd (empty f h);
  each = λ k m f e p. absurd (no k m p);
  early = λ k m f e p. absurd (no k m p);
  through = λ m l. greatest_none (IsColumnEnd cost rows (IsPast 0 0) (start_in starts) m) (get_or until m 0) (zero m)
      (λ u x. no x.0 m x.3);
}
  where
    no : (k m : ℕ) → IsPast 0 0 k m → ⊥
    no k m (inl low) = omega arith
    no k m (inr (e, low)) = omega arith

    empty : (f : Firing) → HasStart starts f → ⊥
    empty f h = omega (arith, ap (λ (xs : List ℕ). length xs) (none f.actor))

-- after the last cell: the times of the table
module _ (r : Rates) (cost : ℕ → ℕ) (rows : List (List (Option Firing))) (starts : List (List ℕ)) (until : List ℕ)
    (w : IsWalk r cost rows (IsPast (length rows) 0) starts until) where
  pub walk_starts : AreStarts r cost rows (start_in starts)
  walk_starts f (i, j, e) = w.each i j f e (inl (row_in rows i j f e))

  pub walk_has : (f : Firing) → IsInTable rows f → HasStart starts f
  walk_has f (i, j, e) = w.known i j f e (inl (row_in rows i j f e))

  pub walk_makespan : ((i : ℕ) → i < length rows → length (row rows i) ≡ length until) → (t : ℕ) →
      IsGreatest (λ u. (j : ℕ) × (j < length until) × (get_or until j 0 ≡ u)) t →
      IsMakespan cost rows (start_in starts) t
  walk_makespan wide t g = record { above = λ u x. above u x.0 x.1.0 x.1.1 x.1.2 x.2; reached = reach g.reached }
    where
      above : (u : ℕ) (f : Firing) (i j : ℕ) → cell rows i j ≡ Some f → end_of cost (start_in starts) f ≡ u → u ≤ t
      above u f i j e is =
          let l = row_in rows i j f e in
          let known : j < length until = omega (arith, wide i l, column_in (row rows i) j f e) in
          let low : u ≤ get_or until j 0 = (w.through j known).above u (i, f, e, inl l, is) in
          let high : get_or until j 0 ≤ t = g.above (get_or until j 0) (j, known, refl) in
          omega arith

      by : (j : ℕ) → get_or until j 0 ≡ t → (get_or until j 0 ≡ 0)
          ⊎ IsColumnEnd cost rows (IsPast (length rows) 0) (start_in starts) j (get_or until j 0) →
          (t ≡ 0) ⊎ ((f : Firing) × IsInTable rows f × (end_of cost (start_in starts) f ≡ t))
      by j is (inl z) = inl (sym is ∙ z)
      by j is (inr (k, f, e, p, at)) = inr (f, (k, j, e), at ∙ is)

      reach : (t ≡ 0) ⊎ ((j : ℕ) × (j < length until) × (get_or until j 0 ≡ t)) →
          (t ≡ 0) ⊎ ((f : Firing) × IsInTable rows f × (end_of cost (start_in starts) f ≡ t))
      reach (inl z) = inl z
      reach (inr (j, l, is)) = by j is (w.through j l).reached

pub zeros : (m i : ℕ) → ◌≡◌ {A = ℕ} (get_or (replicate m 0) i 0) 0
zeros m i = go (cases_lt i m)
  where
    go : (i < m) ⊎ (m ≤ i) → ◌≡◌ {A = ℕ} (get_or (replicate m 0) i 0) 0
    go (inl low) = get_or-replicate m i 0 0 low
    go (inr high) = get_or_past (replicate m 0) i 0 (omega (arith, length-replicate {A = ℕ} m 0))
