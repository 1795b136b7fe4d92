-- Rows that are refused are no valid table within the width.
use Rattle.std.proofs.Common.{◌≡◌, ℕ, ◌+◌, ◌≤◌, ◌<◌, List, [], ◌∷◌, ◌++◌, length, take, drop, sym, ap, ◌∙◌, subst, inl}
use Rattle.std.proofs.Common.{inr, ◌⊎◌, arith, Option}
use Rattle.std.proofs.lemmas.List.{take_all, take-append-drop, length-append, get_or_append_left, append_assoc}
use Rattle.std.proofs.lemmas.List.Concat.{flat_map-append}
use Rattle.std.proofs.lemmas.Bool.{cases_lt}
use Rattle.sdf_graph.specs.Rates.{Rates}
use Rattle.sdf_prec.specs.declared.firing.Firing.{Firing}
use Rattle.sdf_prec.specs.declared.fault.PrecFault.{PrecFault}
use Rattle.sdf_prec.specs.declared.fault.PrecFault.TheVariants.{OutOfMemory, BlockingFactor, WorkerCount, BlockTooLong}
use Rattle.sdf_prec.specs.declared.fault.PrecFault.TheVariants.{FiringMissing, FiringTwice, FiringUnknown, RowTooWide}
use Rattle.sdf_prec.specs.declared.fault.PrecFault.TheVariants.{TooEarly, BadHome, BadCost}
use Rattle.sdf_prec.specs.Precedence.{WaitsFor}
use Rattle.sdf_prec.specs.Tables.{firing, firings, no_firing, row, order, Stands, IsOfBlock, IsValid}
use Rattle.sdf_prec.specs.Refusals.{before, AreNarrow, IsLastNeed, IsFirstLate, IsEarlier, IsAtCell, StandsFirst}
use Rattle.sdf_prec.specs.Laws.{FaultsExclude}
use Rattle.sdf_prec.proofs.Marks.{firings_some, firings_append, last_is}
use Rattle.sdf_prec.proofs.RowCells.{stands_at}
use Rattle.sdf_prec.proofs.RowMarks.{in_order, row_order}

-- a firing waits for its last need on a channel
need_waits : (r : Rates) (f g : Firing) (c : ℕ) → IsLastNeed r f c g → WaitsFor r f g
need_waits r f g c (known, into, from, need) = inr
    (c, known, into, sym from, go (cases_lt (r.initial c + r.produced c g.number) (r.consumed c (f.number + 1))))
  where
    go : (r.initial c + r.produced c g.number < r.consumed c (f.number + 1))
        ⊎ (r.consumed c (f.number + 1) ≤ r.initial c + r.produced c g.number) →
        r.initial c + r.produced c g.number < r.consumed c (f.number + 1)
    go (inl lacks) = lacks
    go (inr enough) = absurd (omega (arith, need.least g.number enough))

module _ (r : Rates) (n : ℕ → ℕ) (width : ℕ) (rows : List (List (Option Firing))) (v : IsValid r n rows)
    (narrow : AreNarrow width rows (length rows)) where
  stands_all : (i : ℕ) (f : Firing) → i < length rows → Stands (firings (row rows i)) f → Stands (order rows) f
  stands_all i f l st = subst (λ rs. Stands (order rs) f) (take_all (length rows) rows (omega arith))
      (in_order rows i (length rows) f l l st)

  -- the firings before a cell and its own are the first of all
  front : (i j : ℕ) (f : Firing) → IsAtCell r n width rows i j f →
      (rest : List Firing) × (order rows ≡ (before rows i j ++ f ∷ []) ++ rest)
  front i j f at =
      let cells = row rows i in
      let rest = firings (drop (j + 1) cells) ++ order (drop (i + 1) rows) in
      let split : firings cells ≡ (firings (take j cells) ++ f ∷ []) ++ firings (drop (j + 1) cells) =
      ap firings (sym (take-append-drop (j + 1) cells))
      ∙ (firings_append (take (j + 1) cells) (drop (j + 1) cells)
      ∙ ap (λ fs. fs ++ firings (drop (j + 1) cells)) (firings_some cells j f at.column_in at.is)) in
      let rows_split : order rows ≡ order (take (i + 1) rows) ++ order (drop (i + 1) rows) =
      ap order (sym (take-append-drop (i + 1) rows))
      ∙ flat_map-append firings (take (i + 1) rows) (drop (i + 1) rows) in
      let here : order (take (i + 1) rows) ≡ (before rows i j ++ f ∷ []) ++ firings (drop (j + 1) cells) =
      row_order rows i at.row_in ∙
      (ap (λ fs. order (take i rows) ++ fs) split ∙
      (sym (append_assoc (order (take i rows)) (firings (take j cells) ++ f ∷ []) (firings (drop (j + 1) cells))) ∙
      ap (λ fs. fs ++ firings (drop (j + 1) cells))
      (sym (append_assoc (order (take i rows)) (firings (take j cells)) (f ∷ []))))) in (
        rest,
        rows_split ∙ (ap (λ fs. fs ++ order (drop (i + 1) rows)) here
            ∙ append_assoc (before rows i j ++ f ∷ []) (firings (drop (j + 1) cells)) (order (drop (i + 1) rows))),
      )

  twice : (i j : ℕ) (f : Firing) → IsAtCell r n width rows i j f → Stands (before rows i j) f → ⊥
  twice i j f at (p, l, e) =
      let parts = front i j f at in
      let fs = before rows i j in
      let long : length (order rows) ≡ length (fs ++ f ∷ []) + length parts.0 =
      ap length parts.1 ∙ length-append (fs ++ f ∷ []) parts.0 in
      let more : length (fs ++ f ∷ []) ≡ length fs + 1 = length-append fs (f ∷ []) in
      let first : firing (order rows) p ≡ f =
      ap (λ gs. firing gs p) parts.1 ∙ (get_or_append_left (fs ++ f ∷ []) parts.0 no_firing p (omega arith)
      ∙ (get_or_append_left fs (f ∷ []) no_firing p l ∙ e)) in
      let second : firing (order rows) (length fs) ≡ f =
      ap (λ gs. firing gs (length fs)) parts.1 ∙ (get_or_append_left (fs ++ f ∷ []) parts.0 no_firing (length fs)
      (omega arith) ∙ last_is fs f) in
      let same = v.once p (length fs) (omega arith) (omega arith) (first ∙ sym second) in
      absurd (omega arith)

  excludes : (e : PrecFault) → StandsFirst r n width rows e → ⊥
  excludes OutOfMemory first = first
  excludes BlockingFactor first = first
  excludes WorkerCount first = first
  excludes BlockTooLong first = first
  excludes (BadHome a) first = first
  excludes (BadCost a) first = first
  excludes (RowTooWide i) (l, before, fresh, wide) = absurd (omega (arith, narrow i l))
  excludes (FiringUnknown i f) (j, at, unknown) =
      let st = stands_all i f at.row_in (stands_at (row rows i) j f at.is) in
      unknown (subst (IsOfBlock r n) st.2 (v.known st.0 st.1))
  excludes (FiringTwice i f) (j, at, known, st) = twice i j f at st
  excludes (FiringMissing f) (cells, known, none, before) = none (v.all f known)
  excludes (TooEarly i f g) (cells, all, (j, l, h, is, before, in_row, first)) = go first
    where
      here : Stands (firings (row rows i)) f
      here = stands_at (row rows i) j f is

      go : IsFirstLate r (IsEarlier rows i) f g → ⊥
      go (none, inl previous) = none (v.earlier i l f g here (inl previous))
      go (none, inr (c, need, previous, last)) = none (v.earlier i l f g here (need_waits r f g c need))

pub faults_exclude : FaultsExclude
faults_exclude r n width rows e first v narrow = excludes r n width rows v narrow e first
