-- The firings of a row may be done at the counts of the rows before.
use Rattle.std.proofs.Common.{◌≡◌, ℕ, suc, ◌+◌, ◌<◌, List, [], ◌++◌, length, map, take, drop, sym, ap, ◌∙◌, subst}
use Rattle.std.proofs.Common.{arith, refl, Option}
use Rattle.std.proofs.Math.Seq.{drop-cons}
use Rattle.std.proofs.lemmas.List.{get_or-map, length-map, get_or_append_left, length-append, take-append-drop}
use Rattle.std.proofs.lemmas.List.{map-append, take_at}
use Rattle.std.proofs.lemmas.List.Concat.{flat_map-append, get_or-flat_map}
use Rattle.sdf_graph.specs.Rates.{Rates, IsSound}
use Rattle.sdf_graph.specs.Sequences.{times, IsEnabled}
use Rattle.sdf_prec.specs.declared.firing.Firing.{Firing}
use Rattle.sdf_prec.specs.Tables.{firing, firings, no_firing, row, order, sequence, Stands, IsOfBlock, IsValid}
use Rattle.sdf_prec.specs.PlainRows.{IsReadyFor}
use Rattle.sdf_prec.specs.Laws.{RowsMayFire}
use Rattle.sdf_prec.proofs.Next.{place_of}
use Rattle.sdf_prec.proofs.Orders.{split, is_number}
use Rattle.sdf_prec.proofs.Ready.{ready_is_next}

module _ (r : Rates) (n : ℕ → ℕ) (rows : List (List (Option Firing))) (i : ℕ) (s : IsSound r)
    (v : IsValid r n rows) (l : i < length rows) where
  abbrev before : List Firing
  before = order (take i rows)

  abbrev k : ℕ → ℕ
  k = times (sequence (take i rows))

  parts : order rows ≡ before ++ order (drop i rows)
  parts = ap order (sym (take-append-drop i rows)) ∙ flat_map-append firings (take i rows) (drop i rows)

  long : length (order rows) ≡ length before + length (order (drop i rows))
  long = ap length parts ∙ length-append before (order (drop i rows))

  next : length (order (drop i rows)) ≡ length (firings (row rows i)) + length (order (drop (suc i) rows))
  next = ap (λ xs. length (order xs)) (drop-cons rows i [] l)
      ∙ length-append (firings (row rows i)) (order (drop (suc i) rows))

  -- the counts of the rows before are those of a front of the whole sequence
  front : sequence (take i rows) ≡ take (length before) (sequence rows)
  front =
      sym (ap (take (length before)) (ap (map (λ (f : Firing). f.actor)) parts
      ∙ map-append (λ (f : Firing). f.actor) before (order (drop i rows))) ∙
      take_at (map (λ (f : Firing). f.actor) before) (map (λ (f : Firing). f.actor) (order (drop i rows)))
      (length before) (length-map before (λ (f : Firing). f.actor)))

  counts : (a : ℕ) → k a ≡ times (take (length before) (sequence rows)) a
  counts a = ap (λ w. times w a) front

  early : (p : ℕ) → p < length before → firing (order rows) p ≡ firing before p
  early p h = ap (λ fs. firing fs p) parts ∙ get_or_append_left before (order (drop i rows)) no_firing p h

  -- the rows before hold the first firings of each actor, as many as it has fired there
  are : (f : Firing) → f.actor < r.actors → (Stands before f → f.number < k f.actor)
      × (f.number < k f.actor → Stands before f)
  are f known = (there, back)
    where
      there : Stands before f → f.number < k f.actor
      there st =
          let here : firing (order rows) st.0 ≡ f = early st.0 st.1 ∙ st.2 in
          let low = (split r n rows v (length before) (omega (arith, long))).before st.0 st.1 in
          let low_f : f.number < times (take (length before) (sequence rows)) f.actor =
          subst (λ (x : Firing). x.number < times (take (length before) (sequence rows)) x.actor) here low in
          omega (arith, counts f.actor)

      back : f.number < k f.actor → Stands before f
      back h =
          let all : length (sequence rows) ≡ length (order rows) = length-map (order rows) (λ (f : Firing). f.actor) in
          let x = place_of (sequence rows) f.actor f.number (length before) (omega (arith, all, long))
          (omega (arith, counts f.actor)) in
          let m : x.0 < length (order rows) = omega (arith, x.1, long) in
          let is_a : (firing (order rows) x.0).actor ≡ f.actor =
          sym (get_or-map (λ (f : Firing). f.actor) (order rows) x.0 no_firing 0 m) ∙ x.2 in
          let its : (firing (order rows) x.0).number ≡ f.number =
          is_number r n rows v x.0 m ∙ (ap (times (take x.0 (sequence rows))) is_a ∙ x.3) in
          let same : firing (order rows) x.0 ≡ f = λ j. record { actor = is_a j; number = its j } in
          (x.0, x.1, sym (early x.0 x.1) ∙ same)

  -- a firing of the row stands behind these
  place : (p : ℕ) → p < length (firings (row rows i)) → length before + p < length (order rows)
  place p h = omega (arith, long, next)

  at : (p : ℕ) → p < length (firings (row rows i)) →
      firing (order rows) (length before + p) ≡ firing (firings (row rows i)) p
  at p h = get_or-flat_map firings rows i p [] no_firing l h

  ready : (p : ℕ) → p < length (firings (row rows i)) → IsReadyFor r n rows i (firing (firings (row rows i)) p)
  ready p h = record {
    of_block = subst (IsOfBlock r n) (at p h) (v.known (length before + p) (place p h));
    left = λ st.
        let same : st.0 ≡ length before + p = v.once st.0 (length before + p) (omega (arith, st.1, long)) (place p h)
        (early st.0 st.1 ∙ (st.2 ∙ sym (at p h))) in
        absurd (omega (arith, st.1));
    waits = λ g needs. v.earlier i l (firing (firings (row rows i)) p) g (p, h, refl) needs;
  }

  may_fire : (p : ℕ) → p < length (firings (row rows i)) →
      ((firing (firings (row rows i)) p).number ≡ k (firing (firings (row rows i)) p).actor)
      × IsEnabled r k (firing (firings (row rows i)) p).actor
  may_fire p h = ready_is_next r n k rows i s are (firing (firings (row rows i)) p) (ready p h)

  apart : (p m : ℕ) → p < length (firings (row rows i)) → m < length (firings (row rows i)) →
      (firing (firings (row rows i)) p).actor ≡ (firing (firings (row rows i)) m).actor → p ≡ m
  apart p m hp hm e =
      let number : (firing (firings (row rows i)) p).number ≡ (firing (firings (row rows i)) m).number =
      (may_fire p hp).0 ∙ (ap k e ∙ sym (may_fire m hm).0) in
      let same : firing (firings (row rows i)) p ≡ firing (firings (row rows i)) m =
      λ j. record { actor = e j; number = number j } in
      let once : length before + p ≡ length before + m =
      v.once (length before + p) (length before + m) (place p hp) (place m hm) (at p hp ∙ (same ∙ sym (at m hm))) in
      omega arith

  pub firings_may : (p : ℕ) → p < length (firings (row rows i)) →
      IsOfBlock r n (firing (firings (row rows i)) p)
      × ((firing (firings (row rows i)) p).number ≡
      times (sequence (take i rows)) (firing (firings (row rows i)) p).actor) ×
      IsEnabled r (times (sequence (take i rows))) (firing (firings (row rows i)) p).actor
  firings_may p h = let f = may_fire p h in ((ready p h).of_block, f.0, f.1)

  pub firings_apart : (p m : ℕ) → p < length (firings (row rows i)) → m < length (firings (row rows i)) →
      (firing (firings (row rows i)) p).actor ≡ (firing (firings (row rows i)) m).actor → p ≡ m
  firings_apart = apart

pub rows_may_fire : RowsMayFire
rows_may_fire r n rows i s v l = (firings_may r n rows i s v l, firings_apart r n rows i s v l)
