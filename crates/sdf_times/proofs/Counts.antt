-- Where a firing stands in the row order of a table, as many firings of its actor stand before it as its number says.
use Rattle.std.proofs.Common.{◌≡◌, ℕ, zero, suc, ◌+◌, ◌≤◌, ◌<◌, List, [], ◌∷◌, ◌++◌, length, get_or, take}
use Rattle.std.proofs.Common.{map, cond, eqb, ne_eqb, sym, ap, ◌∙◌, subst, arith, refl, Option, Some}
use Rattle.std.proofs.Common.{append_assoc}
use Rattle.std.proofs.Math.Seq.{take-append-add}
use Rattle.std.proofs.lemmas.List.{take-append-le, take-map, map-append, take-take, get_or-map, length-map}
use Rattle.std.proofs.lemmas.List.Sums.{sum_by-append, sum_by-cons}
use Rattle.std.proofs.lemmas.Option.{none-some}
use Rattle.sdf_graph.specs.Rates.{Rates, IsSound}
use Rattle.sdf_graph.specs.Sequences.{times}
use Rattle.sdf_graph.proofs.Theorems.{last_counts_more, fronts_count_within}
use Rattle.sdf_prec.specs.declared.firing.Firing.{Firing}
use Rattle.sdf_prec.specs.Tables.{firing, firings, no_firing, row, cell, order, sequence, IsValid, IsGreatestHeld}
use Rattle.sdf_prec.proofs.Theorems.{rows_may_fire}
use Rattle.sdf_times.proofs.Cells.{place, place_in, at_place, at_place_in, row_in}

abbrev actors : List Firing → List ℕ
actors fs = map (λ f. f.actor) fs

-- the firings before a place: those of the rows before, and those before it in its row
front : (rows : List (List (Option Firing))) (i j : ℕ) (f : Firing) → cell rows i j ≡ Some f →
    take (place rows i j) (order rows) ≡ order (take i rows) ++ take (place_in (row rows i) j) (firings (row rows i))
front [] i j f e = absurd (none-some f e)
front (cells ∷ rows) zero j f e =
    take-append-le (place_in cells j) (firings cells) (order rows) (omega (arith, (at_place_in cells j f e).0))
front (cells ∷ rows) (suc i) j f e =
    take-append-add (firings cells) (order rows) (place rows i j)
    ∙ (ap (λ fs. firings cells ++ fs) (front rows i j f e)
    ∙ sym (append_assoc (firings cells) (order (take i rows)) (take (place_in (row rows i) j) (firings (row rows i)))))

abbrev one_at : ℕ → ℕ → ℕ
one_at a b = cond (eqb b a) 1 0

none_in : (a : ℕ) (fs : List Firing) (q : ℕ) →
    ((p : ℕ) → p < q → p < length fs → (firing fs p).actor ≡ a → ⊥) → times (actors (take q fs)) a ≡ 0
none_in a fs zero none = refl
none_in a [] (suc q) none = refl
none_in a (f ∷ fs) (suc q) none =
    let here : one_at a f.actor ≡ 0 =
    ap (λ t. cond t 1 0) (ne_eqb f.actor a (none 0 (omega arith) (omega arith))) in
    let rest : times (actors (take q fs)) a ≡ 0 =
    none_in a fs q (λ p l m. none (suc p) (omega arith) (omega arith)) in
    omega (arith, here, rest, sum_by-cons (one_at a) f.actor (actors (take q fs)))

module _ (r : Rates) (n : ℕ → ℕ) (rows : List (List (Option Firing))) (sound : IsSound r) (v : IsValid r n rows) where
  pub number_at : (i j : ℕ) (f : Firing) → cell rows i j ≡ Some f →
      times (take (place rows i j) (sequence rows)) f.actor ≡ f.number
  number_at i j f e =
      let q : ℕ = place_in (row rows i) j in
      let fs : List Firing = firings (row rows i) in
      let at = at_place_in (row rows i) j f e in
      let fire = rows_may_fire r n rows i sound v (row_in rows i j f e) in
      let number : f.number ≡ times (sequence (take i rows)) f.actor =
      subst (λ (f : Firing). f.number ≡ times (sequence (take i rows)) f.actor) at.1 (fire.0 q at.0).1 in
      let none : times (actors (take q fs)) f.actor ≡ 0 = none_in f.actor fs q (λ p l m same.
      let is : p ≡ q = fire.1 p q m at.0 (same ∙ sym (ap (λ (f : Firing). f.actor) at.1)) in omega arith) in
      let parts : take (place rows i j) (sequence rows) ≡ actors (order (take i rows)) ++ actors (take q fs) =
      take-map (λ (f : Firing). f.actor) (place rows i j) (order rows)
      ∙ (ap actors (front rows i j f e) ∙ map-append (λ (f : Firing). f.actor) (order (take i rows)) (take q fs)) in
      let whole : times (take (place rows i j) (sequence rows)) f.actor ≡
      times (actors (order (take i rows))) f.actor + times (actors (take q fs)) f.actor =
      ap (λ w. times w f.actor) parts
      ∙ sum_by-append (one_at f.actor) (actors (order (take i rows))) (actors (take q fs)) in
      omega (arith, whole, none, number)

  all_letters : length (sequence rows) ≡ length (order rows)
  all_letters = length-map (order rows) (λ (f : Firing). f.actor)

  -- with the firing at a place
  pub number_after : (i j : ℕ) (f : Firing) → cell rows i j ≡ Some f →
      times (take (place rows i j + 1) (sequence rows)) f.actor ≡ f.number + 1
  number_after i j f e =
      let at = at_place rows i j f e in
      let letter : get_or (sequence rows) (place rows i j) 0 ≡ f.actor =
      get_or-map (λ (f : Firing). f.actor) (order rows) (place rows i j) no_firing 0 at.0
      ∙ ap (λ (f : Firing). f.actor) at.1 in
      let within : place rows i j < length (sequence rows) = omega (arith, at.0, all_letters) in
      let more = last_counts_more (sequence rows) (place rows i j) f.actor within letter in
      omega (arith, more, number_at i j f e)

  -- before a later place no more firings of its actor stand
  pub number_before : (p i j : ℕ) (f : Firing) → cell rows i j ≡ Some f → p ≤ place rows i j →
      times (take p (sequence rows)) f.actor ≤ f.number
  number_before p i j f e l =
      let within = fronts_count_within (take (place rows i j) (sequence rows)) p f.actor in
      let same : times (take p (take (place rows i j) (sequence rows))) f.actor ≡
      times (take p (sequence rows)) f.actor =
      ap (λ w. times w f.actor) (take-take p (place rows i j) (sequence rows) l) in
      omega (arith, within, same, number_at i j f e)

  -- what a channel holds after a firing of its source, at whose place the firing g of its target has not been
  pub held_then : (c held : ℕ) → IsGreatestHeld r (sequence rows) c held → (i j k m : ℕ) (f g : Firing) →
      cell rows i j ≡ Some f → cell rows k m ≡ Some g → r.source c ≡ f.actor → r.target c ≡ g.actor →
      place rows i j < place rows k m →
      r.initial c + r.produced c (f.number + 1) ≤ held + r.consumed c g.number
  held_then c held most i j k m f g e d from into l =
      let p : ℕ = place rows i j + 1 in
      let low = most.above (place rows i j + 1) (omega (arith, (at_place rows i j f e).0, all_letters)) in
      let put : r.produced c (times (take (place rows i j + 1) (sequence rows)) (r.source c)) ≡
      r.produced c (f.number + 1) =
      ap (r.produced c) (ap (times (take (place rows i j + 1) (sequence rows))) from ∙ number_after i j f e) in
      let count : times (take (place rows i j + 1) (sequence rows)) (r.target c) ≤ g.number =
      subst (λ a. times (take (place rows i j + 1) (sequence rows)) a ≤ g.number) (sym into)
      (number_before (place rows i j + 1) k m g d (omega arith)) in
      let taken = sound.consumed_rises c _ _ count in
      omega (arith, low, put, taken)

  -- a channel has room for what it begins with
  pub held_first : (c held : ℕ) → IsGreatestHeld r (sequence rows) c held → r.initial c ≤ held
  held_first c held most =
      let low = most.above 0 (omega arith) in
      omega (arith, low, sound.produced_none c, sound.consumed_none c)
