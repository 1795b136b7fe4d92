-- Where parts begin: the list grows by a part, and no part but the first begins before the shortest one ends.
use Rattle.std.proofs.Common.{◌≡◌, ℕ, zero, suc, ◌+◌, ◌-◌, ◌≤◌, ◌<◌, List, [], ◌∷◌, ◌++◌, length, get_or, refl, sym, ap}
use Rattle.std.proofs.Common.{◌∙◌, arith, subst, ⊎_elim}
use Rattle.std.proofs.lemmas.Bool.{cases_lt}
use Rattle.std.proofs.lemmas.List.{get_or_append_left, length-append}
use Rattle.std.proofs.Math.Seq.{get_or-append_seam}
use Rattle.sdf_parallel.specs.declared.part.Split.{Split}
use Rattle.sdf_parallel.specs.Bounds.{AreBounds, part_length}

-- what is known of bounds, without the lengths of parts
pub record AreMarks {A S T : Type 0} (w : Split A T S) (bounds : List ℕ) : Type 0 where
  pub some : 1 < length bounds
  pub first : get_or bounds 0 0 ≡ 0
  pub within : (i : ℕ) → i < length bounds → get_or bounds i 0 ≤ w.periods
  pub late : (i : ℕ) → 0 < i → i + 1 < length bounds → w.least ≤ get_or bounds i 0
  pub last : get_or bounds (length bounds - 1) 0 ≡ w.periods

module _ {A S T : Type 0} (w : Split A T S) where
  -- the bounds of the parts up to a period
  pub record AreFirst (at : ℕ) (bounds : List ℕ) : Type 0 where
    pub some : 1 < length bounds
    pub first : get_or bounds 0 0 ≡ 0
    pub next : (i : ℕ) → i + 1 < length bounds →
        get_or bounds (i + 1) 0 ≡ get_or bounds i 0 + part_length w (get_or bounds i 0)
    pub left : (i : ℕ) → 0 < i → i + 1 < length bounds → get_or bounds i 0 < w.periods
    pub last : get_or bounds (length bounds - 1) 0 ≡ at
    pub within : at ≤ w.periods

  pub begun : AreFirst (part_length w 0) (0 ∷ part_length w 0 ∷ [])
  begun = record {
    some = omega arith;
    first = refl;
    next = λ i l. subst (λ k. get_or (0 ∷ part_length w 0 ∷ []) (k + 1) 0 ≡
        get_or (0 ∷ part_length w 0 ∷ []) k 0 + part_length w (get_or (0 ∷ part_length w 0 ∷ []) k 0))
        (let z : 0 ≡ i = omega arith in z) (let e : part_length w 0 ≡ 0 + part_length w 0 = omega arith in e);
    left = λ i some l. absurd (omega arith);
    last = refl;
    within = omega arith;
  }

  module _ (at : ℕ) (bounds : List ℕ) (are : AreFirst at bounds) (more : at < w.periods) where
    abbrev end : ℕ
    end = at + part_length w at

    abbrev longer : List ℕ
    longer = bounds ++ end ∷ []

    many : length longer ≡ length bounds + 1
    many = length-append bounds (end ∷ [])

    before : (i : ℕ) → i < length bounds → get_or longer i 0 ≡ get_or bounds i 0
    before i l = get_or_append_left bounds (end ∷ []) 0 i l

    here : get_or longer (length bounds) 0 ≡ end
    here = get_or-append_seam bounds end [] 0

    -- the bound before the new one
    place : (i : ℕ) → i + 1 ≡ length bounds → get_or longer i 0 ≡ at
    place i e = before i (omega arith) ∙ (ap (λ k. get_or bounds k 0) (let z : i ≡ length bounds - 1 = omega arith in z)
        ∙ are.last)

    next : (i : ℕ) → i + 1 < length longer →
        get_or longer (i + 1) 0 ≡ get_or longer i 0 + part_length w (get_or longer i 0)
    next i l = ⊎_elim
        (λ old. before (i + 1) old ∙ (are.next i old
        ∙ ap (λ k. k + part_length w k) (sym (before i (omega arith)))))
        (λ new. let e : i + 1 ≡ length bounds = omega (arith, many) in
        ap (λ k. get_or longer k 0) e ∙ (here ∙ ap (λ k. k + part_length w k) (sym (place i e))))
        (cases_lt (i + 1) (length bounds))

    left : (i : ℕ) → 0 < i → i + 1 < length longer → get_or longer i 0 < w.periods
    left i some l = ⊎_elim
        (λ old. omega (arith, before i (omega arith), are.left i some old))
        (λ new. omega (arith, more, place i (omega (arith, many))))
        (cases_lt (i + 1) (length bounds))

    pub one_more : AreFirst end longer
    one_more = record {
      some = omega (arith, many, are.some);
      first = before 0 (omega (arith, are.some)) ∙ are.first;
      next = next;
      left = left;
      last = ap (λ k. get_or longer k 0) (let z : length longer - 1 ≡ length bounds = omega (arith, many) in z) ∙ here;
      within = omega (arith, are.within);
    }

  pub all_of_them : (at : ℕ) (bounds : List ℕ) → AreFirst at bounds → w.periods ≤ at → AreBounds w bounds
  all_of_them at bounds are done = record {
    some = are.some;
    first = are.first;
    next = are.next;
    left = are.left;
    last = are.last ∙ (let z : at ≡ w.periods = omega (arith, are.within) in z);
  }

  -- ---- what is known of the bounds

  module _ (bounds : List ℕ) (are : AreBounds w bounds) where
    pub within : (i : ℕ) → i < length bounds → get_or bounds i 0 ≤ w.periods
    within zero l = omega (arith, are.first)
    within (suc i) l = subst (λ k. get_or bounds k 0 ≤ w.periods) (let z : i + 1 ≡ suc i = omega arith in z)
        (omega (arith, are.next i (omega arith), within i (omega arith)))

    pub in_order : (i : ℕ) → i + 1 < length bounds → get_or bounds i 0 ≤ get_or bounds (i + 1) 0
    in_order i l = omega (arith, are.next i l)

    -- a part that another one follows is not shorter than the shortest
    pub late : (i : ℕ) → 0 < i → i + 1 < length bounds → w.least ≤ get_or bounds i 0
    late zero some l = absurd (omega arith)
    late (suc zero) some l = omega (arith, are.first, are.next 0 (omega arith), are.left 1 (omega arith) l)
    late (suc (suc i)) some l = subst (λ k. w.least ≤ get_or bounds k 0)
        (let z : suc i + 1 ≡ suc (suc i) = omega arith in z)
        (omega (arith, late (suc i) (omega arith) (omega arith), in_order (suc i) (omega arith)))

    pub not_first : (i : ℕ) → i + 1 < length bounds → 0 < get_or bounds i 0 → w.least ≤ get_or bounds i 0
    not_first i l some = ⊎_elim
        (λ none. absurd (omega (
          arith,
          some,
          are.first,
          ap (λ k. get_or bounds k 0) (let z : i ≡ 0 = omega arith in z),
        )))
        (λ more. late i more l) (cases_lt i 1)

    pub are_marks : AreMarks w bounds
    are_marks = record { some = are.some; first = are.first; within = within; late = late; last = are.last }
