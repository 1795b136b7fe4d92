-- Of a sequence dealt out to seats, each of which has done the first of its part: the first firing that is left.
use Rattle.std.proofs.Common.{◌≡◌, ℕ, zero, suc, ◌+◌, ◌-◌, ◌<◌, List, [], ◌∷◌, length, Bool, false, eqb, cond, get_or}
use Rattle.std.proofs.Common.{take, map, filter, refl, sym, ap, ◌∙◌, subst, arith, inl, inr}
use Rattle.std.proofs.lemmas.Bool.Decides.{eqb_tells}
use Rattle.std.proofs.lemmas.Bool.{eq-eqb, ne_eqb, cases_lt}
use Rattle.std.proofs.lemmas.List.Sums.{sum_by-cons}
use Rattle.sdf_graph.specs.Sequences.{times}
use Rattle.sdf_prec.specs.Next.{IsNext}

abbrev pub bit : Bool → ℕ
bit t = cond t 1 0

pub times_cons : (a : ℕ) (w : List ℕ) (b : ℕ) → times (a ∷ w) b ≡ cond (eqb a b) 1 0 + times w b
times_cons a w b = sum_by-cons (λ x. cond (eqb x b) 1 0) a w

module _ (home : ℕ → ℕ) where
  -- the firings of seat i
  abbrev pub part : List ℕ → ℕ → List ℕ
  part w i = filter (λ a. eqb (home a) i) w

  -- how often b is among the firings done
  abbrev pub done : List ℕ → (ℕ → ℕ) → ℕ → ℕ
  done w next b = times (take (next (home b)) (part w (home b))) b

  pub part_same : (a : ℕ) (w : List ℕ) (i : ℕ) → home a ≡ i → part (a ∷ w) i ≡ a ∷ part w i
  part_same a w i e = ap (λ (t : Bool). cond t (a ∷ part w i) (part w i)) (eq-eqb (home a) i e)

  pub part_other : (a : ℕ) (w : List ℕ) (i : ℕ) → (home a ≡ i → ⊥) → part (a ∷ w) i ≡ part w i
  part_other a w i e = ap (λ (t : Bool). cond t (a ∷ part w i) (part w i)) (ne_eqb (home a) i e)

  -- the next places, where the first firing of the sequence is no more counted
  abbrev behind : ℕ → (ℕ → ℕ) → ℕ → ℕ
  behind a next i = cond (eqb (home a) i) (next i - 1) (next i)

  behind_same : (a : ℕ) (next : ℕ → ℕ) (i : ℕ) → home a ≡ i → behind a next i ≡ next i - 1
  behind_same a next i e = ap (λ (t : Bool). cond t (next i - 1) (next i)) (eq-eqb (home a) i e)

  behind_other : (a : ℕ) (next : ℕ → ℕ) (i : ℕ) → (home a ≡ i → ⊥) → behind a next i ≡ next i
  behind_other a next i e = ap (λ (t : Bool). cond t (next i - 1) (next i)) (ne_eqb (home a) i e)

  done_more : (a : ℕ) (w : List ℕ) (next : ℕ → ℕ) (b : ℕ) → 0 < next (home a) →
      done (a ∷ w) next b ≡ cond (eqb a b) 1 0 + done w (behind a next) b
  done_more a w next b some = elim (eqb_tells (home a) (home b)) as (λ _. done (a ∷ w) next b ≡
      cond (eqb a b) 1 0 + done w (behind a next) b) [
        | inl h ↦
            let more : 0 < next (home b) = subst (λ (i : ℕ). 0 < next i) h.1 some in
            let k : next (home b) ≡ suc (next (home b) - 1) = omega arith in
            ap (λ xs. times (take (next (home b)) xs) b) (part_same a w (home b) h.1) ∙
            ap (λ (j : ℕ). times (take j (a ∷ part w (home b))) b) k ∙
            times_cons a (take (next (home b) - 1) (part w (home b))) b ∙
            ap (λ (j : ℕ). cond (eqb a b) 1 0 + times (take j (part w (home b))) b)
            (sym (behind_same a next (home b) h.1))
        | inr h ↦
            let apart : eqb a b ≡ false = ne_eqb a b (λ e. h.1 (ap home e)) in
            let same : done (a ∷ w) next b ≡ done w (behind a next) b =
            ap (λ xs. times (take (next (home b)) xs) b) (part_other a w (home b) h.1) ∙
            ap (λ (j : ℕ). times (take j (part w (home b))) b) (sym (behind_other a next (home b) h.1)) in
            let none : bit (eqb a b) ≡ 0 = ap bit apart in
            omega arith
      ]

  -- the first firing of the sequence that is left is the next of its seat
  pub record IsFirst (w : List ℕ) (next : ℕ → ℕ) : Type 0 where
    pub at : ℕ
    pub is : IsNext (done w next) w at
    pub left : next (home (get_or w at 0)) < length (part w (home (get_or w at 0)))
    pub names : get_or (part w (home (get_or w at 0))) (next (home (get_or w at 0))) 0 ≡ get_or w at 0

  none_done : (a : ℕ) (w : List ℕ) (next : ℕ → ℕ) → next (home a) ≡ 0 → IsFirst (a ∷ w) next
  none_done a w next e = record {
    at = 0;
    is = record {
      within = omega arith;
      left = let z : done (a ∷ w) next a ≡ 0 = ap (λ (j : ℕ). times (take j (part (a ∷ w) (home a))) a) e in
          omega arith;
      done = λ i h. absurd (omega arith);
    };
    left = let l = ap (λ (xs : List ℕ). length xs) (part_same a w (home a) refl) in omega arith;
    names = ap (λ xs. get_or xs (next (home a)) 0) (part_same a w (home a) refl)
        ∙ ap (λ (j : ℕ). get_or (a ∷ part w (home a)) j 0) e;
  }

  some_done : (a : ℕ) (w : List ℕ) (next : ℕ → ℕ) → 0 < next (home a) → IsFirst w (behind a next) → IsFirst (a ∷ w) next
  some_done a w next some f =
      let x : ℕ = get_or w f.at 0 in
      record {
        at = suc f.at;
        is = record {
          within = let h = f.is.within in omega arith;
          left = let z = times_cons a (take f.at w) x in let m = done_more a w next x some in let h = f.is.left in
              omega arith;
          done = earlier;
        };
        left = elim (eqb_tells (home a) (home x)) as (λ _. next (home x) < length (part (a ∷ w) (home x))) [
          | inl h ↦
              let more : 0 < next (home x) = subst (λ (i : ℕ). 0 < next i) h.1 some in
              let l = ap (λ (xs : List ℕ). length xs) (part_same a w (home x) h.1) in
              let b = behind_same a next (home x) h.1 in
              let m = f.left in
              omega arith
          | inr h ↦
              let l = ap (λ (xs : List ℕ). length xs) (part_other a w (home x) h.1) in
              let b = behind_other a next (home x) h.1 in
              let m = f.left in
              omega arith
        ];
        names = elim (eqb_tells (home a) (home x)) as (λ _. get_or (part (a ∷ w) (home x)) (next (home x)) 0 ≡ x) [
          | inl h ↦
              let more : 0 < next (home x) = subst (λ (i : ℕ). 0 < next i) h.1 some in
              let k : next (home x) ≡ suc (next (home x) - 1) = omega arith in
              ap (λ xs. get_or xs (next (home x)) 0) (part_same a w (home x) h.1) ∙
              ap (λ (j : ℕ). get_or (a ∷ part w (home x)) j 0) k ∙
              ap (λ (j : ℕ). get_or (part w (home x)) j 0) (sym (behind_same a next (home x) h.1)) ∙ f.names
          | inr h ↦ ap (λ xs. get_or xs (next (home x)) 0) (part_other a w (home x) h.1)
              ∙ ap (λ (j : ℕ). get_or (part w (home x)) j 0) (sym (behind_other a next (home x) h.1)) ∙ f.names
        ];
      }
    where
      earlier : (i : ℕ) → i < suc f.at → times (take i (a ∷ w)) (get_or (a ∷ w) i 0) <
          done (a ∷ w) next (get_or (a ∷ w) i 0)
      earlier zero h = let m = done_more a w next a some in let one : bit (eqb a a) ≡ 1 = ap bit (eq-eqb a a refl) in
          omega arith
      earlier (suc i) h =
          let b : ℕ = get_or w i 0 in
          let before : times (take i w) b < done w (behind a next) b = f.is.done i (omega arith) in
          let z = times_cons a (take i w) b in
          let m = done_more a w next b some in
          omega arith

  left_behind : (a : ℕ) (w : List ℕ) (next : ℕ → ℕ) (i : ℕ) → 0 < next (home a) → next i < length (part (a ∷ w) i) →
      behind a next i < length (part w i)
  left_behind a w next i some h = elim (eqb_tells (home a) i) as (λ _. behind a next i < length (part w i)) [
    | inl t ↦
        let more : 0 < next i = subst (λ (i : ℕ). 0 < next i) t.1 some in
        let l = ap (λ (xs : List ℕ). length xs) (part_same a w i t.1) in
        let b = behind_same a next i t.1 in
        omega arith
    | inr t ↦
        let l = ap (λ (xs : List ℕ). length xs) (part_other a w i t.1) in
        let b = behind_other a next i t.1 in
        omega arith
  ]

  pub first_left : (w : List ℕ) (next : ℕ → ℕ) (i : ℕ) → next i < length (part w i) → IsFirst w next
  first_left [] next i h = absurd (omega arith)
  first_left (a ∷ w) next i h = elim (cases_lt 0 (next (home a))) as (λ _. IsFirst (a ∷ w) next) [
    | inl some ↦ some_done a w next some (first_left w (behind a next) i (left_behind a w next i some h))
    | inr none ↦ none_done a w next (omega arith)
  ]

  -- a part has all the firings of its actors
  pub part_times : (w : List ℕ) (i b : ℕ) → home b ≡ i → times (part w i) b ≡ times w b
  part_times [] i b e = refl
  part_times (a ∷ w) i b e =
      let t = part_times w i b e in
      elim (eqb_tells (home a) i) as (λ _. times (part (a ∷ w) i) b ≡ times (a ∷ w) b) [
        | inl h ↦ let p = ap (λ xs. times xs b) (part_same a w i h.1) in
            p ∙ times_cons a (part w i) b ∙ ap (λ (m : ℕ). cond (eqb a b) 1 0 + m) t ∙ sym (times_cons a w b)
        | inr h ↦
            let p = ap (λ xs. times xs b) (part_other a w i h.1) in
            let apart : eqb a b ≡ false = ne_eqb a b (λ z. h.1 (ap home z ∙ e)) in
            let none : bit (eqb a b) ≡ 0 = ap bit apart in
            let z = times_cons a w b in
            omega arith
      ]

  -- and no others
  pub part_all : (w : List ℕ) (i : ℕ) (P : ℕ → Type 0) → ((j : ℕ) → j < length w → P (get_or w j 0)) → (j : ℕ) →
      j < length (part w i) → P (get_or (part w i) j 0) × (home (get_or (part w i) j 0) ≡ i)
  part_all [] i P all j h = absurd (omega arith)
  part_all (a ∷ w) i P all j h = elim (eqb_tells (home a) i) as (λ _. P (get_or (part (a ∷ w) i) j 0)
      × (home (get_or (part (a ∷ w) i) j 0) ≡ i)) [
        | inl t ↦ subst (λ xs. P (get_or xs j 0) × (home (get_or xs j 0) ≡ i)) (sym (part_same a w i t.1))
            (heads a w i P all t.1 (λ k l. part_all w i P (λ m z. all (suc m) (omega arith)) k l) j
            (let l = ap (λ (xs : List ℕ). length xs) (part_same a w i t.1) in omega arith))
        | inr t ↦ subst (λ xs. P (get_or xs j 0) × (home (get_or xs j 0) ≡ i)) (sym (part_other a w i t.1))
            (part_all w i P (λ m z. all (suc m) (omega arith)) j
            (let l = ap (λ (xs : List ℕ). length xs) (part_other a w i t.1) in omega arith))
      ]
    where
      heads : (a : ℕ) (w : List ℕ) (i : ℕ) (P : ℕ → Type 0) → ((j : ℕ) → j < length (a ∷ w) → P (get_or (a ∷ w) j 0)) →
          home a ≡ i →
          ((k : ℕ) → k < length (part w i) → P (get_or (part w i) k 0) × (home (get_or (part w i) k 0) ≡ i)) → (j : ℕ) →
          j < length (a ∷ part w i) → P (get_or (a ∷ part w i) j 0) × (home (get_or (a ∷ part w i) j 0) ≡ i)
      heads a w i P all e rest zero h = (all 0 (omega arith), e)
      heads a w i P all e rest (suc j) h = rest j (omega arith)

-- counted by ring node or by actor, where no two share a ring node
pub times_map : (ring_node : ℕ → ℕ) (b : ℕ) (xs : List ℕ) →
    ((j : ℕ) → j < length xs → ring_node (get_or xs j 0) ≡ ring_node b → get_or xs j 0 ≡ b) →
    times (map ring_node xs) (ring_node b) ≡ times xs b
times_map ring_node b [] apart = refl
times_map ring_node b (x ∷ xs) apart =
    let t = times_map ring_node b xs (λ j h e. apart (suc j) (omega arith) e) in
    let same : eqb (ring_node x) (ring_node b) ≡ eqb x b =
    elim (eqb_tells x b) as (λ _. eqb (ring_node x) (ring_node b) ≡ eqb x b) [
      | inl h ↦ eq-eqb (ring_node x) (ring_node b) (ap ring_node h.1) ∙ sym h.0
      | inr h ↦ ne_eqb (ring_node x) (ring_node b) (λ e. h.1 (apart 0 (omega arith) e)) ∙ sym h.0
    ] in
    let c : bit (eqb (ring_node x) (ring_node b)) ≡ bit (eqb x b) = ap bit same in
    let y : times (map ring_node (x ∷ xs)) (ring_node b) ≡
    cond (eqb (ring_node x) (ring_node b)) 1 0 + times (map ring_node xs) (ring_node b) =
    times_cons (ring_node x) (map ring_node xs) (ring_node b) in
    let z = times_cons x xs b in
    omega arith
