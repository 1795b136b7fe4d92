-- How many firings are left.
use Rattle.std.proofs.Common.{◌≡◌, ℕ, zero, suc, ◌+◌, ◌-◌, ◌<◌, ◌≤◌, List, [], ◌∷◌, length, get_or, refl}
use Rattle.std.proofs.Common.{arith, inl, inr}
use Rattle.std.proofs.lemmas.Bool.{cases_lt}
use Rattle.std.proofs.lemmas.List.Sums.{sum_by-cons}
use Rattle.sdf_rings.specs.declared.seat.Seat.{Seat}
use Rattle.sdf_rings.specs.Totals.{total_left}

module _ {A T S : Type 0} where
  cons : (x : Seat A T S) (xs : List (Seat A T S)) → total_left (x ∷ xs) ≡ (length x.left - x.next) + total_left xs
  cons x xs = sum_by-cons (λ z. length z.left - z.next) x xs

  pub total_le : (old new : List (Seat A T S)) → length new ≡ length old
      → ((i : ℕ) (s : Seat A T S) → i < length old →
      length (get_or new i s).left - (get_or new i s).next ≤
      length (get_or old i s).left - (get_or old i s).next)
      → total_left new ≤ total_left old
  total_le [] [] e p = omega arith
  total_le [] (n ∷ ns) e p = absurd (omega arith)
  total_le (o ∷ os) [] e p = absurd (omega arith)
  total_le (o ∷ os) (n ∷ ns) e p =
      let h = p 0 o (omega arith) in
      let t = total_le os ns (omega arith) (λ i s l. p (suc i) s (omega arith)) in
      let a = cons o os in
      let b = cons n ns in
      omega arith

  pub total_lt : (old new : List (Seat A T S)) (j : ℕ) → j < length old → length new ≡ length old
      → ((i : ℕ) (s : Seat A T S) → i < length old →
      length (get_or new i s).left - (get_or new i s).next ≤
      length (get_or old i s).left - (get_or old i s).next)
      → ((s : Seat A T S) → length (get_or new j s).left - (get_or new j s).next <
      length (get_or old j s).left - (get_or old j s).next)
      → total_left new < total_left old
  total_lt [] new j h e p q = absurd (omega arith)
  total_lt (o ∷ os) [] j h e p q = absurd (omega arith)
  total_lt (o ∷ os) (n ∷ ns) zero h e p q =
      let l = q o in
      let t = total_le os ns (omega arith) (λ i s l. p (suc i) s (omega arith)) in
      let a = cons o os in
      let b = cons n ns in
      omega arith
  total_lt (o ∷ os) (n ∷ ns) (suc j) h e p q =
      let l = p 0 o (omega arith) in
      let t = total_lt os ns j (omega arith) (omega arith) (λ i s l. p (suc i) s (omega arith)) q in
      let a = cons o os in
      let b = cons n ns in
      omega arith

  -- nothing is left where nothing is left at each seat
  pub total_none : (seats : List (Seat A T S)) → ((i : ℕ) (s : Seat A T S) → i < length seats →
      length (get_or seats i s).left ≤ (get_or seats i s).next) → total_left seats ≡ 0
  total_none [] p = refl
  total_none (s ∷ ss) p = let h = p 0 s (omega arith) in let t = total_none ss (λ i x l. p (suc i) x (omega arith)) in
      let a = cons s ss in omega arith

  pub total_some : (seats : List (Seat A T S)) (j : ℕ) (s : Seat A T S) → j < length seats →
      (get_or seats j s).next < length (get_or seats j s).left → 0 < total_left seats
  total_some [] j s h l = absurd (omega arith)
  total_some (x ∷ xs) zero s h l = let a = cons x xs in omega arith
  total_some (x ∷ xs) (suc j) s h l = let t = total_some xs j s (omega arith) l in let a = cons x xs in omega arith

  -- a seat with firings left
  pub which_left : (seats : List (Seat A T S)) → 0 < total_left seats →
      (i : ℕ) × (i < length seats) × ((s : Seat A T S) → (get_or seats i s).next < length (get_or seats i s).left)
  which_left [] h = absurd (omega arith)
  which_left (x ∷ xs) h = elim (cases_lt x.next (length x.left)) as (λ _. (i : ℕ) × (i < length (x ∷ xs))
      × ((s : Seat A T S) → (get_or (x ∷ xs) i s).next < length (get_or (x ∷ xs) i s).left)) [
        | inl l ↦ (0, omega arith, λ s. l)
        | inr l ↦ let a = cons x xs in let t = which_left xs (omega arith) in
            (suc t.0, (let z = t.1 in omega arith), t.2)
      ]
