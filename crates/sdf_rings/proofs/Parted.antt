-- The elements of two parts are those of the whole.
use Rattle.std.proofs.Common.{◌≡◌, ℕ, ◌+◌, ◌-◌, ◌<◌, ◌≤◌, List, ◌++◌, length, get_or, sym, subst, inl, inr, ◌⊎◌, arith}
use Rattle.std.proofs.Common.{length-append}
use Rattle.std.proofs.lemmas.Bool.{cases_lt}
use Rattle.std.proofs.lemmas.List.{get_or_append_left, get_or-append-add, get_or-append_right}
use Rattle.sdf_rings.specs.Busy.{HoldsFrom, BecameFrom}

module _ {X : Type 0} (base m : ℕ) (front back : List X) (long : length front ≡ m) where
  module _ (P : ℕ → X → Type 0) (whole : HoldsFrom P base (front ++ back)) where
    pub first_holds : HoldsFrom P base front
    first_holds = record {
      room = omega (arith, whole.room, length-append front back);
      each = λ k d l. subst (P (base + k)) (get_or_append_left front back d k l)
          (whole.each k d (omega (arith, l, length-append front back)));
    }

    pub second_holds : HoldsFrom P (base + m) back
    second_holds = record {
      room = omega (arith, whole.room, length-append front back, long);
      each = λ k d l.
          let at : P (base + (length front + k)) (get_or (front ++ back) (length front + k) d) =
          whole.each (length front + k) d (omega (arith, l, length-append front back)) in
          let same : base + (length front + k) ≡ base + m + k = omega (arith, long) in
          subst (λ i. P i (get_or back k d)) same
          (subst (P (base + (length front + k))) (get_or-append-add front back k d) at);
    }

  module _ (R : ℕ → X → X → Type 0) (front' back' : List X) (first : BecameFrom R base front front')
      (second : BecameFrom R (base + m) back back') where
    pub both_became : BecameFrom R base (front ++ back) (front' ++ back')
    both_became = record {
      len = omega (arith, length-append front back, length-append front' back', first.len, second.len);
      each = λ k d l. go k d l (cases_lt k (length front));
    }
      where
        go : (k : ℕ) (d : X) → k < length (front ++ back) → (k < length front) ⊎ (length front ≤ k) →
            R (base + k) (get_or (front ++ back) k d) (get_or (front' ++ back') k d)
        go k d l (inl low) =
            subst (λ y. R (base + k) (get_or (front ++ back) k d) y)
            (sym (get_or_append_left front' back' d k (omega (arith, low, first.len))))
            (subst (λ x. R (base + k) x (get_or front' k d)) (sym (get_or_append_left front back d k low))
            (first.each k d low))
        go k d l (inr high) =
            let j : ℕ = k - length front in
            let in_back : j < length back = omega (arith, l, length-append front back, high) in
            let at : base + m + j ≡ base + k = omega (arith, long, high) in
            subst (λ y. R (base + k) (get_or (front ++ back) k d) y)
            (sym (get_or-append_right front' back' (length front) k d first.len high))
            (subst (λ x. R (base + k) x (get_or back' j d))
            (sym (get_or-append_right front back (length front) k d (λ _. length front) high))
            (subst (λ i. R i (get_or back j d) (get_or back' j d)) at (second.each j d in_back)))
