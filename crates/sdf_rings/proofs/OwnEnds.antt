-- The two ends of a channel from a node to itself.
use Rattle.std.proofs.Common.{◌≡◌, ℕ, ◌+◌, ◌<◌, ◌≤◌, List, [], length, get_or, slice_set, refl, ap, ◌∙◌, subst, arith}
use Rattle.std.proofs.Common.{inl, inr, append-nil, get_or-set_other, get_or-set_same}
use Rattle.std.specs.Global.{Global}
use Rattle.std.proofs.lemmas.Bool.{cases_lt}
use Rattle.std.proofs.lemmas.Bool.Decides.{eqb_tells}
use Rattle.std.proofs.lemmas.List.{get_or_past, get_or_default}
use Rattle.std.proofs.Math.Nat.{eq-or-lt_of_le}
use mathlib.Core.List.{IsPrefix}
use Rattle.rtrb.specs.Ring.{sent, received, SameConsumer, SameProducer}
use Rattle.rtrb.specs.declared.producer.Producer.{Producer}
use Rattle.rtrb.specs.declared.consumer.Consumer.{Consumer}
use Rattle.rtrb.specs.declared.AnyItems.{AnyItems}
use Rattle.sdf_actor.specs.Nets.{Netlist, wire}
use Rattle.sdf_rings.specs.Ends.{DrewEach, GaveEach}
use Rattle.sdf_rings.specs.RingNodes.{OwnArePairs, OwnBegin}
use Rattle.sdf_rings.proofs.Pairs.{pair_kept}

-- a relation at each place of two lists holds behind their ends too, if it holds of what is the same
everywhere : {X : Type 0} (R : X → X → Type 0) (xs ys : List X) → length ys ≡ length xs → ((a : X) → R a a) →
    ((i : ℕ) (d : X) → i < length xs → R (get_or xs i d) (get_or ys i d)) →
    (i : ℕ) (d : X) → R (get_or xs i d) (get_or ys i d)
everywhere {X = X} R xs ys long same each i d = elim (cases_lt i (length xs)) as (λ _. R (get_or xs i d)
    (get_or ys i d)) [
      | inl h ↦ each i d h
      | inr h ↦ rw (get_or_past xs i d h, get_or_past ys i d (omega arith)) (same d)
    ]

module _ {A T : Type 0} (n : Netlist A T) where
  -- they stay one ring's whatever is moved there
  pub own_pairs_kept : (a : ℕ) (ins ins' : List (Consumer T Global AnyItems))
      (outs outs' : List (Producer T Global AnyItems)) (taken put : ℕ → List T) → length ins' ≡ length ins →
      length outs' ≡ length outs →
      DrewEach ins ins' taken → GaveEach outs outs' put → OwnArePairs n a ins outs → OwnArePairs n a ins' outs'
  own_pairs_kept a ins ins' outs outs' taken put ins_long outs_long drew gave pairs = λ c d e l f t.
      pair_kept (get_or outs (wire n c).from.1 e) (get_or outs' (wire n c).from.1 e) (get_or ins (wire n c).to.1 d)
      (get_or ins' (wire n c).to.1 d) (pairs c d e l f t)
      (everywhere SameProducer outs outs' outs_long (λ p. ((refl, refl, refl, refl), refl)) (λ i y h. (gave i y h).ring)
      (wire n c).from.1 e)
      (everywhere SameConsumer ins ins' ins_long (λ p. ((refl, refl, refl, refl), refl)) (λ i x h. (drew i x h).ring)
      (wire n c).to.1 d)

  -- before the producers looked, as much had been put
  pub own_begin_before : (a : ℕ) (ins : List (Consumer T Global AnyItems))
      (outs outs' : List (Producer T Global AnyItems)) → length outs' ≡ length outs →
      GaveEach outs outs' (λ _. []) → OwnBegin n a ins outs' → OwnBegin n a ins outs
  own_begin_before a ins outs outs' outs_long gave begin = λ c d e l f t.
      let same = everywhere (λ p q. sent q ≡ sent p) outs outs' outs_long (λ p. refl)
      (λ i y h. (gave i y h).sent_then ∙ append-nil (sent (get_or outs i y))) (wire n c).from.1 e in
      subst (λ xs. IsPrefix (received (get_or ins (wire n c).to.1 d)) xs) same (begin c d e l f t)

  -- what was taken at the ports below i is the beginning of what was put there
  abbrev pub BeginBelow : ℕ → List (Consumer T Global AnyItems) → List (Producer T Global AnyItems) → ℕ → Type 0
  BeginBelow a ins outs i = (c : ℕ) (d : Consumer T Global AnyItems) (e : Producer T Global AnyItems) →
      c < length n.wires → (wire n c).from.0 ≡ a → (wire n c).to.0 ≡ a → (wire n c).to.1 < i →
      IsPrefix (received (get_or ins (wire n c).to.1 d)) (sent (get_or outs (wire n c).from.1 e))

  -- the ends of the channel at port i were synchronized
  module _ (a : ℕ) (ins : List (Consumer T Global AnyItems)) (outs : List (Producer T Global AnyItems))
      (x : Consumer T Global AnyItems) (y : Producer T Global AnyItems) (i q : ℕ)
      (in_in : i < length ins) (out_in : q < length outs) (begins : IsPrefix (received x) (sent y))
      (p : Producer T Global AnyItems) (p_is : p ≡ get_or outs q p) (sent_kept : sent y ≡ sent p)
      (from : (c : ℕ) → c < length n.wires → (wire n c).to.0 ≡ a → (wire n c).to.1 ≡ i → (wire n c).from.1 ≡ q) where
    sent_same : (k : ℕ) (e : Producer T Global AnyItems) →
        sent (get_or (slice_set outs q y) k e) ≡ sent (get_or outs k e)
    sent_same k e = elim (eqb_tells k q) as (λ _. sent (get_or (slice_set outs q y) k e) ≡ sent (get_or outs k e)) [
      | inl h ↦ rw (h.1, get_or-set_same outs q y e out_in)
          (sent_kept ∙ ap sent (p_is ∙ get_or_default outs q p e out_in))
      | inr h ↦ rw (get_or-set_other outs q k y e h.1) refl
    ]

    pub begin_next : BeginBelow a ins outs i → BeginBelow a (slice_set ins i x) (slice_set outs q y) (i + 1)
    begin_next before c d e l f t h =
        let le : (wire n c).to.1 ≤ i = omega arith in
        elim (eq-or-lt_of_le le) as (λ _. IsPrefix (received (get_or (slice_set ins i x) (wire n c).to.1 d))
        (sent (get_or (slice_set outs q y) (wire n c).from.1 e))) [
          | inl same ↦ rw (
            same,
            from c l t same,
            get_or-set_same ins i x d in_in,
            get_or-set_same outs q y e out_in,
          ) begins
          | inr less ↦ rw (
            get_or-set_other ins i (wire n c).to.1 x d (λ z. absurd (omega arith)),
            sent_same (wire n c).from.1 e,
          ) (before c d e l f t less)
        ]

  -- the channel at port i is another node's
  pub begin_none : (a : ℕ) (ins : List (Consumer T Global AnyItems))
      (outs : List (Producer T Global AnyItems)) (i : ℕ) →
      ((c : ℕ) → c < length n.wires → (wire n c).from.0 ≡ a → (wire n c).to.0 ≡ a → (wire n c).to.1 ≡ i → ⊥) →
      BeginBelow a ins outs i → BeginBelow a ins outs (i + 1)
  begin_none a ins outs i none before c d e l f t h =
      let le : (wire n c).to.1 ≤ i = omega arith in
      elim (eq-or-lt_of_le le) as (λ _. IsPrefix (received (get_or ins (wire n c).to.1 d))
      (sent (get_or outs (wire n c).from.1 e))) [
        | inl same ↦ absurd (none c l f t same)
        | inr less ↦ before c d e l f t less
      ]
