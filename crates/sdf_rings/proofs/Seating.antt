-- Nodes that are given their places on a seat, and seats that are filled one after another.
use Rattle.std.proofs.Common.{◌≡◌, ℕ, ◌+◌, ◌≤◌, ◌<◌, ◌⊎◌, inl, inr, List, [], ◌∷◌, ◌++◌, length, get_or, take, Option}
use Rattle.std.proofs.Common.{refl, sym, ap, ◌∙◌, subst, arith, eqb, length-append}
use Rattle.std.specs.Global.{Global}
use Rattle.std.proofs.lemmas.Bool.{cases_lt, eq-eqb, ne_eqb}
use Rattle.std.proofs.lemmas.List.{get_or_append_left, get_or_push}
use Rattle.std.proofs.lemmas.List.Sums.{count_by_more_no, count_by_more_yes}
use Rattle.rtrb.specs.declared.producer.Producer.{Producer}
use Rattle.rtrb.specs.declared.consumer.Consumer.{Consumer}
use Rattle.rtrb.specs.declared.AnyItems.{AnyItems}
use Rattle.sdf_actor.specs.Steps.{Steps}
use Rattle.sdf_actor.specs.Nets.{Netlist, wire}
use Rattle.sdf_rings.specs.declared.seat.ring_node.RingNode.{RingNode}
use Rattle.sdf_rings.specs.declared.seat.Seat.{Seat}
use Rattle.sdf_rings.specs.Openings.{end_at, HasEnds}
use Rattle.sdf_rings.specs.Begun.{place, count_on_seat, AreNext, HasBegun, AreBegun, IsBegun, HaveBegun}
use Rattle.sdf_rings.proofs.Lists.{push_each}

-- the ends at a node are there where they are as they were
pub ends_same : {A T : Type 0} (n : Netlist A T) (a : ℕ) (ps qs : List (Option (Producer T Global AnyItems)))
    (xs ys : List (Option (Consumer T Global AnyItems))) →
    ((c : ℕ) → (wire n c).from.0 ≡ a → end_at qs c ≡ end_at ps c) →
    ((c : ℕ) → (wire n c).to.0 ≡ a → end_at ys c ≡ end_at xs c) → HasEnds n a ps xs → HasEnds n a qs ys
ends_same n a ps qs xs ys same_out same_in has = record {
  into = λ c l e. let h = has.into c l e in (h.0, same_in c e ∙ h.1, h.2);
  out_of = λ c l e. let h = has.out_of c l e in (h.0, same_out c e ∙ h.1, h.2);
  own = λ c p x l from to there here. has.own c p x l from to (sym (same_out c from) ∙ there)
      (sym (same_in c to) ∙ here);
}

-- a node that has not fired has its ends where they are as they were
begun_same : {A S T : Type 0} {s : Steps A S T} {n : Netlist A T} {inputs : List (List T)} {asked : ℕ → ℕ}
    (ps qs : List (Option (Producer T Global AnyItems))) (xs ys : List (Option (Consumer T Global AnyItems))) (a : ℕ)
    (x : RingNode A T S) → ((c : ℕ) → (wire n c).from.0 ≡ a → end_at qs c ≡ end_at ps c) →
    ((c : ℕ) → (wire n c).to.0 ≡ a → end_at ys c ≡ end_at xs c) →
    HasBegun s n inputs asked ps xs a x → HasBegun s n inputs asked qs ys a x
begun_same ps qs xs ys a x same_out same_in b = record {
  is = b.is;
  actor_is = b.actor_is;
  undone = b.undone;
  asked_is = b.asked_is;
  ins_are = λ c d l e. same_in c e ∙ b.ins_are c d l e;
  outs_are = λ c d l e. same_out c e ∙ b.outs_are c d l e;
}

module _ {A S T : Type 0} (s : Steps A S T) (n : Netlist A T) (inputs : List (List T)) (asked : ℕ → ℕ)
    (ps : List (Option (Producer T Global AnyItems))) (xs : List (Option (Consumer T Global AnyItems)))
    (places : List (ℕ × ℕ)) where
  -- the nodes of seat i below a stand on it, and the ends at the others are as they were
  pub record IsSeating (i a : ℕ) (ring_nodes : List (RingNode A T S)) (qs : List (Option (Producer T Global AnyItems)))
      (ys : List (Option (Consumer T Global AnyItems))) : Type 0 where
    pub len : length ring_nodes ≡ count_on_seat (take a places) i
    pub known : (b : ℕ) → b < a → (place places b).0 ≡ i → (place places b).1 < length ring_nodes
    pub here : (b : ℕ) (d : RingNode A T S) → b < a → (place places b).0 ≡ i →
        HasBegun s n inputs asked ps xs b (get_or ring_nodes (place places b).1 d)
    pub only : (k : ℕ) → k < length ring_nodes → (b : ℕ) × (b < a) × ((place places b).0 ≡ i) × ((place places b).1 ≡ k)
    pub producers : (c : ℕ) → ((place places (wire n c).from.0).0 ≡ i → a ≤ (wire n c).from.0) →
        end_at qs c ≡ end_at ps c
    pub consumers : (c : ℕ) → ((place places (wire n c).to.0).0 ≡ i → a ≤ (wire n c).to.0) → end_at ys c ≡ end_at xs c

  -- the seats below i are begun, and the ends at the others are as they were
  pub record AreFilled (order : List ℕ) (i : ℕ) (seats : List (Seat A T S))
      (qs : List (Option (Producer T Global AnyItems))) (ys : List (Option (Consumer T Global AnyItems))) : Type 0 where
    pub each : HaveBegun s n inputs asked ps xs places order i seats
    pub producers : (c : ℕ) → i ≤ (place places (wire n c).from.0).0 → end_at qs c ≡ end_at ps c
    pub consumers : (c : ℕ) → i ≤ (place places (wire n c).to.0).0 → end_at ys c ≡ end_at xs c

module _ {A S T : Type 0} {s : Steps A S T} {n : Netlist A T} {inputs : List (List T)} {asked : ℕ → ℕ}
    {ps : List (Option (Producer T Global AnyItems))} {xs : List (Option (Consumer T Global AnyItems))}
    {places : List (ℕ × ℕ)} where
  pub seating_begin : {i : ℕ} → IsSeating s n inputs asked ps xs places i 0 [] ps xs
  seating_begin = record {
    len = refl;
    known = λ b l. absurd (omega arith);
    here = λ b d l. absurd (omega arith);
    only = λ k l. absurd (omega arith);
    producers = λ c h. refl;
    consumers = λ c h. refl;
  }

  module _ {i a : ℕ} {ring_nodes : List (RingNode A T S)} {qs : List (Option (Producer T Global AnyItems))}
      {ys : List (Option (Consumer T Global AnyItems))}
      (st : IsSeating s n inputs asked ps xs places i a ring_nodes qs ys) where
    -- what stands at a node of the seat that comes later
    pub seating_there : (place places a).0 ≡ i → HasEnds n a ps xs → HasEnds n a qs ys
    seating_there e has = ends_same n a ps qs xs ys (λ c from. st.producers c (λ h. omega (arith, from)))
        (λ c to. st.consumers c (λ h. omega (arith, to))) has

    pub seating_skip : a < length places → ((place places a).0 ≡ i → ⊥) →
        IsSeating s n inputs asked ps xs places i (a + 1) ring_nodes qs ys
    seating_skip inside ne = record {
      len = st.len ∙ sym (count_by_more_no (λ p. eqb p.0 i) places a (0, 0) inside (ne_eqb (place places a).0 i ne));
      known = λ b l e. st.known b (below b l e (cases_lt b a)) e;
      here = λ b d l e. st.here b d (below b l e (cases_lt b a)) e;
      only = λ k l. let o = st.only k l in (o.0, omega (arith, o.1), o.2, o.3);
      producers = λ c h. st.producers c (λ e. omega (arith, h e));
      consumers = λ c h. st.consumers c (λ e. omega (arith, h e));
    }
      where
        below : (b : ℕ) → b < a + 1 → (place places b).0 ≡ i → (b < a) ⊎ (a ≤ b) → b < a
        below b l e (inl less) = less
        below b l e (inr above) = let same : b ≡ a = omega arith in
            absurd (ne (sym (ap (λ j. (place places j).0) same) ∙ e))

    module _ (inside : a < length places) (e : (place places a).0 ≡ i) (next : AreNext places) {x : RingNode A T S}
        (begun : HasBegun s n inputs asked qs ys a x) {ring_nodes' : List (RingNode A T S)}
        (is : ring_nodes' ≡ ring_nodes ++ x ∷ [])
        (qs' : List (Option (Producer T Global AnyItems))) (ys' : List (Option (Consumer T Global AnyItems)))
        (same_out : (c : ℕ) → ((wire n c).from.0 ≡ a → ⊥) → end_at qs' c ≡ end_at qs c)
        (same_in : (c : ℕ) → ((wire n c).to.0 ≡ a → ⊥) → end_at ys' c ≡ end_at ys c) where
      at : (place places a).1 ≡ length ring_nodes
      at = next a inside ∙ (ap (λ j. count_on_seat (take a places) j) e ∙ sym st.len)

      more : length ring_nodes' ≡ length ring_nodes + 1
      more = ap length is ∙ length-append ring_nodes (x ∷ [])

      -- its ends were there from the first
      first : HasBegun s n inputs asked ps xs a x
      first = begun_same qs ps ys xs a x (λ c from. sym (st.producers c (λ h. omega (arith, from))))
          (λ c to. sym (st.consumers c (λ h. omega (arith, to)))) begun

      old_at : (k : ℕ) (d : RingNode A T S) → k < length ring_nodes → get_or ring_nodes' k d ≡ get_or ring_nodes k d
      old_at k d l = ap (λ zs. get_or zs k d) is ∙ get_or_append_left ring_nodes (x ∷ []) d k l

      new_at : (d : RingNode A T S) → get_or ring_nodes' (place places a).1 d ≡ x
      new_at d = ap (λ zs. get_or zs (place places a).1 d) is ∙ get_or_push ring_nodes x d (place places a).1 (sym at)

      go_known : (b : ℕ) → b < a + 1 → (place places b).0 ≡ i → (b < a) ⊎ (a ≤ b) →
          (place places b).1 < length ring_nodes'
      go_known b l f (inl below) = omega (arith, st.known b below f, more)
      go_known b l f (inr above) = let same : a ≡ b = omega arith in
          subst (λ j. (place places j).1 < length ring_nodes') same (omega (arith, at, more))

      go_here : (b : ℕ) (d : RingNode A T S) → b < a + 1 → (place places b).0 ≡ i → (b < a) ⊎ (a ≤ b) →
          HasBegun s n inputs asked ps xs b (get_or ring_nodes' (place places b).1 d)
      go_here b d l f (inl below) = subst (HasBegun s n inputs asked ps xs b)
          (sym (old_at (place places b).1 d (st.known b below f))) (st.here b d below f)
      go_here b d l f (inr above) =
          let same : a ≡ b = omega arith in
          subst (λ j. HasBegun s n inputs asked ps xs j (get_or ring_nodes' (place places j).1 d)) same
          (subst (HasBegun s n inputs asked ps xs a) (sym (new_at d)) first)

      go_only : (k : ℕ) → k < length ring_nodes' → (k < length ring_nodes) ⊎ (length ring_nodes ≤ k) →
          (b : ℕ) × (b < a + 1) × ((place places b).0 ≡ i) × ((place places b).1 ≡ k)
      go_only k l (inl below) = let o = st.only k below in (o.0, omega (arith, o.1), o.2, o.3)
      go_only k l (inr above) = (a, omega arith, e, omega (arith, at, more, l))

      pub seating_take : IsSeating s n inputs asked ps xs places i (a + 1) ring_nodes' qs' ys'
      seating_take = record {
        len = more ∙ (ap (λ m. m + 1) st.len ∙ sym (count_by_more_yes (λ p. eqb p.0 i) places a (0, 0) inside
            (eq-eqb (place places a).0 i e)));
        known = λ b l f. go_known b l f (cases_lt b a);
        here = λ b d l f. go_here b d l f (cases_lt b a);
        only = λ k l. go_only k l (cases_lt k (length ring_nodes));
        producers = λ c h. same_out c (λ from. let m = h (ap (λ j. (place places j).0) from ∙ e) in
            absurd (omega (arith, from, m))) ∙ st.producers c (λ f. omega (arith, h f));
        consumers = λ c h. same_in c (λ to. let m = h (ap (λ j. (place places j).0) to ∙ e) in
            absurd (omega (arith, to, m))) ∙ st.consumers c (λ f. omega (arith, h f));
      }

    -- all nodes of the seat stand there
    pub seating_end : a ≡ length n.nodes → AreBegun s n inputs asked ps xs places i ring_nodes
    seating_end all = record {
      known = λ b l e. st.known b (omega arith) e;
      here = λ b d l e. st.here b d (omega arith) e;
      only = λ k l. let o = st.only k l in (o.0, omega (arith, o.1), o.2, o.3);
    }

  pub filled_begin : {order : List ℕ} → AreFilled s n inputs asked ps xs places order 0 [] ps xs
  filled_begin = record { each = λ k e l. absurd (omega arith); producers = λ c h. refl; consumers = λ c h. refl }

  module _ {order : List ℕ} {i : ℕ} {seats : List (Seat A T S)} {qs : List (Option (Producer T Global AnyItems))}
      {ys : List (Option (Consumer T Global AnyItems))}
      (st : AreFilled s n inputs asked ps xs places order i seats qs ys) where
    -- the ends at a node of the next seat
    pub filled_there : (a : ℕ) → (place places a).0 ≡ i → HasEnds n a ps xs → HasEnds n a qs ys
    filled_there a e has =
        ends_same n a ps qs xs ys (λ c from. st.producers c
        (let m = ap (λ j. (place places j).0) from in omega (arith, m, e)))
        (λ c to. st.consumers c (let m = ap (λ j. (place places j).0) to in omega (arith, m, e))) has

    pub filled_more : {x : Seat A T S} {seats' : List (Seat A T S)}
        (qs' : List (Option (Producer T Global AnyItems))) (ys' : List (Option (Consumer T Global AnyItems))) →
        length seats ≡ i → seats' ≡ seats ++ x ∷ [] → IsBegun s n inputs asked qs ys places order i x →
        ((c : ℕ) → ((place places (wire n c).from.0).0 ≡ i → ⊥) → end_at qs' c ≡ end_at qs c) →
        ((c : ℕ) → ((place places (wire n c).to.0).0 ≡ i → ⊥) → end_at ys' c ≡ end_at ys c) →
        AreFilled s n inputs asked ps xs places order (i + 1) seats' qs' ys'
    filled_more {x} {seats'} qs' ys' len is b same_out same_in = record {
      each = push_each (λ k z. IsBegun s n inputs asked ps xs places order k z) seats seats' x i is
          len st.each first;
      producers = λ c h. same_out c (λ e. absurd (omega arith)) ∙ st.producers c (omega arith);
      consumers = λ c h. same_in c (λ e. absurd (omega arith)) ∙ st.consumers c (omega arith);
    }
      where
        first : IsBegun s n inputs asked ps xs places order i x
        first = record {
          processor_is = b.processor_is;
          first = b.first;
          ring_nodes_are = record {
            known = b.ring_nodes_are.known;
            here = λ a d l e.
                begun_same qs ps ys xs a (get_or x.ring_nodes.items (place places a).1 d)
                (λ c from. sym (st.producers c (let m = ap (λ j. (place places j).0) from in omega (arith, m, e))))
                (λ c to. sym (st.consumers c (let m = ap (λ j. (place places j).0) to in omega (arith, m, e))))
                (b.ring_nodes_are.here a d l e);
            only = b.ring_nodes_are.only;
          };
          left_is = b.left_is;
        }
