-- What the ends of a ring node have moved, by channel.
use Rattle.std.proofs.Common.{◌≡◌, ℕ, ◌<◌, List, length, get_or, take, refl, sym, ap, ◌∙◌, subst, arith, vec_len}
use Rattle.std.specs.Global.{Global}
use Rattle.std.proofs.lemmas.List.FromFn.{get_or-map-range_with_len, length-map-range_with_len}
use Rattle.rtrb.specs.Ring.{sent, received}
use Rattle.rtrb.specs.declared.producer.Producer.{Producer}
use Rattle.rtrb.specs.declared.consumer.Consumer.{Consumer}
use Rattle.rtrb.specs.declared.AnyItems.{AnyItems}
use Rattle.sdf_actor.specs.Steps.{Steps}
use Rattle.sdf_actor.specs.Locals.{IsLocal}
use Rattle.sdf_actor.specs.Nets.{Netlist, Wire, wire, node, wiring, answers, inputs_of, outputs_of, to_port, from_port}
use Rattle.sdf_actor.specs.Nets.{IsNet}
use Rattle.sdf_actor.proofs.Theorems.{ports_have_channels}
use Rattle.sdf_rings.specs.declared.seat.ring_node.RingNode.{RingNode}
use Rattle.sdf_rings.specs.RingNodes.{IsRingNode}

module _ {A S T : Type 0} {s : Steps A S T} {n : Netlist A T} (good : IsNet s n) where
  -- the channel at its own port
  pub out_channel : (c : ℕ) → c < length n.wires → get_or ((wiring s n).outs (wire n c).from.0) (wire n c).from.1 0 ≡ c
  out_channel c l =
      let a : ℕ = (wire n c).from.0 in
      let p : ℕ = (wire n c).from.1 in
      let in_range = good.from_in c l in
      let is = (ports_have_channels s n a p good in_range.0).1 in_range.1 in
      let same : (wire n (from_port n a p)).from ≡ (wire n c).from = λ i. (is.0 i, is.1 i) in
      get_or-map-range_with_len (from_port n a) 0 (outputs_of s (node n a)) p p 0 in_range.1 (omega arith)
      ∙ good.from_once (from_port n a p) c (good.from_all a p in_range.0 in_range.1) l same

  pub in_channel : (c : ℕ) → c < length n.wires → get_or ((wiring s n).ins (wire n c).to.0) (wire n c).to.1 0 ≡ c
  in_channel c l =
      let a : ℕ = (wire n c).to.0 in
      let p : ℕ = (wire n c).to.1 in
      let in_range = good.to_in c l in
      let is = (ports_have_channels s n a p good in_range.0).0 in_range.1 in
      let same : (wire n (to_port n a p)).to ≡ (wire n c).to = λ i. (is.0 i, is.1 i) in
      get_or-map-range_with_len (to_port n a) 0 (inputs_of s (node n a)) p p 0 in_range.1 (omega arith)
      ∙ good.to_once (to_port n a p) c (good.to_all a p in_range.0 in_range.1) l same

  pub port_below : (a : ℕ) {channels : List ℕ} {i m : ℕ} → channels ≡ (wiring s n).ins a → i < length channels →
      m ≡ inputs_of s (node n a) → i < m
  port_below a {channels} {i} {m} is h all =
      let long : length channels ≡ inputs_of s (node n a) =
      ap length is ∙ length-map-range_with_len (to_port n a) 0 (inputs_of s (node n a)) in
      omega arith

  pub port_at : (a p : ℕ) → a < length n.nodes → p < inputs_of s (node n a) →
      (get_or ((wiring s n).ins a) p 0 < length n.wires) × ((wire n (get_or ((wiring s n).ins a) p 0)).to.0 ≡ a)
      × ((wire n (get_or ((wiring s n).ins a) p 0)).to.1 ≡ p)
  port_at a p known h =
      let is = (ports_have_channels s n a p good known).0 h in
      subst (λ c. (c < length n.wires) × ((wire n c).to.0 ≡ a) × ((wire n c).to.1 ≡ p))
      (sym (get_or-map-range_with_len (to_port n a) 0 (inputs_of s (node n a)) p p 0 h (omega arith)))
      (good.to_all a p known h, is.0, is.1)

  -- the channel of a link into node a, and from it too
  pub from_below : (a : ℕ) {channels : List ℕ} {i : ℕ} {w : Wire T} → a < length n.nodes →
      channels ≡ (wiring s n).ins a → i < length channels → w ≡ wire n (get_or channels i 0) → w.from.0 ≡ a →
      w.from.1 < outputs_of s (node n a)
  from_below a {channels} {i} {w} known is h w_is own =
      let c : ℕ = get_or ((wiring s n).ins a) i 0 in
      let here : w ≡ wire n c = w_is ∙ ap (λ cs. wire n (get_or cs i 0)) is in
      let at = port_at a i known (port_below a is h refl) in
      subst (λ v. v.from.1 < outputs_of s (node n a)) (sym here)
      (subst (λ b. (wire n c).from.1 < outputs_of s (node n b)) (ap (λ v. v.from.0) (sym here) ∙ own)
      (good.from_in c at.0).1)

  pub at_port : {a p c : ℕ} → c < length n.wires → (wire n c).to.0 ≡ a → (wire n c).to.1 ≡ p →
      get_or ((wiring s n).ins a) p 0 ≡ c
  at_port {a} {p} {c} l t e = (λ i. get_or ((wiring s n).ins (sym t i)) (sym e i) 0) ∙ in_channel c l

  -- what the ends of a ring node that is node a have moved
  module _ {inputs : List (List T)} {z : RingNode A T S} (st : IsRingNode s n inputs z) {a : ℕ} (is : z.actor ≡ a) where
    pub as_local : IsLocal (wiring s n) (answers s n inputs) a z.done st.own
    as_local = subst (λ b. IsLocal (wiring s n) (answers s n inputs) b z.done st.own) is st.local

    -- an end of a channel is at a port
    pub out_in : (c : ℕ) → c < length n.wires → (wire n c).from.0 ≡ a → (wire n c).from.1 < vec_len z.outs
    out_in c l e =
        let in_range = good.from_in c l in
        let all : vec_len z.outs ≡ outputs_of s (node n (wire n c).from.0) =
        st.outs_all ∙ ap (λ b. outputs_of s (node n b)) (is ∙ sym e) in
        omega arith

    pub in_in : (c : ℕ) → c < length n.wires → (wire n c).to.0 ≡ a → (wire n c).to.1 < vec_len z.ins
    in_in c l e =
        let in_range = good.to_in c l in
        let all : vec_len z.ins ≡ inputs_of s (node n (wire n c).to.0) =
        st.ins_all ∙ ap (λ b. inputs_of s (node n b)) (is ∙ sym e) in
        omega arith

    pub sent_at : (c : ℕ) (y : Producer T Global AnyItems) → c < length n.wires → (wire n c).from.0 ≡ a →
        sent (get_or z.outs.items (wire n c).from.1 y) ≡ st.own c
    sent_at c y l e =
        let at : get_or ((wiring s n).outs z.actor) (wire n c).from.1 0 ≡ c =
        ap (λ b. get_or ((wiring s n).outs b) (wire n c).from.1 0) (is ∙ sym e) ∙ out_channel c l in
        st.gave (wire n c).from.1 y (out_in c l e) ∙ ap st.own at

    pub received_at : (c : ℕ) (x : Consumer T Global AnyItems) → c < length n.wires → (wire n c).to.0 ≡ a →
        received (get_or z.ins.items (wire n c).to.1 x) ≡ take ((wiring s n).rates.consumed c z.done) (st.own c)
    received_at c x l e =
        let at : get_or ((wiring s n).ins z.actor) (wire n c).to.1 0 ≡ c =
        ap (λ b. get_or ((wiring s n).ins b) (wire n c).to.1 0) (is ∙ sym e) ∙ in_channel c l in
        st.took (wire n c).to.1 x (in_in c l e) ∙ ap (λ d. take ((wiring s n).rates.consumed d z.done) (st.own d)) at
