-- A ring node whose node went on by some firings.
use Rattle.std.proofs.Common.{◌≡◌, ℕ, ◌+◌, ◌≤◌, ◌<◌, List, ◌++◌, length, get_or, take, refl, sym, ap, ◌∙◌, arith}
use Rattle.std.proofs.Common.{vec_len}
use Rattle.std.specs.Global.{Global}
use Rattle.std.specs.declared.vec.Vec.{Vec}
use Rattle.rtrb.specs.Ring.{received}
use Rattle.rtrb.specs.declared.producer.Producer.{Producer}
use Rattle.rtrb.specs.declared.consumer.Consumer.{Consumer}
use Rattle.rtrb.specs.declared.AnyItems.{AnyItems}
use Rattle.sdf_actor.specs.Steps.{Steps}
use Rattle.sdf_actor.specs.Histories.{Wiring, taken_before}
use Rattle.sdf_actor.specs.Locals.{IsLocal}
use Rattle.sdf_actor.specs.Nets.{Netlist, wire, node, wiring, answers, inputs_of, outputs_of, IsNet}
use Rattle.sdf_actor.specs.Sides.{moved_at}
use Rattle.sdf_actor.specs.declared.node.Node.{Node}
use Rattle.sdf_actor.specs.declared.sides.Side.TheVariants.{Input, Output}
use Rattle.sdf_node.specs.Nodes.{IsAt}
use Rattle.sdf_node.specs.declared.node.NodeState.{NodeState}
use Rattle.sdf_rings.specs.declared.seat.ring_node.RingNode.{RingNode}
use Rattle.sdf_rings.specs.Ends.{DrewEach, GaveEach}
use Rattle.sdf_rings.specs.RingNodes.{IsRingNode, HasMoved}
use Rattle.sdf_rings.proofs.Known.{received_at, in_in, port_at}
use Rattle.sdf_rings.proofs.OwnEnds.{own_pairs_kept}
use Rattle.sdf_rings.proofs.Looking.{vec_in, items_long}

-- the ends and the working blocks of a ring node that took and put these at its ports
pub record HoldsThen {A S T : Type 0} (x : RingNode A T S) (taken_at put_at : ℕ → List T) : Type 0 where
  pub ins : Vec (Consumer T Global AnyItems) Global
  pub outs : Vec (Producer T Global AnyItems) Global
  pub taken : Vec T Global
  pub put : Vec T Global
  pub drew : DrewEach x.ins.items ins.items taken_at
  pub gave : GaveEach x.outs.items outs.items put_at
  pub ins_is : vec_len ins ≡ vec_len x.ins
  pub outs_is : vec_len outs ≡ vec_len x.outs
  pub taken_is : length taken.items ≡ length x.taken.items
  pub put_is : length put.items ≡ length x.put.items

-- the ring node behind its next so many firings, with its state and what it holds then
abbrev pub ring_node_after : {A S T : Type 0} (x : RingNode A T S) {taken_at put_at : ℕ → List T} → ℕ → NodeState T S →
    HoldsThen x taken_at put_at → RingNode A T S
ring_node_after x more w held = record x {
  state = w;
  ins = held.ins;
  outs = held.outs;
  taken = held.taken;
  put = held.put;
  done = x.done + more;
}

module _ {A S T : Type 0} {s : Steps A S T} {n : Netlist A T} {inputs : List (List T)} {x : RingNode A T S}
    (st : IsRingNode s n inputs x) where
  abbrev f : Wiring T
  f = wiring s n

  abbrev v : Node A
  v = node n x.actor

  -- after so many more firings the node knows W of its channels, has this state, and took and put this at each port
  pub record HasResumed (more : ℕ) (taken put : ℕ → List T) (w : NodeState T S) : Type 0 where
    pub left : x.done + more ≤ x.asked
    pub W : ℕ → List T
    pub local : IsLocal f (answers s n inputs) x.actor (x.done + more) W
    pub at : IsAt s inputs x.asked v (taken_before f W x.actor (x.done + more)) w
    pub into : (c : ℕ) → c < length n.wires → (wire n c).to.0 ≡ x.actor →
        take (f.rates.consumed c (x.done + more)) (W c) ≡
        take (f.rates.consumed c x.done) (st.own c) ++ taken (wire n c).to.1
    pub out : (i : ℕ) → i < outputs_of s v →
        W (get_or (f.outs x.actor) i 0) ≡ st.own (get_or (f.outs x.actor) i 0) ++ put i
    pub taken_count : (i : ℕ) → i < inputs_of s v →
        length (taken i) + moved_at s Input v i x.done ≡ moved_at s Input v i (x.done + more)
    pub put_count : (i : ℕ) → i < outputs_of s v →
        length (put i) + moved_at s Output v i x.done ≡ moved_at s Output v i (x.done + more)

  module _ (good : IsNet s n) {more : ℕ} {taken put : ℕ → List T} {w : NodeState T S}
      (on : HasResumed more taken put w) (held : HoldsThen x taken put) where
    open on use {W}
    open held use {ins, outs, drew, gave, ins_is, outs_is, taken_is, put_is}

    took_then : (c : ℕ) (d : Consumer T Global AnyItems) → c < length n.wires → (wire n c).to.0 ≡ x.actor →
        received (get_or ins.items (wire n c).to.1 d) ≡ take (f.rates.consumed c (x.done + more)) (W c)
    took_then c d l e =
        let h : (wire n c).to.1 < length x.ins.items = vec_in x.ins (wire n c).to.1 (in_in good st refl c l e) in
        (drew (wire n c).to.1 d h).received_then ∙ (ap (λ r. r ++ taken (wire n c).to.1)
        (received_at good st refl c d l e) ∙ sym (on.into c l e))

    abbrev y : RingNode A T S
    y = ring_node_after x more w held

    on_ring_node : IsRingNode s n inputs y
    on_ring_node = record {
      known = st.known;
      own_pairs = own_pairs_kept n x.actor x.ins.items ins.items x.outs.items outs.items taken put
          (items_long ins x.ins ins_is) (items_long outs x.outs outs_is) drew gave st.own_pairs;
      within = on.left;
      own = W;
      local = on.local;
      at = on.at;
      ins_all = ins_is ∙ st.ins_all;
      outs_all = outs_is ∙ st.outs_all;
      took = λ i d h.
          let l : i < inputs_of s v = omega (arith, st.ins_all) in
          let c : ℕ = get_or (f.ins x.actor) i 0 in
          let is = port_at good x.actor i st.known l in
          ap (λ j. received (get_or ins.items j d)) (sym is.2) ∙ took_then c d is.0 is.1;
      gave = λ i d h.
          let l : i < vec_len x.outs = omega arith in
          let p : i < outputs_of s v = omega (arith, st.outs_all) in
          (gave i d (vec_in x.outs i l)).sent_then ∙ (ap (λ r. r ++ put i) (st.gave i d l) ∙ sym (on.out i p));
      phases = st.phases;
      takes = st.takes;
      puts = st.puts;
      taken_long = λ few k. let long = st.taken_long (omega arith) k in omega (arith, taken_is);
      put_long = λ few k. let long = st.put_long (omega arith) k in omega (arith, put_is);
    }

    on_moved : HasMoved s n x y
    on_moved = record {
      actor_kept = refl;
      asked_kept = refl;
      more = omega arith;
      ins_kept = ins_is;
      outs_kept = outs_is;
      taken = taken;
      put = put;
      drew = drew;
      gave = gave;
      taken_count = λ i h. on.taken_count i (omega (arith, st.ins_all));
      put_count = λ i h. on.put_count i (omega (arith, st.outs_all));
    }

    pub gone_on : IsRingNode s n inputs y × HasMoved s n x y
    gone_on = (on_ring_node, on_moved)
