-- One firing of a node at its ends of rings.
use Rattle.std.proofs.Common.{◌≡◌, ℕ, ◌+◌, ◌≤◌, ◌<◌, List, [], ◌∷◌, ◌++◌, length, get_or, take, refl, sym, ap, ◌∙◌}
use Rattle.std.proofs.Common.{subst, arith, vec_len}
use Rattle.std.specs.Global.{Global}
use Rattle.std.proofs.lemmas.List.Edits.{length-between}
use mathlib.Core.List.{IsPrefix}
use Rattle.rtrb.specs.Ring.{received}
use Rattle.rtrb.specs.declared.consumer.Consumer.{Consumer}
use Rattle.rtrb.specs.declared.AnyItems.{AnyItems}
use Rattle.sdf_actor.specs.Steps.{Steps}
use Rattle.sdf_actor.specs.Histories.{IsWired, taken_before}
use Rattle.sdf_actor.specs.Nets.{Netlist, wire, node, wiring, answer_of, inputs_of, outputs_of, IsNet}
use Rattle.sdf_actor.specs.declared.sides.Side.TheVariants.{Input, Output}
use Rattle.sdf_actor.proofs.Theorems.{nets_are_wired}
use Rattle.sdf_node.specs.Nodes.{IsAt}
use Rattle.sdf_node.specs.declared.node.NodeState.{NodeState}
use Rattle.sdf_rings.specs.declared.seat.ring_node.RingNode.{RingNode}
use Rattle.sdf_rings.specs.Blocks.{start_at, block_of}
use Rattle.sdf_queues.specs.Sizes.{sizes}
use Rattle.sdf_rings.specs.RingNodes.{OwnBegin, IsRingNode, HasMoved}
use Rattle.sdf_rings.proofs.Blocks.{block_in}
use Rattle.sdf_rings.proofs.Known.{out_in, in_in, sent_at, received_at}
use Rattle.sdf_rings.proofs.Knowing.{IsOneMore, one_more}
use Rattle.sdf_rings.proofs.Onward.{ring_node_after, HasResumed, HoldsThen, gone_on}
use Rattle.sdf_rings.proofs.Syncs.{some}
use Rattle.sdf_rings.proofs.Looking.{vec_in}
use Rattle.sdf_rings.proofs.PortBlocks.{outs_long, consumed_in, produced_out, out_block}

-- one firing: the blocks that were taken and put, and the state and what the ring node holds then
pub record OneFiring {A S T : Type 0} (s : Steps A S T) (n : Netlist A T) (inputs : List (List T))
    (x : RingNode A T S) :
    Type 0 where
  pub left : x.done < x.asked
  pub t : List T
  pub b : List T
  pub w : NodeState T S
  pub t_long : length t ≡ start_at (sizes s Input (node n x.actor) x.done) (inputs_of s (node n x.actor))
  pub b_long : length b ≡ start_at (sizes s Output (node n x.actor) x.done) (outputs_of s (node n x.actor))
  pub moved : (many : ℕ) (past : List (List T)) → IsAt s inputs many (node n x.actor) past x.state →
      IsAt s inputs many (node n x.actor) (past ++ t ∷ []) w
  pub puts : (many : ℕ) (past : List (List T)) → IsAt s inputs many (node n x.actor) past x.state →
      b ≡ answer_of s inputs (node n x.actor) past t
  pub held : HoldsThen x (λ i. block_of (sizes s Input (node n x.actor) x.done) i t)
      (λ i. block_of (sizes s Output (node n x.actor) x.done) i b)
  pub begin : OwnBegin n x.actor held.ins.items x.outs.items

module _ {A S T : Type 0} {s : Steps A S T} {n : Netlist A T} (good : IsNet s n) {inputs : List (List T)}
    {x : RingNode A T S} (st : IsRingNode s n inputs x) (one : OneFiring s n inputs x) where
  open one use {t, b, w, held}

  -- what it moves at each port
  abbrev g : ℕ → ℕ
  g = sizes s Input (node n x.actor) x.done

  abbrev h : ℕ → ℕ
  h = sizes s Output (node n x.actor) x.done

  wired : IsWired (wiring s n)
  wired = nets_are_wired s n good

  took_then : (c : ℕ) (d : Consumer T Global AnyItems) → c < length n.wires → (wire n c).to.0 ≡ x.actor →
      received (get_or held.ins.items (wire n c).to.1 d) ≡
      take ((wiring s n).rates.consumed c x.done) (st.own c) ++ block_of g (wire n c).to.1 t
  took_then c d l e =
      let at : (wire n c).to.1 < length x.ins.items = vec_in x.ins (wire n c).to.1 (in_in good st refl c l e) in
      (held.drew (wire n c).to.1 d at).received_then
      ∙ ap (λ r. r ++ block_of g (wire n c).to.1 t) (received_at good st refl c d l e)

  -- what it took of a channel to itself it had put there
  own_taken : (c : ℕ) → c < length n.wires → (wire n c).from.0 ≡ x.actor → (wire n c).to.0 ≡ x.actor →
      IsPrefix (take ((wiring s n).rates.consumed c x.done) (st.own c) ++ block_of g (wire n c).to.1 t) (st.own c)
  own_taken c l f e =
      let at : (wire n c).to.1 < vec_len x.ins = in_in good st refl c l e in
      let after : (wire n c).to.1 < length held.ins.items =
      vec_in held.ins (wire n c).to.1 (omega (arith, held.ins_is)) in
      let from : (wire n c).from.1 < length x.outs.items =
      vec_in x.outs (wire n c).from.1 (out_in good st refl c l f) in
      let d = some held.ins.items (wire n c).to.1 after in
      let y = some x.outs.items (wire n c).from.1 from in
      subst (λ xs. IsPrefix xs (st.own c)) (took_then c d l e)
      (subst (IsPrefix (received (get_or held.ins.items (wire n c).to.1 d)))
      (sent_at good st refl c y l f) (one.begin c d y l f e))

  more : (W : ℕ → List T) × IsOneMore s n inputs x.actor x.done st.own W t b
  more = one_more good st.known st.local (record {
    t_long = one.t_long;
    b_long = one.b_long;
    answered = one.puts x.asked (taken_before (wiring s n) st.own x.actor x.done) st.at;
    own = own_taken;
  })

  on : HasResumed st 1 (λ i. block_of g i t) (λ i. block_of h i b) w
  on = record {
    left = let l = one.left in omega arith;
    W = more.0;
    local = more.1.local;
    at = subst (λ p. IsAt s inputs x.asked (node n x.actor) p w) (sym more.1.past)
        (one.moved x.asked (taken_before (wiring s n) st.own x.actor x.done) st.at);
    into = more.1.into;
    out = λ i p.
        let q : i < length ((wiring s n).outs x.actor) = omega (arith, outs_long good st.known) in
        let is = wired.outs_are x.actor i st.known q in
        more.1.out (get_or ((wiring s n).outs x.actor) i 0) is.1
        ∙ ap (λ r. st.own (get_or ((wiring s n).outs x.actor) i 0) ++ r) (out_block good st.known x.done i b p);
    taken_count = λ i p.
        let inside = block_in g i (inputs_of s (node n x.actor)) p in
        let long = length-between t (start_at g i) (start_at g i + g i) (omega (arith, one.t_long)) in
        let rise : (wiring s n).rates.consumed (get_or ((wiring s n).ins x.actor) i 0) x.done ≤
        (wiring s n).rates.consumed (get_or ((wiring s n).ins x.actor) i 0) (x.done + 1) =
        wired.sound.consumed_rises (get_or ((wiring s n).ins x.actor) i 0) x.done (x.done + 1) (omega arith) in
        omega (arith, consumed_in good st.known i x.done p, consumed_in good st.known i (x.done + 1) p);
    put_count = λ i p.
        let inside = block_in h i (outputs_of s (node n x.actor)) p in
        let long = length-between b (start_at h i) (start_at h i + h i) (omega (arith, one.b_long)) in
        let rise : (wiring s n).rates.produced (get_or ((wiring s n).outs x.actor) i 0) x.done ≤
        (wiring s n).rates.produced (get_or ((wiring s n).outs x.actor) i 0) (x.done + 1) =
        wired.sound.produced_rises (get_or ((wiring s n).outs x.actor) i 0) x.done (x.done + 1) (omega arith) in
        omega (arith, produced_out good st.known i x.done p, produced_out good st.known i (x.done + 1) p);
  }

  pub fired : IsRingNode s n inputs (ring_node_after x 1 w held) × HasMoved s n x (ring_node_after x 1 w held)
  fired = gone_on st good on held
