-- Where all ends are synchronized, what stands where at any counts that are those of the firings done.
use Rattle.std.proofs.Common.{◌≡◌, ℕ, ◌<◌, List, length, get_or, Some, ap, arith}
use Rattle.std.specs.Global.{Global}
use Rattle.std.proofs.lemmas.Option.{none-some}
use Rattle.rtrb.specs.declared.producer.Producer.{Producer}
use Rattle.rtrb.specs.declared.consumer.Consumer.{Consumer}
use Rattle.rtrb.specs.declared.AnyItems.{AnyItems}
use Rattle.sdf_actor.specs.declared.node.Node.{Node}
use Rattle.sdf_actor.specs.declared.node.Node.TheVariants as kind
use Rattle.sdf_actor.specs.declared.sides.Lists.TheVariants.{Outputs}
use Rattle.sdf_actor.specs.NetFaults.{IsAccepted}
use Rattle.sdf_actor.specs.Nets.{Netlist, node, wire, inputs_of, IsNet}
use Rattle.sdf_actor.specs.Sides.{list_of}
use Rattle.sdf_actor.specs.Steps.{Steps, state_after}
use Rattle.sdf_node.specs.declared.node.NodeState.{NodeState}
use Rattle.sdf_node.specs.declared.node.NodeState.TheVariants.{Source, Sink, Inner}
use Rattle.sdf_node.specs.Nodes.{IsAt}
use Rattle.sdf_rings.specs.declared.seat.ring_node.RingNode.{RingNode}
use Rattle.sdf_rings.specs.declared.seat.Seat.{Seat}
use Rattle.sdf_rings.specs.Rests.{ring_node_of, state_in, RingsValue, AreRings, AreAtRestAfter, AreAtRest}
use Rattle.sdf_rings.proofs.Looking.{vec_in}
use Rattle.sdf_rings.proofs.Placed.{outs_of, ins_of}
use Rattle.sdf_rings.proofs.Syncs.{some}

takes_one : {A S T : Type 0} (s : Steps A S T) (x : Node A) (e : ℕ) → list_of Outputs x ≡ Some e → 0 < inputs_of s x
takes_one s (kind.Source ext block) e is = absurd (none-some e is)
takes_one s (kind.Sink ext block) e is = omega arith
takes_one s (kind.Inner x) e is = absurd (none-some e is)

-- an actor at work is in the state after all that it took
pub state_is : {A S T : Type 0} (s : Steps A S T) (inputs : List (List T)) (many : ℕ) (x : A) (past : List (List T))
    (w : NodeState T S) →
    IsAt s inputs many (kind.Inner x) past w → state_in w ≡ Some (state_after s x past)
state_is s inputs many x past (Source next) is = absurd is
state_is s inputs many x past (Sink list) is = absurd is
state_is s inputs many x past (Inner j state) is = ap Some is.1

-- a net has a sink, and a sink has a channel
some_wire : {A S T : Type 0} (s : Steps A S T) (n : Netlist A T) (q : List ℕ) → IsAccepted s n q → IsNet s n →
    0 < length n.wires
some_wire s n q accepted good =
    let found = accepted.lists.outputs 0 accepted.lists.output in
    let l = good.to_all found.0 0 found.1 (takes_one s (node n found.0) 0 found.2) in
    omega arith

module _ {A S T : Type 0} {s : Steps A S T} {hand : RingsValue A S T} (r : AreRings s hand) where
  open hand use {net as n, inputs, seats, places}

  -- a seat, a ring node and an end to read lists with
  pub a_seat : {a : ℕ} → a < length n.nodes → Seat A T S
  a_seat {a} l = some seats (get_or places a (0, 0)).0 (r.placed.seat_in a l)

  pub a_ring_node : {a : ℕ} → a < length n.nodes → RingNode A T S
  a_ring_node {a} l = some (get_or seats (get_or places a (0, 0)).0 (a_seat l)).ring_nodes.items
      (get_or places a (0, 0)).1
      (vec_in (get_or seats (get_or places a (0, 0)).0 (a_seat l)).ring_nodes (get_or places a (0, 0)).1
      (r.placed.ring_node_in a (a_seat l) l))

  pub taker : {c : ℕ} → c < length n.wires → Seat A T S → RingNode A T S → Consumer T Global AnyItems
  taker {c} l e d =
      let to = r.is_net.to_in c l in
      let ins_all = ins_of r e d to.0 in
      some (ring_node_of n seats places e d (wire n c).to.0).ins.items (wire n c).to.1
      (vec_in (ring_node_of n seats places e d (wire n c).to.0).ins (wire n c).to.1 (omega (arith, to.1, ins_all)))

  pub putter : {c : ℕ} → c < length n.wires → Seat A T S → RingNode A T S → Producer T Global AnyItems
  putter {c} l e d =
      let from = r.is_net.from_in c l in
      let outs_all = outs_of r e d from.0 in
      some (ring_node_of n seats places e d (wire n c).from.0).outs.items (wire n c).from.1
      (vec_in (ring_node_of n seats places e d (wire n c).from.0).outs (wire n c).from.1
      (omega (arith, from.1, outs_all)))

  pub rest_at : AreAtRest s n inputs seats places → {q : List ℕ} → IsAccepted s n q → {k : ℕ → ℕ} →
      ((a : ℕ) (e : Seat A T S) (d : RingNode A T S) → a < length n.nodes →
      (ring_node_of n seats places e d a).done ≡ k a) →
      AreAtRestAfter s n inputs seats places k
  rest_at at_rest {q} accepted {k} counts =
      let wires : 0 < length n.wires = some_wire s n q accepted r.is_net in
      let from = r.is_net.from_in 0 wires in
      let e = a_seat from.0 in
      let d = a_ring_node from.0 in
      at_rest e d (taker wires e d) (putter wires e d) k (λ a l. counts a e d l)
