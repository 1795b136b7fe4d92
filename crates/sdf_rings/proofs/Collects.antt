-- The lists of the sinks are given out, one after another.
use Rattle.std.proofs.Common.{◌≡◌, ℕ, ◌+◌, ◌<◌, ◌≤◌, ◌⊎◌, List, [], length, get_or, sym, ap, ◌∙◌, subst, arith, Vec}
use Rattle.std.proofs.Common.{vec_len, inl, inr}
use Rattle.std.specs.Global.{Global}
use Rattle.std.proofs.lemmas.Bool.{cases_lt}
use Rattle.sdf_actor.specs.declared.node.Node.TheVariants as kind
use Rattle.sdf_actor.specs.Nets.{Netlist, node}
use Rattle.sdf_actor.specs.Wires.{lists}
use Rattle.sdf_queues.specs.Periods.{HasSinks}
use Rattle.sdf_node.specs.Collected.{IsCollected}
use Rattle.sdf_rings.specs.declared.seat.ring_node.RingNode.{RingNode}
use Rattle.sdf_rings.specs.declared.seat.Seat.{Seat}
use Rattle.sdf_rings.specs.Places.{OnlyRingNode}
use Rattle.sdf_rings.specs.Rests.{ring_node_of, IsPlaced, AreGiven}
use Rattle.sdf_rings.proofs.Syncs.{some_ring_node}
use Rattle.sdf_rings.proofs.Placed.{one_node}

module _ {A S T : Type 0} {n : Netlist A T} (sinks : HasSinks n) {seats : List (Seat A T S)} {places : List (ℕ × ℕ)}
    (placed : IsPlaced n seats places) {cur new : List (Seat A T S)} {a : ℕ} (known : a < length n.nodes)
    (ring_nodes : (j : ℕ) (e : Seat A T S) → vec_len (get_or cur j e).ring_nodes ≡
    vec_len (get_or seats j e).ring_nodes)
    (rest : (b : ℕ) (e : Seat A T S) (d : RingNode A T S) → a ≤ b → b < length n.nodes →
    ring_node_of n cur places e d b ≡ ring_node_of n seats places e d b)
    (u : OnlyRingNode cur new (get_or places a (0, 0)).0 (get_or places a (0, 0)).1) where
  pub ring_nodes_more : (j : ℕ) (e : Seat A T S) →
      vec_len (get_or new j e).ring_nodes ≡ vec_len (get_or seats j e).ring_nodes
  ring_nodes_more j e =
      let d = some_ring_node seats (get_or places a (0, 0)).0 (get_or places a (0, 0)).1
      (λ f. placed.ring_node_in a f known) e in
      ((u e d).seats j e).ring_nodes_same ∙ ring_nodes j e

  pub rest_more : (b : ℕ) (e : Seat A T S) (d : RingNode A T S) → a + 1 ≤ b → b < length n.nodes →
      ring_node_of n new places e d b ≡ ring_node_of n seats places e d b
  rest_more b e d h l =
      (u e d).others (get_or places b (0, 0)).0 (get_or places b (0, 0)).1 e d
      (λ z. let same = one_node placed e d l known z.0 z.1 in omega arith) ∙
      rest b e d (omega arith) l

  pub given_more : {outputs outputs' : List (Vec T Global)} →
      ((e : Seat A T S) (d : RingNode A T S) → IsCollected (node n a) (ring_node_of n cur places e d a).state
      outputs outputs') →
      AreGiven n seats places a outputs → AreGiven n seats places (a + 1) outputs'
  given_more {outputs} {outputs'} one before b ext block made e d h is at = go (cases_lt b a)
    where
      go : (b < a) ⊎ (a ≤ b) → get_or (lists outputs') ext [] ≡ made.items
      go (inl less) = (one e d).others ext (λ other here. absurd
          (let same : b ≡ a = sinks.apart b a ext block other (omega arith) known is here in omega arith))
          ∙ before b ext block made e d less is at
      go (inr more) =
          let same : b ≡ a = omega arith in
          (one e d).own ext block made (subst (λ i. node n i ≡ kind.Sink ext block) same is)
          (ap (λ (z : RingNode A T S). z.state) (rest a e d (omega arith) known)
          ∙ (ap (λ i. (ring_node_of n seats places e d i).state) (sym same) ∙ at))
