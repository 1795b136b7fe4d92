-- Where nothing is left of a plan, each node has done its firings of the sequence, and the lists of the sinks are the
-- outputs.
use Rattle.std.proofs.Common.{◌≡◌, ℕ, ◌<◌, List, [], length, get_or, sym, ap, ◌∙◌, subst, arith, Vec, inl, inr}
use Rattle.std.specs.Global.{Global}
use Rattle.std.proofs.lemmas.Bool.{cases_lt}
use Rattle.std.proofs.lemmas.List.{length-map}
use Rattle.sdf_graph.specs.Sequences.{times}
use Rattle.sdf_actor.specs.declared.node.Node.TheVariants as kind
use Rattle.sdf_actor.specs.declared.sides.Lists.TheVariants.{Outputs}
use Rattle.sdf_actor.specs.Histories.{taken_before}
use Rattle.sdf_actor.specs.Laws.{AreCountsOf}
use Rattle.sdf_actor.specs.NetFaults.{IsAccepted}
use Rattle.sdf_actor.specs.declared.net_state.NetState.{NetState}
use Rattle.sdf_actor.specs.Nets.{node, wiring, arrived}
use Rattle.sdf_actor.specs.Sides.{list_count}
use Rattle.sdf_actor.specs.Steps.{Steps}
use Rattle.sdf_actor.specs.Wires.{lists}
use Rattle.sdf_node.proofs.Theorems.{nodes_keep_states, sinks_hold_lists}
use Rattle.sdf_queues.specs.RunResults.{AreOutputs}
use Rattle.sdf_queues.specs.Feeds.{HasRun}
use Rattle.sdf_node.specs.Nodes.{IsAt}
use Rattle.sdf_queues.proofs.Theorems.{sinks_take_all}
use Rattle.sdf_rings.specs.declared.seat.ring_node.RingNode.{RingNode}
use Rattle.sdf_rings.specs.declared.seat.Seat.{Seat}
use Rattle.sdf_rings.specs.Seats.{times_between}
use Rattle.sdf_rings.specs.Rests.{ring_node_of, RingsValue, AreRings, AreAtRestAfter, AreAtRest, HoldNetState, AreGiven}
use Rattle.sdf_rings.specs.Asks.{IsPlanned}
use Rattle.sdf_rings.specs.Totals.{total_left}
use Rattle.sdf_rings.proofs.Reading.{a_seat, a_ring_node, taker, rest_at}
use Rattle.sdf_rings.proofs.Times.{times_none}
use Rattle.sdf_rings.proofs.Totals.{total_some}

module _ {A S T : Type 0} {s : Steps A S T} {hand : RingsValue A S T} (r : AreRings s hand)
    {order : List ℕ} {cap : ℕ → ℕ} (plan : IsPlanned s hand.net hand.seats hand.places order cap)
    (none : total_left hand.seats ≡ 0) where
  open hand use {net as n, inputs, seats, places}

  ended : (a : ℕ) (e : Seat A T S) (d : RingNode A T S) → a < length n.nodes →
      (ring_node_of n seats places e d a).done ≡ times order a
  ended a e d l =
      let i : ℕ = (get_or places a (0, 0)).0 in
      let k : ℕ = (get_or places a (0, 0)).1 in
      let inside = r.placed.seat_in a l in
      let x = get_or seats i e in
      let ok = r.each i e inside in
      let over : length x.left ≡ x.next = elim (cases_lt x.next (length x.left)) as (λ _. length x.left ≡ x.next) [
        | inl h ↦ let t = total_some seats i e inside h in absurd (omega arith)
        | inr h ↦ let f = ok.next_fits in omega arith
      ] in
      let c = ok.counts k d (r.placed.ring_node_in a e l) in
      let z : times_between k x.left x.next (length x.left) ≡ 0 =
      ap (times_between k x.left x.next) over ∙ times_none k x.left x.next in
      let asked = plan.asks.asked a e d l in
      omega arith

  module _ (at_rest : AreAtRest s n inputs seats places) {q : List ℕ} (accepted : IsAccepted s n q) {k : ℕ → ℕ}
      (counts : AreCountsOf n order k) where
    -- all that was asked is done
    at_end : AreAtRestAfter s n inputs seats places k
    at_end = rest_at r at_rest accepted (λ a e d l. ended a e d l ∙ sym (counts a l))

    module _ (outputs : List (Vec T Global))
        (count : length outputs ≡ list_count Outputs n.nodes)
        (given : AreGiven n seats places (length n.nodes) outputs) where
      sink_given : (a ext block : ℕ) → a < length n.nodes → node n a ≡ kind.Sink ext block →
          get_or (lists outputs) ext [] ≡ arrived s n k at_end.history a
      sink_given a ext block l is =
          let e = a_seat r l in
          let d = a_ring_node r l in
          let z = ring_node_of n seats places e d a in
          let at : IsAt s inputs z.asked (kind.Sink ext block)
          (taken_before (wiring s n) at_end.history a (k a)) z.state =
          subst (λ x. IsAt s inputs z.asked x (taken_before (wiring s n) at_end.history a (k a)) z.state) is
          (at_end.states a e d l) in
          let past = taken_before (wiring s n) at_end.history a (k a) in
          let found = sinks_hold_lists s inputs z.asked ext block past z.state at in
          given a ext block found.0 e d l is found.1
          ∙ (found.2 ∙ sinks_take_all s n at_end.history k a ext block r.is_net is)

      pub outputs_given : AreOutputs s n inputs k (lists outputs)
      outputs_given = record {
        history = at_end.history;
        is = at_end.is;
        count = length-map outputs (λ v. v.items) ∙ count;
        each = sink_given;
      }

      -- and what the seats hold is left
      pub run_given : {rest : NetState T S} → HoldNetState n seats places rest →
          HasRun s n inputs k (lists outputs) rest
      run_given {rest} held = record {
        history = at_end.history;
        is = at_end.is;
        count = length-map outputs (λ v. v.items) ∙ count;
        each = sink_given;
        left = record {
          nodes = held.nodes;
          states = λ a l.
              let e = a_seat r l in
              let d = a_ring_node r l in
              let z = ring_node_of n seats places e d a in
              held.states_held a e d l ∙
              nodes_keep_states s inputs z.asked (node n a) (taken_before (wiring s n) at_end.history a (k a)) z.state
              (at_end.states a e d l);
          channels = held.channels;
          held = λ c l.
              let to = r.is_net.to_in c l in
              let e = a_seat r to.0 in
              let d = a_ring_node r to.0 in
              held.items_held c e d (taker r l e d) l
              ∙ at_end.left c e d (taker r l e d) l;
        };
      }
