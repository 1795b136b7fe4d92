use Rattle.std.proofs.Common.{arith}
use Rattle.sdf_rings.proofs.Seating.{seating_begin, seating_there, seating_skip, seating_take, seating_end}
use Rattle.sdf_rings.proofs.setup.seats.ring_nodes.Goals.{then-places-a+in_ok-begin_node+in_ok-push, else-places-a}
use Rattle.sdf_rings.proofs.setup.seats.ring_nodes.Goals as goal

pub loop-a-init : goal.loop-a-init
loop-a-init g c = rw c.new-ring_nodes.ensures.items seating_begin

pub begin_node-requires-clause-ends : goal.begin_node-requires-clause-ends
begin_node-requires-clause-ends g c = λ κs within.
    let here = c.if-places-a.true in
    seating_there c.loop-a.invariant here (c.requires.ends c.loop-a.a (omega arith) here)

pub returns : goal.returns
returns g c = record {
  begun = seating_end c.loop-a.invariant
      (omega (arith, c.loop-a-test.false, c.loop-a.auto.a-end, c.requires.all));
  producers = λ k h. c.loop-a.invariant.producers k (λ e. absurd (h e));
  consumers = λ k h. c.loop-a.invariant.consumers k (λ e. absurd (h e));
}

pub loop-a-preserved : goal.loop-a-preserved
loop-a-preserved g c =
    elim c.if-places-a.branch [
      | then-places-a+in_ok-begin_node+in_ok-push w ↦
          rw (w.ring_nodes-is, w.ends-is)
          (seating_take c.loop-a.invariant c.loop-a-test.true w.if-places-a.true c.requires.next
          w.in_ok-begin_node.ensures.begun w.in_ok-push.ensures.items w.begin_node.new.ends.producers.items
          w.begin_node.new.ends.consumers.items w.in_ok-begin_node.ensures.producers
          w.in_ok-begin_node.ensures.consumers)
      | else-places-a w ↦
          rw (w.ring_nodes-is, w.ends-is) (seating_skip c.loop-a.invariant c.loop-a-test.true w.if-places-a.false)
    ]
