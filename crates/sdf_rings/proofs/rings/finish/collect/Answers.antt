use Rattle.std.proofs.Common.{◌<◌, length, sym, arith, ◌∙◌, subst}
use Rattle.sdf_node.specs.Collected.{IsCollected}
use Rattle.sdf_queues.proofs.Theorems.{nets_have_facts}
use Rattle.sdf_rings.specs.Rests.{ring_node_of}
use Rattle.sdf_rings.proofs.Collects.{ring_nodes_more, rest_more, given_more}
use Rattle.sdf_rings.proofs.rings.finish.collect.Goals as goal

pub loop-a-preserved : goal.loop-a-preserved
loop-a-preserved g c =
    let n = c.args.net.now in
    let a = c.loop-a.a in
    let known : a < length n.nodes = omega arith in
    let was = c.loop-a.invariant in
    let sinks = (nets_have_facts g.A.Actor.steps n c.node.ensures.accepted).sinks in
    let outputs = c.collect_from.new.outputs in
    record {
      all = c.collect_from.auto.outputs ∙ was.all;
      ring_nodes = ring_nodes_more sinks c.requires.placed known was.ring_nodes was.rest c.collect_from.ensures.seats;
      rest = rest_more sinks c.requires.placed known was.ring_nodes was.rest c.collect_from.ensures.seats;
      given = given_more sinks c.requires.placed known was.ring_nodes was.rest c.collect_from.ensures.seats
          (λ e d. subst (λ x. IsCollected x (ring_node_of n c.loop-a.seats c.args.places.now e d a).state
          c.loop-a.outputs
          outputs) c.node.ensures.value (c.collect_from.ensures.list e d)) was.given;
    }

pub returns-clause-each : goal.returns-clause-each
returns-clause-each g c = λ a ext block made e d l is at. c.loop-a.invariant.given a ext block made e d
    (omega arith) is at

pub collect_from-requires-clause-list : goal.collect_from-requires-clause-list
collect_from-requires-clause-list g c κs within = λ ext block x.
    let sinks = (nets_have_facts g.A.Actor.steps c.args.net.now c.node.ensures.accepted).sinks in
    omega (
      arith,
      sinks.below c.loop-a.a ext block (omega arith) (sym c.node.ensures.value ∙ x),
      c.loop-a.invariant.all,
      c.requires.outputs,
    )
