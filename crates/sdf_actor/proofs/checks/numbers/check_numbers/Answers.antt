use Rattle.std.proofs.Common.{◌<◌, length, sym, ap, ◌∙◌, subst, arith, below_more}
use Rattle.sdf_actor.specs.Nets.{inputs_of, outputs_of}
use Rattle.sdf_actor.specs.Graphs.{channel_of}
use Rattle.sdf_actor.specs.Wires.{wire_of, netlist}
use Rattle.sdf_actor.specs.NetFaults.{HasLinks}
use Rattle.sdf_actor.proofs.Readings.{node_read, wire_read, length-wires}
use Rattle.sdf_actor.proofs.Numbers.{own_fault, own_read, link_ends, no_number_fault, first_number_fault}
use Rattle.sdf_actor.proofs.checks.numbers.check_numbers.Goals as goal

pub offset_bounds-nodes-link : goal.offset_bounds-nodes-link
offset_bounds-nodes-link g c =
    omega (
      arith,
      (link_ends g.A.Actor.steps c.args.nodes.now c.args.links.now (length c.args.links.now) c.loop-c.c
          c.index-links-c.result c.requires.links c.loop-c-test.true c.loop-c-test.true c.index-links-c.is).from.0,
    )

pub bounds-nodes-link : goal.bounds-nodes-link
bounds-nodes-link g c =
    (link_ends g.A.Actor.steps c.args.nodes.now c.args.links.now (length c.args.links.now) c.loop-c.c
    c.index-links-c.result c.requires.links c.loop-c-test.true c.loop-c-test.true c.index-links-c.is).from.0

pub offset_bounds-nodes-link-in-loop-c : goal.offset_bounds-nodes-link-in-loop-c
offset_bounds-nodes-link-in-loop-c g c =
    omega (
      arith,
      (link_ends g.A.Actor.steps c.args.nodes.now c.args.links.now (length c.args.links.now) c.loop-c.c
          c.index-links-c.result c.requires.links c.loop-c-test.true c.loop-c-test.true c.index-links-c.is).to.0,
    )

pub bounds-nodes-link-in-loop-c : goal.bounds-nodes-link-in-loop-c
bounds-nodes-link-in-loop-c g c =
    (link_ends g.A.Actor.steps c.args.nodes.now c.args.links.now (length c.args.links.now) c.loop-c.c
    c.index-links-c.result c.requires.links c.loop-c-test.true c.loop-c-test.true c.index-links-c.is).to.0

pub channel_fault-requires-clause-from : goal.channel_fault-requires-clause-from
channel_fault-requires-clause-from g c κs within =
    let ends = link_ends g.A.Actor.steps c.args.nodes.now c.args.links.now (length c.args.links.now) c.loop-c.c
    c.index-links-c.result c.requires.links c.loop-c-test.true c.loop-c-test.true c.index-links-c.is in
    subst (λ x. c.index-links-c.result.from.1 < outputs_of g.A.Actor.steps x)
    (node_read c.args.nodes.now c.index-links-c.result.from.0 c.index-nodes-link.result ends.from.0
    c.index-nodes-link.is) ends.from.1

pub channel_fault-requires-clause-to : goal.channel_fault-requires-clause-to
channel_fault-requires-clause-to g c κs within =
    let ends = link_ends g.A.Actor.steps c.args.nodes.now c.args.links.now (length c.args.links.now) c.loop-c.c
    c.index-links-c.result c.requires.links c.loop-c-test.true c.loop-c-test.true c.index-links-c.is in
    subst (λ x. c.index-links-c.result.to.1 < inputs_of g.A.Actor.steps x)
    (node_read c.args.nodes.now c.index-links-c.result.to.0 c.index-nodes-link-in-loop-c.result ends.to.0
    c.index-nodes-link-in-loop-c.is) ends.to.1

pub returns-in-Some : goal.returns-in-Some
returns-in-Some g c =
    let n = netlist c.args.nodes.now c.args.links.now in
    let many = length-wires c.args.links.now in
    let ends = link_ends g.A.Actor.steps c.args.nodes.now c.args.links.now (length c.args.links.now) c.loop-c.c
    c.index-links-c.result c.requires.links c.loop-c-test.true c.loop-c-test.true c.index-links-c.is in
    first_number_fault g.A.Actor.steps n c.requires.counts
    (subst (HasLinks g.A.Actor.steps n) (sym many) c.requires.links) c.loop-c.c c.in-Some.fault (omega arith)
    c.loop-c.invariant
    (ap (λ w. own_fault c.loop-c.c (channel_of g.A.Actor.steps c.args.nodes.now w))
    (wire_read c.args.links.now c.loop-c.c c.index-links-c.result c.loop-c-test.true c.index-links-c.is) ∙
    (own_read g.A.Actor.steps c.args.nodes.now c.loop-c.c (wire_of c.index-links-c.result) c.index-nodes-link.result
    c.index-nodes-link-in-loop-c.result
    (node_read c.args.nodes.now c.index-links-c.result.from.0 c.index-nodes-link.result ends.from.0
    c.index-nodes-link.is)
    (node_read c.args.nodes.now c.index-links-c.result.to.0 c.index-nodes-link-in-loop-c.result ends.to.0
    c.index-nodes-link-in-loop-c.is) ∙
    (sym c.channel_fault.ensures ∙ c.in-Some.is)))

pub loop-c-preserved : goal.loop-c-preserved
loop-c-preserved g c =
    let ends = link_ends g.A.Actor.steps c.args.nodes.now c.args.links.now (length c.args.links.now) c.loop-c.c
    c.index-links-c.result c.requires.links c.loop-c-test.true c.loop-c-test.true c.index-links-c.is in
    below_more _ _ c.loop-c.invariant
    (ap (λ w. own_fault c.loop-c.c (channel_of g.A.Actor.steps c.args.nodes.now w))
    (wire_read c.args.links.now c.loop-c.c c.index-links-c.result c.loop-c-test.true c.index-links-c.is) ∙
    (own_read g.A.Actor.steps c.args.nodes.now c.loop-c.c (wire_of c.index-links-c.result) c.index-nodes-link.result
    c.index-nodes-link-in-loop-c.result
    (node_read c.args.nodes.now c.index-links-c.result.from.0 c.index-nodes-link.result ends.from.0
    c.index-nodes-link.is)
    (node_read c.args.nodes.now c.index-links-c.result.to.0 c.index-nodes-link-in-loop-c.result ends.to.0
    c.index-nodes-link-in-loop-c.is) ∙
    (sym c.channel_fault.ensures ∙ c.in_default.is)))

pub returns : goal.returns
returns g c =
    let n = netlist c.args.nodes.now c.args.links.now in
    let many = length-wires c.args.links.now in
    no_number_fault g.A.Actor.steps n c.requires.counts (subst (HasLinks g.A.Actor.steps n) (sym many) c.requires.links)
    (λ k l. c.loop-c.invariant k (omega arith))
