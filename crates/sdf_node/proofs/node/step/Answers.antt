use Rattle.std.proofs.Common.{◌+◌, [], length, get_or, ap, ◌∙◌}
use Rattle.std.specs.List.{between}
use Rattle.sdf_actor.specs.Wires.{lists}
use Rattle.sdf_node.proofs.Nodes.{source_next, source_puts, sink_next, inner_next, inner_puts}
use Rattle.sdf_node.proofs.node.step.Goals as goal

pub returns-in-Source-state-clause-state : goal.returns-in-Source-state-clause-state
returns-in-Source-state-clause-state g c = λ many past.
    source_next g.A.Actor.steps (lists c.args.inputs.now) c.args.node.now c.args.state.now c.in-Source.ext
    c.in-Source.block c.in-Source-state.next (length c.args.taken.now) (length c.args.put.now)
    c.read_input.result many past c.args.taken.now c.in-Source.is c.in-Source-state.is c.requires
    c.read_input.ensures.next

pub returns-in-Source-state-clause-put : goal.returns-in-Source-state-clause-put
returns-in-Source-state-clause-put g c = λ many past at.
    c.read_input.ensures.put ∙ (ap (λ e. between c.in-Source-state.next (c.in-Source-state.next + length c.args.put.now)
    (get_or (lists c.args.inputs.now) e [])) c.from.ensures ∙
    source_puts g.A.Actor.steps (lists c.args.inputs.now) c.args.node.now c.args.state.now c.in-Source.ext
    c.in-Source.block c.in-Source-state.next (length c.args.taken.now) (length c.args.put.now)
    many past c.args.taken.now c.in-Source.is c.in-Source-state.is c.requires at)

pub returns-in-Sink-state-clause-state : goal.returns-in-Sink-state-clause-state
returns-in-Sink-state-clause-state g c = λ many past.
    sink_next g.A.Actor.steps (lists c.args.inputs.now) c.args.node.now c.args.state.now c.in-Sink.ext c.in-Sink.block
    c.in-Sink-state.list c.append.new.list (length c.args.put.now)
    many past c.args.taken.now c.in-Sink.is c.in-Sink-state.is c.requires c.append.ensures.items
    c.append.ensures.capacity

pub returns-in-Inner-state-clause-state : goal.returns-in-Inner-state-clause-state
returns-in-Inner-state-clause-state g c = λ many past.
    inner_next g.A.Actor.steps (lists c.args.inputs.now) c.args.node.now c.args.state.now c.in-Inner.actor
    c.in-Inner-state.phase c.next_phase.result many c.in-Inner-state.inner c.fire.new.state
    past c.args.taken.now c.in-Inner.is c.in-Inner-state.is (rw c.cycle.ensures at c.next_phase.ensures)
    c.fire.ensures.state

pub returns-in-Inner-state-clause-put : goal.returns-in-Inner-state-clause-put
returns-in-Inner-state-clause-put g c = λ many past at.
    c.fire.ensures.put ∙
    inner_puts g.A.Actor.steps (lists c.args.inputs.now) c.args.node.now c.args.state.now c.in-Inner.actor
    c.in-Inner-state.phase many c.in-Inner-state.inner
    past c.args.taken.now c.in-Inner.is c.in-Inner-state.is at
