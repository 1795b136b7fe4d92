use Rattle.std.proofs.Common.{◌+◌, [], length, get_or, ap, ◌∙◌}
use Rattle.std.specs.List.{between}
use Rattle.sdf_actor.specs.Wires.{lists}
use Rattle.sdf_node.proofs.ManyFirings.{inner_taken, inner_put, source_on, source_part, sink_on, sink_part, inner_on}
use Rattle.sdf_node.proofs.ManyFirings.{inner_part}
use Rattle.sdf_node.proofs.many.step_many.Goals as goal

pub fire_many-requires-clause-taken : goal.fire_many-requires-clause-taken
fire_many-requires-clause-taken g c =
    inner_taken g.A.Actor.steps (lists c.args.inputs.now) c.args.node.now c.args.state.now c.args.many c.args.taken.now
    (length c.args.put.now) c.requires
    c.in-Inner.actor c.in-Inner-state.phase c.in-Inner-state.inner c.in-Inner.is c.in-Inner-state.is

pub fire_many-requires-clause-put : goal.fire_many-requires-clause-put
fire_many-requires-clause-put g c =
    inner_put g.A.Actor.steps (lists c.args.inputs.now) c.args.node.now c.args.state.now c.args.many c.args.taken.now
    (length c.args.put.now) c.requires
    c.in-Inner.actor c.in-Inner-state.phase c.in-Inner-state.inner c.in-Inner.is c.in-Inner-state.is

pub returns-in-Source-state-clause-state : goal.returns-in-Source-state-clause-state
returns-in-Source-state-clause-state g c = λ all past at.
    source_on g.A.Actor.steps (lists c.args.inputs.now) c.args.node.now c.args.state.now c.args.many all past
    c.args.taken.now (length c.args.put.now) c.requires at
    c.in-Source.ext c.in-Source.block c.in-Source-state.next c.in-Source.is c.in-Source-state.is c.read_input.result
    c.read_input.ensures.next

pub returns-in-Source-state-clause-put : goal.returns-in-Source-state-clause-put
returns-in-Source-state-clause-put g c = λ all past at whole.
    source_part g.A.Actor.steps (lists c.args.inputs.now) c.args.node.now c.args.state.now c.args.many all past
    c.args.taken.now (length c.args.put.now) c.requires at
    c.in-Source.ext c.in-Source.block c.in-Source-state.next c.in-Source.is c.in-Source-state.is c.read_input.new.put
    (c.read_input.ensures.put ∙ ap (λ e. between c.in-Source-state.next (c.in-Source-state.next + length c.args.put.now)
    (get_or (lists c.args.inputs.now) e [])) c.from.ensures)

pub returns-in-Sink-state-clause-state : goal.returns-in-Sink-state-clause-state
returns-in-Sink-state-clause-state g c = λ all past at.
    sink_on g.A.Actor.steps (lists c.args.inputs.now) c.args.node.now c.args.state.now c.args.many all past
    c.args.taken.now (length c.args.put.now) c.requires at
    c.in-Sink.ext c.in-Sink.block c.in-Sink-state.list c.in-Sink.is c.in-Sink-state.is c.append.new.list
    c.append.ensures.items c.append.ensures.capacity

pub returns-in-Sink-state-clause-put : goal.returns-in-Sink-state-clause-put
returns-in-Sink-state-clause-put g c = λ all past at whole i l.
    sink_part g.A.Actor.steps (lists c.args.inputs.now) c.args.node.now c.args.state.now c.args.many all past
    c.args.taken.now (length c.args.put.now) c.requires at
    c.in-Sink.ext c.in-Sink.block c.in-Sink-state.list c.in-Sink.is c.in-Sink-state.is c.args.put.now i

pub returns-in-Inner-state-clause-state : goal.returns-in-Inner-state-clause-state
returns-in-Inner-state-clause-state g c = λ all past at.
    inner_on g.A.Actor.steps (lists c.args.inputs.now) c.args.node.now c.args.state.now c.args.many all past
    c.args.taken.now (length c.args.put.now) c.requires at
    c.in-Inner.actor c.in-Inner-state.phase c.in-Inner-state.inner c.in-Inner.is c.in-Inner-state.is
    c.fire_many.new.state c.fire_many.ensures.state

pub returns-in-Inner-state-clause-put : goal.returns-in-Inner-state-clause-put
returns-in-Inner-state-clause-put g c = λ all past at whole.
    inner_part g.A.Actor.steps (lists c.args.inputs.now) c.args.node.now c.args.state.now c.args.many all past
    c.args.taken.now (length c.args.put.now) c.requires at
    c.in-Inner.actor c.in-Inner-state.phase c.in-Inner-state.inner c.in-Inner.is c.in-Inner-state.is
    ((g.met.A.Actor g.world.𝓛 g.world.𝓜 g.world.𝓡 ((λ s x. x), (λ x. x), (λ x. x), (λ x. x))).puts_fit c.in-Inner.actor)
    whole c.fire_many.new.put c.fire_many.ensures.put
