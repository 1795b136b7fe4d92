use Rattle.std.proofs.Common.{◌≡◌, ◌≤◌, length, arith}
use Rattle.sdf_graph.specs.Rates.{channel}
use Rattle.sdf_graph.specs.Adjacency.{actor_at}
use Rattle.sdf_graph.specs.Moved.{moves}
use Rattle.sdf_sched.proofs.Flows.{flow_of, few_own, flow_at}
use Rattle.sdf_sched.proofs.lean.moved_by.Goals as goal

pub overflow_add-moved : goal.overflow_add-moved
overflow_add-moved c =
    let few : length c.channels_at-channel-items.result.now ≤ length c.args.graph.now.channels =
    few_own (λ x. actor_at c.args.end (channel c.args.graph.now x) ≡ c.args.actor)
    _ _ c.channels_at-channel-items.ensures in
    omega (arith, c.loop-channel.invariant.small, c.channels-channels.ensures.shape.narrow)

pub returns-clause-sum : goal.returns-clause-sum
returns-clause-sum c = λ k is.
    flow_at c.args.end c.args.graph.now k c.args.actor c.loop-channel.moved
    (flow_of (λ x. actor_at c.args.end (channel c.args.graph.now x))
    (λ x. moves c.args.end (channel c.args.graph.now x)) c.args.actor (k c.args.actor)
    (length c.args.graph.now.channels)
    c.channels_at-channel-items.result.now c.channels_at-channel-items.ensures c.args.i is c.loop-channel.channel-index
    (omega arith) c.loop-channel.moved c.loop-channel.invariant.moved)

pub returns-clause-small : goal.returns-clause-small
returns-clause-small c =
    let few : length c.channels_at-channel-items.result.now ≤ length c.args.graph.now.channels =
    few_own (λ x. actor_at c.args.end (channel c.args.graph.now x) ≡ c.args.actor)
    _ _ c.channels_at-channel-items.ensures in
    omega (arith, c.loop-channel.invariant.small, c.channels-channels.ensures.shape.narrow)
