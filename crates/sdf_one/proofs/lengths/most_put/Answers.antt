use Rattle.std.proofs.Common.{◌≡◌, ◌*◌, ◌≤◌, ℕ, length, get_or, inl, inr, sym, ap, ◌∙◌, arith, below_more, subst}
use Rattle.std.proofs.Common.{⊎_elim}
use Rattle.std.proofs.lemmas.Bool.{cases_lt}
use Rattle.std.proofs.lemmas.List.{length-map}
use Rattle.sdf_graph.specs.Rates.{GraphValue, rates, rate_at, sum_to}
use Rattle.sdf_actor.specs.Graphs.{channel_of, graph_of}
use Rattle.sdf_one.specs.Lengths.{IsMostPut}
use Rattle.sdf_one.proofs.Readings.{the_channel}
use Rattle.sdf_one.proofs.lengths.most_put.Goals as goal

pub loop-channel-init : goal.loop-channel-init
loop-channel-init g c = record { above = λ k h. omega (arith, h); reached = inl (omega arith) }

pub loop-channel-preserved : goal.loop-channel-preserved
loop-channel-preserved g c =
    let i : ℕ = c.loop-channel.channel-index in
    let n = c.args.net.now in
    let x = graph_of g.A.Actor.steps n in
    let r = rates x in
    let q = c.args.repetitions.now in
    let was = c.loop-channel.invariant in
    let max = c.max-most.ensures in
    let list = c.channels-channel-items.ensures.list
    ∙ ap (λ (y : GraphValue). y.channels) c.graph-graph.ensures.value in
    let edge = the_channel c.channels-channel-items.result.now x c.channel-item.result i c.channel-item.is
    c.loop-channel-test.true list in
    let times : c.put_in.result ≡ 1 * r.produced i (get_or q (r.source i) 0) = c.put_in.ensures.value
    ∙ (λ κ. 1 * sum_to (rate_at (edge κ).put) (get_or q ((c.channel.view_is ∙ edge) κ).from 0)) in
    let put : r.produced i (get_or q (r.source i) 0) ≡ c.put_in.result = omega (arith, times) in
    record {
      above = below_more (λ k. r.produced k (get_or q (r.source k) 0) ≤ c.max-most.result) i
          (λ k h. omega (arith, was.above k h, max))
          (omega (arith, put, max));
      reached = ⊎_elim
          (λ l. inr (i, omega arith, omega (arith, put, l, max)))
          (λ l. ⊎_elim (λ none. inl (omega (arith, none, l, max)))
          (λ some. inr (some.0, omega (arith, some.1), omega (arith, some.2, l, max))) was.reached)
          (cases_lt c.loop-channel.most c.put_in.result);
    }

pub returns : goal.returns
returns g c =
    let n = c.args.net.now in
    let list = c.channels-channel-items.ensures.list
    ∙ ap (λ (y : GraphValue). y.channels) c.graph-graph.ensures.value in
    let all : c.loop-channel.channel-index ≡ length n.wires = omega (
      arith,
      c.loop-channel-test.false,
      ap length list,
      length-map n.wires (channel_of g.A.Actor.steps n.nodes),
    ) in
    subst (λ m. IsMostPut (rates (graph_of g.A.Actor.steps n)) c.args.repetitions.now m c.loop-channel.most) all
    c.loop-channel.invariant

pub put_in-requires-clause-small : goal.put_in-requires-clause-small
put_in-requires-clause-small g c = λ k.
    let i : ℕ = c.loop-channel.channel-index in
    let l = c.loop-channel-test.true in
    let list = c.channels-channel-items.ensures.list in
    let edge = the_channel c.channels-channel-items.result.now c.graph-graph.result.now c.channel-item.result i
    c.channel-item.is l list in
    let cycle = c.channels-channel-items.ensures.shape.put i (omega (arith, l, ap length list)) in
    subst (λ e. get_or e.put k 0 ≤ 1024) (sym edge) (cycle.small k)
