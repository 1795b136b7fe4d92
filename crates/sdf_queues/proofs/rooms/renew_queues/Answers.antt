use Rattle.std.proofs.Common.{◌≡◌, ◌+◌, ◌*◌, ◌<◌, ◌≤◌, ℕ, List, length, get_or, sym, ap, ◌∙◌, subst, arith, below_more}
use Rattle.std.proofs.lemmas.List.{get_or_append_left, get_or_push, get_or_default}
use Rattle.sdf_graph.specs.Rates.{ChannelValue, GraphValue, rates, rate_at, sum_to, channel, no_channel}
use Rattle.sdf_actor.specs.Graphs.{graph_of}
use Rattle.sdf_actor.specs.Nets.{wire}
use Rattle.sdf_queues.specs.Blocks.{nothing}
use Rattle.sdf_queues.proofs.Readings.{vec_long}
use Rattle.sdf_queues.proofs.rooms.renew_queues.Goals as goal

the_channel : (items : List ChannelValue) (x : GraphValue) (e : ChannelValue) (i : ℕ) → e ≡ get_or items i e →
    i < length items →
    items ≡ x.channels → e ≡ channel x i
the_channel items x e i is l list = is
    ∙ (get_or_default items i e no_channel l ∙ ap (λ cs. get_or cs i no_channel) list)

pub put_in-requires-clause-some : goal.put_in-requires-clause-some
put_in-requires-clause-some g c =
    let l = c.loop-c-test.true in
    let list = c.channels-channel-items.ensures.list in
    let edge = the_channel c.channels-channel-items.result.now c.graph-graph.result.now c.channel-item.result c.loop-c.c
    c.channel-item.is l list in
    let cycle = c.channels-channel-items.ensures.shape.put c.loop-c.c (omega (arith, l, ap length list)) in
    omega (arith, cycle.all, cycle.some, ap (λ e. length e.put) edge)

pub put_in-requires-clause-small : goal.put_in-requires-clause-small
put_in-requires-clause-small g c = λ i.
    let l = c.loop-c-test.true in
    let list = c.channels-channel-items.ensures.list in
    let edge = the_channel c.channels-channel-items.result.now c.graph-graph.result.now c.channel-item.result c.loop-c.c
    c.channel-item.is l list in
    let cycle = c.channels-channel-items.ensures.shape.put c.loop-c.c (omega (arith, l, ap length list)) in
    subst (λ e. get_or e.put i 0 ≤ 1024) (sym edge) (cycle.small i)

pub offset_bounds-repetitions-channel-inside : goal.offset_bounds-repetitions-channel-inside
offset_bounds-repetitions-channel-inside g c =
    let l = c.loop-c-test.true in
    let list = c.channels-channel-items.ensures.list in
    let edge = the_channel c.channels-channel-items.result.now c.graph-graph.result.now c.channel-item.result c.loop-c.c
    c.channel-item.is l list in
    let shape = c.channels-channel-items.ensures.shape in
    let from = shape.from_in c.loop-c.c (omega (arith, l, ap length list)) in
    omega (arith, from, shape.few, ap (λ e. e.from) (c.channel.view_is ∙ edge))

pub overflow_add-room : goal.overflow_add-room
overflow_add-room g c =
    let l = c.loop-c-test.true in
    let list = c.channels-channel-items.ensures.list in
    let edge = the_channel c.channels-channel-items.result.now c.graph-graph.result.now c.channel-item.result c.loop-c.c
    c.channel-item.is l list in
    let few : (channel c.graph-graph.result.now c.loop-c.c).initial ≤ 65536 =
    c.channels-channel-items.ensures.shape.initial_small c.loop-c.c (omega (arith, l, ap length list)) in
    omega (arith, few, ap (λ e. e.initial) (c.channel.view_is ∙ edge), c.put_in.ensures.few)

pub loop-c-preserved : goal.loop-c-preserved
loop-c-preserved g c =
    let i : ℕ = c.loop-c.c in
    let l = c.loop-c-test.true in
    let n = c.args.net.now in
    let r = rates (graph_of g.A.Actor.steps n) in
    let q = c.args.repetitions.now in
    let was = c.loop-c.queues.items in
    let new = c.in_ok-renew_queue.field-0 in
    let list = c.channels-channel-items.ensures.list in
    let edge = the_channel c.channels-channel-items.result.now (graph_of g.A.Actor.steps n) c.channel-item.result i
    c.channel-item.is l (list ∙ ap (λ x. x.channels) c.graph-graph.ensures.value) in
    let known : i < length c.graph-graph.result.now.channels = omega (arith, l, ap length list) in
    let samples = c.deref.ensures.value ∙ ap (λ w. w.initial) c.link.ensures.value in
    let begins : c.channel.inside.initial ≡ length (wire n i).initial = ap (λ e. e.initial) (c.channel.view_is ∙ edge)
    ∙ (ap (λ x. (channel x i).initial) (sym c.graph-graph.ensures.value)
    ∙ c.graph-graph.ensures.rates.initial i known) in
    let put : c.put_in.result ≡ c.args.periods * r.produced i (get_or q (r.source i) 0) = c.put_in.ensures.value
    ∙ (λ κ. c.args.periods * sum_to (rate_at (edge κ).put) (get_or q ((c.channel.view_is ∙ edge) κ).from 0)) in
    let long = vec_long c.loop-c.queues ∙ c.loop-c.invariant.len in
    record {
      len = omega (arith, c.in_ok-push.ensures.len, c.loop-c.invariant.len);
      each = below_more (λ k. get_or c.push.new.self.items k nothing ≡ record {
        samples = (wire n k).initial;
        room = length (wire n k).initial + c.args.periods * r.produced k (get_or q (r.source k) 0);
      }) i
          (λ k h. ap (λ qs. get_or qs k nothing) c.in_ok-push.ensures.items
          ∙ (get_or_append_left was _ nothing k (omega (arith, long, h)) ∙ c.loop-c.invariant.each k h))
          (ap (λ qs. get_or qs i nothing) c.in_ok-push.ensures.items ∙ (get_or_push was new nothing i long
          ∙ (c.in_ok-renew_queue.ensures ∙ (λ κ. record { samples = samples κ; room = begins κ + put κ }))));
    }
