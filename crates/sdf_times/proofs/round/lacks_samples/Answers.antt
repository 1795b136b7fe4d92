use Rattle.std.proofs.Common.{◌≡◌, ◌+◌, ◌*◌, ◌<◌, length, get_or, ap, ◌∙◌, arith}
use Rattle.sdf_graph.specs.Rates.{ChannelValue, channel, sum_to, rate_at}
use Rattle.sdf_prec.specs.Blocks.{block}
use Rattle.sdf_times.proofs.HeldSums.{samples_exactly, few_at}
use Rattle.sdf_times.proofs.round.lacks_samples.Goals as goal

pub samples_to-requires-clause-many : goal.samples_to-requires-clause-many
samples_to-requires-clause-many c =
    let known : c.args.number < length c.args.graph.now.channels =
    omega (arith, c.if-number-channels.false, ap length c.channels.ensures.list) in
    few_at c.args.graph.now c.channels.ensures.shape c.args.reps.now c.args.j c.requires.run.0 c.args.table.now
    c.args.costs.now c.requires.run.1 c.args.number known c.channel.inside.to c.firings_of-many.result
    c.firings_of-many.ensures

pub returns : goal.returns
returns c =
    let known : c.args.number < length c.args.graph.now.channels =
    omega (arith, c.if-number-channels.false, ap length c.channels.ensures.list) in
    let to_same : c.channel.inside.to ≡ (channel c.args.graph.now c.args.number).to =
    ap (λ (e : ChannelValue). e.to) (c.channel.view_is ∙ c.channel_at-channel.ensures.is) in
    let from_same : c.channel.inside.from ≡ (channel c.args.graph.now c.args.number).from =
    ap (λ (e : ChannelValue). e.from) (c.channel.view_is ∙ c.channel_at-channel.ensures.is) in
    let initial_same : c.channel.inside.initial ≡ (channel c.args.graph.now c.args.number).initial =
    ap (λ (e : ChannelValue). e.initial) (c.channel.view_is ∙ c.channel_at-channel.ensures.is) in
    let put_same : c.deref.result.now ≡ (channel c.args.graph.now c.args.number).put =
    c.deref.ensures.value ∙ ap (λ (e : ChannelValue). e.put) (c.channel.view_is ∙ c.channel_at-channel.ensures.is) in
    let take_same : c.deref-2.result.now ≡ (channel c.args.graph.now c.args.number).take =
    c.deref-2.ensures.value ∙ ap (λ (e : ChannelValue). e.take) (c.channel.view_is ∙ c.channel_at-channel.ensures.is) in
    let into : (channel c.args.graph.now c.args.number).to ≡ c.args.firing.actor = omega arith in
    let from : (channel c.args.graph.now c.args.number).from ≡ c.args.before.actor = omega arith in
    let put_is : sum_to (rate_at c.deref.result.now) c.from.result ≡
    sum_to (rate_at (channel c.args.graph.now c.args.number).put) c.args.before.number =
    λ i. sum_to (rate_at (put_same i)) (c.from.ensures i) in
    let many_is : c.firings_of-many.result ≡
    get_or (block c.args.j c.args.reps.now) (channel c.args.graph.now c.args.number).to 0 =
    c.firings_of-many.ensures ∙ ap (λ a. get_or (block c.args.j c.args.reps.now) a 0) to_same in
    let later_is : c.args.blocks * sum_to (rate_at c.deref-2.result.now) c.firings_of-many.result
    + sum_to (rate_at c.deref-2.result.now) (c.args.firing.number + 1) ≡
    c.args.blocks * sum_to (rate_at (channel c.args.graph.now c.args.number).take)
    (get_or (block c.args.j c.args.reps.now) (channel c.args.graph.now c.args.number).to 0)
    + sum_to (rate_at (channel c.args.graph.now c.args.number).take) (c.args.firing.number + 1) =
    λ i. c.args.blocks * sum_to (rate_at (take_same i)) (many_is i)
    + sum_to (rate_at (take_same i)) (c.args.firing.number + 1) in
    samples_exactly c.args.graph.now c.channels.ensures.shape c.args.reps.now c.args.j c.requires.run.0
    c.args.table.now c.args.costs.now c.requires.run.1 c.args.number known c.args.before c.args.firing c.args.blocks
    (c.channel.inside.initial + c.from-2.result) c.samples_to.result into from
    (omega (arith, initial_same, c.from-2.ensures, c.moved_by.ensures.value, put_is))
    (c.samples_to.ensures.is ∙ later_is)
