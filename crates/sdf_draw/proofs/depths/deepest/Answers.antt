use Rattle.std.proofs.Common.{◌≡◌, ℕ, ◌+◌, ◌≤◌, ◌<◌, List, length, get_or, max, sym, ap, ◌∙◌, subst, arith}
use Rattle.std.proofs.lemmas.List.{get_or_read}
use Rattle.sdf_graph.specs.Rates.{ChannelValue, rates, channel, no_channel}
use Rattle.sdf_times.specs.Times.{IsGreatest}
use Rattle.sdf_draw.specs.Feeds.{IsInDepth}
use Rattle.sdf_draw.proofs.Greatest.{greatest_place, greatest_same, greatest_least}
use Rattle.sdf_draw.proofs.Deep.{at_zero}
use Rattle.sdf_draw.proofs.depths.deepest.Goals as goal

pub loop-number-preserved : goal.loop-number-preserved
loop-number-preserved c =
    let g = c.args.graph.now in
    let i : ℕ = c.loop-number.number-index in
    let ins : List ℕ = c.incoming-number-items.result.now in
    let d : ℕ = get_or ins i 0 in
    let here = c.incoming-number-items.ensures.channels.each i (omega (arith, c.loop-number-test.true)) in
    let chans : length c.channels-channels.result.now ≡ length g.channels =
    ap length c.channels-channels.ensures.list in
    let read : c.index-channels-number.result ≡ channel g d =
    get_or_read c.channels-channels.result.now d c.index-channels-number.result (omega (arith, chans, here.0))
    c.index-channels-number.is no_channel ∙
    ap (λ cs. get_or cs d no_channel) c.channels-channels.ensures.list in
    let from : c.channel.inside.from ≡ (channel g d).from =
    ap (λ (e : ChannelValue). e.from) (c.channel.view_is ∙ read) in
    let f : ℕ → ℕ = λ j. get_or c.args.depths.now (channel g (get_or ins j 0)).from 0 in
    let same : c.max-most.result ≡ max c.loop-number.most (f i) =
    c.max-most.ensures ∙ ap (λ a. max c.loop-number.most (get_or c.args.depths.now a 0)) from in
    subst (IsGreatest (λ u. (j : ℕ) × (j < i + 1) × (f j ≡ u))) (sym same)
    (greatest_place f i c.loop-number.most c.loop-number.invariant)

pub returns : goal.returns
returns c = record {
  is = all;
  small = λ k low. greatest_least (IsInDepth (rates c.args.graph.now) c.args.depths.now c.args.actor)
      c.loop-number.most k all
      (λ u p. subst (λ v. v ≤ k) p.3 (low ((channel c.args.graph.now p.0).from)));
}
  where
    end : c.loop-number.number-index ≡ length c.incoming-number-items.result.now
    end = omega (arith, c.loop-number-test.false, c.loop-number.auto.number-index-end)

    all : IsGreatest (IsInDepth (rates c.args.graph.now) c.args.depths.now c.args.actor) c.loop-number.most
    all = greatest_same
        (λ u. (j : ℕ) × (j < c.loop-number.number-index)
        × (get_or c.args.depths.now (channel c.args.graph.now
        (get_or c.incoming-number-items.result.now j 0)).from 0 ≡ u))
        (IsInDepth (rates c.args.graph.now) c.args.depths.now c.args.actor) c.loop-number.most
        (λ u _ p. let at = c.incoming-number-items.ensures.channels.each p.0 (omega (arith, p.1, end)) in
        (get_or c.incoming-number-items.result.now p.0 0, at.0, at.1, p.2))
        (λ u _ q. let w = at_zero c.incoming-number-items.result.now q.0
        (c.incoming-number-items.ensures.channels.all q.0 q.1 q.2) in (
          w.0,
          omega (arith, w.1, end),
          ap (λ n. get_or c.args.depths.now (channel c.args.graph.now n).from 0) w.2 ∙ q.3,
        ))
        c.loop-number.invariant
