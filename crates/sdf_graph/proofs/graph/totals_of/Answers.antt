use Rattle.std.proofs.Common.{◌≡◌, ◌∷◌, [], ◌++◌, ℕ, ◌≤◌, List, length, get_or, map, take, sym, ap, ◌∙◌, subst}
use Rattle.std.proofs.lemmas.List.{get_or_read, map_more, take_all}
use Rattle.sdf_graph.specs.Rates.{ChannelValue, IsCycle, cycle_length, no_channel}
use Rattle.sdf_graph.specs.RelativeRates.{totals}
use Rattle.sdf_graph.specs.declared.channel.Totals.{Totals}
use Rattle.sdf_graph.proofs.graph.totals_of.Goals as goal

pub totals-requires-clause-put : goal.totals-requires-clause-put
totals-requires-clause-put c =
    let chs = c.args.channels.now in
    let i : ℕ = c.loop-channel.channel-index in
    let read = get_or_read chs i c.channel-item.result c.loop-channel-test.true c.channel-item.is no_channel in
    let at : ChannelValue = get_or chs i no_channel in (
      cycle_length chs at.from,
      subst (λ (e : ChannelValue). IsCycle (cycle_length chs at.from) e.put) (sym read)
          (c.requires.put i c.loop-channel-test.true),
    )

pub totals-requires-clause-take : goal.totals-requires-clause-take
totals-requires-clause-take c =
    let chs = c.args.channels.now in
    let i : ℕ = c.loop-channel.channel-index in
    let read = get_or_read chs i c.channel-item.result c.loop-channel-test.true c.channel-item.is no_channel in
    let at : ChannelValue = get_or chs i no_channel in (
      cycle_length chs at.to,
      subst (λ (e : ChannelValue). IsCycle (cycle_length chs at.to) e.take) (sym read)
          (c.requires.take i c.loop-channel-test.true),
    )

pub loop-channel-preserved : goal.loop-channel-preserved
loop-channel-preserved c =
    let chs = c.args.channels.now in
    let i : ℕ = c.loop-channel.channel-index in
    let read = get_or_read chs i c.channel-item.result c.loop-channel-test.true c.channel-item.is no_channel in
    let one : c.totals.result ≡ totals (get_or chs i no_channel) = c.totals.ensures ∙ ap totals read in
    c.in_ok-push.ensures.items ∙ (ap (λ (ts : List Totals). ts ++ c.totals.result ∷ []) c.loop-channel.invariant ∙
    (ap (λ (t : Totals). map totals (take i chs) ++ t ∷ []) one
    ∙ sym (map_more totals chs i no_channel c.loop-channel-test.true)))

pub returns : goal.returns
returns c =
    let end : length c.args.channels.now ≤ c.loop-channel.channel-index = c.loop-channel-test.false in
    c.loop-channel.invariant ∙ ap (map totals) (take_all c.loop-channel.channel-index c.args.channels.now end)
