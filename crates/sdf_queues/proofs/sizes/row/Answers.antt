use Rattle.std.proofs.Common.{◌≡◌, ◌<◌, ◌++◌, ◌∷◌, [], ℕ, List, length, get_or, map, take, sym, ap, ◌∙◌, subst}
use Rattle.std.proofs.lemmas.List.{get_or_read, map_more, take_all}
use Rattle.sdf_graph.specs.Rates.{ChannelValue, rate_at, no_channel}
use Rattle.sdf_queues.specs.Sizes.{rates_on}
use Rattle.sdf_queues.proofs.sizes.row.Goals as goal

pub loop-channel-init : goal.loop-channel-init
loop-channel-init c = c.new-row.ensures.items

pub size-requires : goal.size-requires
size-requires c =
    let read = get_or_read c.args.channels.now c.loop-channel.channel-index c.channel-item.result
    c.loop-channel-test.true c.channel-item.is no_channel in
    subst (λ (e : ChannelValue). 0 < length (rates_on c.args.side e)) (sym read)
    (c.requires c.loop-channel.channel-index c.loop-channel-test.true)

pub loop-channel-preserved : goal.loop-channel-preserved
loop-channel-preserved c =
    let chs = c.args.channels.now in
    let i : ℕ = c.loop-channel.channel-index in
    let moved : ChannelValue → ℕ = λ e. rate_at (rates_on c.args.side e) c.args.phase in
    let read = get_or_read chs i c.channel-item.result c.loop-channel-test.true c.channel-item.is no_channel in
    let one : c.size.result ≡ moved (get_or chs i no_channel) = c.size.ensures ∙ ap moved read in
    c.in_ok-push.ensures.items ∙ (ap (λ (ms : List ℕ). ms ++ c.size.result ∷ []) c.loop-channel.invariant
    ∙ (ap (λ (m : ℕ). map moved (take i chs) ++ m ∷ []) one
    ∙ sym (map_more moved chs i no_channel c.loop-channel-test.true)))

pub returns : goal.returns
returns c = c.loop-channel.invariant ∙ ap (map (λ e. rate_at (rates_on c.args.side e) c.args.phase))
    (take_all c.loop-channel.channel-index c.args.channels.now c.loop-channel-test.false)
