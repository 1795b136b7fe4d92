use Rattle.std.proofs.Common.{◌≡◌, ◌<◌, ◌+◌, ◌++◌, ◌∷◌, [], ℕ, List, length, get_or, replicate, sym, ap, ◌∙◌, subst}
use Rattle.std.proofs.Common.{arith}
use Rattle.std.proofs.lemmas.List.{length_push, get_or_read}
use Rattle.sdf_graph.specs.Rates.{GraphValue, ChannelValue, IsShape, no_channel}
use Rattle.sdf_graph.proofs.Begins.{begins, begins_more}
use Rattle.sdf_graph.proofs.counts.Counts.new.Goals as goal

pub loop-channel-init : goal.loop-channel-init
loop-channel-init c = (ap length c.new-held.ensures.items, λ d l. absurd (omega arith))

pub loop-channel-preserved : goal.loop-channel-preserved
loop-channel-preserved c =
    let i : ℕ = c.loop-channel.channel-index in
    let chs = c.deref-channel-items.result.now in
    let all : chs ≡ c.args.graph.now.channels = c.deref-channel-items.ensures.value
    ∙ ap (λ (s : GraphValue). s.channels) c.graph.view_is in
    let read = get_or_read chs i c.channel-item.result c.loop-channel-test.true c.channel-item.is no_channel in
    let is : c.channel-item.result ≡ get_or c.args.graph.now.channels i no_channel =
    read ∙ ap (λ (es : List ChannelValue). get_or es i no_channel) all in
    let first = ap (λ (e : ChannelValue). e.initial) c.channel.view_is in
    let items = c.in_ok-push.ensures.items ∙ ap (λ n. c.loop-channel.held.items ++ n ∷ []) first in
    let inv = c.loop-channel.invariant in (
      omega (arith, ap length items, length_push c.loop-channel.held.items c.channel-item.result.initial, inv.0),
      subst (λ (xs : List ℕ). (d : ℕ) → d < i + 1 →
          get_or xs d 0 ≡ (get_or c.args.graph.now.channels d no_channel).initial) (sym items)
          (begins_more c.args.graph.now.channels c.loop-channel.held.items i c.channel-item.result inv.0 is inv.1),
    )

pub invariant_of-result : goal.invariant_of-result
invariant_of-result c =
    let inv = c.loop-channel.invariant in
    let all : length c.deref-channel-items.result.now ≡ length c.args.graph.now.channels =
    ap length (c.deref-channel-items.ensures.value ∙ ap (λ (s : GraphValue). s.channels) c.graph.view_is) in
    begins c.args.graph.now (subst IsShape c.graph.view_is c.graph.invariant.shape) c.in_ok-fired.fired.items
    c.loop-channel.held.items
    (c.in_ok-fired.ensures.items_if_clones_equal (λ y e. e)
    ∙ ap (λ (s : GraphValue). replicate s.actors 0) c.graph.view_is)
    (omega (arith, inv.0, all)) (λ d l. inv.1 d (omega (arith, all)))

pub returns : goal.returns
returns c =
    ap (λ (fired : List ℕ). record { graph = c.args.graph.now; fired = fired })
    (c.in_ok-fired.ensures.items_if_clones_equal (λ y e. e)
    ∙ ap (λ (s : GraphValue). replicate s.actors 0) c.graph.view_is)
