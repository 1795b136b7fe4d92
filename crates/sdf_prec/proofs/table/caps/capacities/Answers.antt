use Rattle.std.proofs.Common.{◌≡◌, ℕ, ◌+◌, ◌≤◌, ◌<◌, ◌++◌, ◌∷◌, [], List, length, take, drop, get_or, arith, sym, ap}
use Rattle.std.proofs.Common.{◌∙◌}
use Rattle.std.proofs.Common.{subst}
use Rattle.std.proofs.lemmas.List.{take_at, get_or_read, length_push}
use Rattle.sdf_graph.specs.Rates.{GraphValue, ChannelValue, rates, channel, no_channel}
use Rattle.sdf_graph.specs.Sequences.{times, tokens}
use Rattle.sdf_graph.specs.CountsValue.{CountsValue, counts}
use Rattle.sdf_graph.proofs.Theorems.{fronts_count_within, graphs_are_sound, last_counts_more}
use Rattle.sdf_prec.specs.Tables.{AreCountsAt, IsGreatestTo}
use Rattle.sdf_prec.proofs.Capacities.{at_first, at_held, at_enabled, at_more, greatest_first, greatest_more}
use Rattle.sdf_prec.proofs.Capacities.{begins_more, raised_all}
use Rattle.sdf_prec.proofs.table.caps.capacities.Goals as goal

pub fire-requires-clause-enabled : goal.fire-requires-clause-enabled
fire-requires-clause-enabled c =
    at_enabled c.args.graph.now c.channels-channel-items.ensures.shape c.args.order.now c.loop-actor.actor-index
    c.loop-actor.counts c.requires.admissible c.loop-actor.invariant.at c.loop-actor-test.true

pub fire-requires-clause-room : goal.fire-requires-clause-room
fire-requires-clause-room c =
    let w = c.args.order.now in
    let i : ℕ = c.loop-actor.actor-index in
    let a : ℕ = get_or w i 0 in
    let known = (c.requires.admissible i c.loop-actor-test.true).0 in
    omega (
      arith,
      c.loop-actor.invariant.at.fired a known,
      last_counts_more w i a c.loop-actor-test.true (λ _. a),
      fronts_count_within w (i + 1) a,
      c.requires.few a known,
    )

pub raise-requires-clause-known : goal.raise-requires-clause-known
raise-requires-clause-known c = λ j l.
    let within = (c.outgoing.ensures.each j l).0 in
    omega (arith, ap length c.deref_mut.ensures.value, c.loop-actor.invariant.each)

pub loop-actor-preserved : goal.loop-actor-preserved
loop-actor-preserved c =
    let g = c.args.graph.now in
    let w = c.args.order.now in
    let i : ℕ = c.loop-actor.actor-index in
    let at : AreCountsAt g w (i + 1) c.fire.new.self = subst (AreCountsAt g w (i + 1)) (sym c.fire.ensures)
    (at_more g w i c.loop-actor.counts c.loop-actor.invariant.at c.loop-actor-test.true
    (c.requires.admissible i c.loop-actor-test.true).0) in
    let same : length c.raise.new.caps ≡ length c.loop-actor.caps.items =
    c.raise.ensures.same ∙ ap length c.deref_mut.ensures.value in
    let len : length c.raise.new.caps ≡ c.loop-actor.caps.len = same ∙ sym c.loop-actor.caps.ok.0 in
    let is = take_at c.raise.new.caps (drop (length c.raise.new.caps) c.loop-actor.caps.items)
    c.loop-actor.caps.len len in
    let held : (d : ℕ) → d < length g.channels → tokens (rates c.fire.new.self.graph) (counts c.fire.new.self) d
    ≡ tokens (rates g) (times (take (i + 1) w)) d =
    (λ d l. at_held g c.channels-channel-items.ensures.shape w (i + 1) c.fire.new.self at d l) in
    let above : (d : ℕ) (l : d < length g.channels) → (rates g).source d ≡ get_or w i 0 →
    tokens (rates g) (times (take (i + 1) w)) d ≤ get_or c.raise.new.caps d 0 =
    raised_all (rates g) (get_or w i 0) c.outgoing.result.now c.raise.new.caps
    (tokens (rates c.fire.new.self.graph) (counts c.fire.new.self)) (tokens (rates g) (times (take (i + 1) w)))
    c.outgoing.ensures held c.raise.ensures.above in
    rw is
    record {
      at = at;
      each = same ∙ c.loop-actor.invariant.each;
      greatest = λ d l. greatest_more (rates g) w i d (get_or c.loop-actor.caps.items d 0)
          (get_or c.raise.new.caps d 0) (graphs_are_sound g c.channels-channel-items.ensures.shape)
          c.loop-actor-test.true (c.loop-actor.invariant.greatest d l)
          (rw (held d l, c.deref_mut.ensures.value) at (c.raise.ensures.each d)) (above d l);
    }

pub returns : goal.returns
returns c =
    let end : c.loop-actor.actor-index ≡ length c.args.order.now = omega arith in (
      c.loop-actor.invariant.each,
      λ d l. subst (λ i. IsGreatestTo (rates c.args.graph.now) c.args.order.now i d
          (get_or c.loop-actor.caps.items d 0)) end (c.loop-actor.invariant.greatest d l),
    )

pub loop-channel-init : goal.loop-channel-init
loop-channel-init c = record { each = ap length c.new-caps.ensures.items; same = λ d l. absurd (omega arith) }

pub loop-channel-preserved : goal.loop-channel-preserved
loop-channel-preserved c =
    let i : ℕ = c.loop-channel.channel-index in
    let chs = c.channels-channel-items.result.now in
    let read = get_or_read chs i c.channel-item.result c.loop-channel-test.true c.channel-item.is no_channel in
    let is : c.channel-item.result ≡ channel c.args.graph.now i =
    read ∙ ap (λ (es : List ChannelValue). get_or es i no_channel) c.channels-channel-items.ensures.list in
    let items = c.in_ok-push.ensures.items ∙ ap (λ (e : ChannelValue). c.loop-channel.caps.items ++ e.initial ∷ [])
    c.channel.view_is in
    let k = c.loop-channel.invariant in
    record {
      each = omega (
        arith,
        ap length items,
        length_push c.loop-channel.caps.items
            c.channel-item.result.initial,
        k.each,
      );
      same = subst (λ (xs : List ℕ). (d : ℕ) → d < i + 1 →
          get_or xs d 0 ≡ (channel c.args.graph.now d).initial) (sym items)
          (begins_more c.args.graph.now c.loop-channel.caps.items i c.channel-item.result k.each is k.same);
    }

pub loop-actor-init : goal.loop-actor-init
loop-actor-init c =
    let g = c.args.graph.now in
    let k = c.loop-channel.invariant in
    let all : c.loop-channel.channel-index ≡ length g.channels =
    omega (
      arith,
      ap length c.channels-channel-items.ensures.list,
      c.loop-channel-test.false,
      c.loop-channel.auto.channel-index-end,
    ) in
    record {
      at = at_first g c.args.order.now c.in_ok-counts.counts c.in_ok-counts.ensures;
      each = k.each ∙ all;
      greatest = λ d l. greatest_first g c.args.order.now d (get_or c.loop-channel.caps.items d 0)
          (k.same d (omega (arith, all, l)));
    }

pub fire-requires-clause-known : goal.fire-requires-clause-known
fire-requires-clause-known c =
    subst (λ (h : GraphValue). get_or c.args.order.now c.loop-actor.actor-index 0 < h.actors)
    (sym c.loop-actor.invariant.at.same) (c.requires.admissible c.loop-actor.actor-index c.loop-actor-test.true).0

pub raise-requires-clause-all : goal.raise-requires-clause-all
raise-requires-clause-all c =
    ap length c.deref_mut.ensures.value ∙ (c.loop-actor.invariant.each
    ∙ sym (ap (λ (t : CountsValue). length t.graph.channels) c.fire.ensures
    ∙ ap (λ (s : GraphValue). length s.channels) c.loop-actor.invariant.at.same))
