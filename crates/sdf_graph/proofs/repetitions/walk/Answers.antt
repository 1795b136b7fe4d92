use Rattle.std.proofs.Common.{◌<◌, ℕ, List, true, length, get_or, set, ap, sym, ◌∙◌, subst, arith, inl, inr}
use Rattle.sdf_graph.specs.Rates.{GraphValue, ChannelValue, IsShape, no_channel}
use Rattle.sdf_graph.specs.Marks.{IsBorder, IsClosed, IsJoin}
use Rattle.sdf_graph.specs.RelativeRates.{IsBalancedAt, IsWalk}
use Rattle.sdf_graph.specs.declared.repetitions.Ratio.{Ratio}
use Rattle.sdf_graph.proofs.Marks.{border_in, fewer}
use Rattle.sdf_graph.proofs.RatioLaws.{first_share, walk_more, walked}
use Rattle.sdf_graph.proofs.PeriodLaws.{share_long}
use Rattle.sdf_graph.proofs.Ties.{tied_more}
use Rattle.sdf_graph.proofs.repetitions.walk.Goals as goal
use Rattle.sdf_graph.proofs.repetitions.walk.Goals.{then-part-gt-MAX_PERIOD-via-then-part-gt-MAX_PERIOD}
use Rattle.sdf_graph.proofs.repetitions.walk.Goals.{then-part-gt-MAX_PERIOD-via-else-part-gt-MAX_PERIOD+then-part-gt-MAX_PERIOD-2}

pub loop-channel-init : goal.loop-channel-init
loop-channel-init c =
    let shape = c.graph.invariant.shape in
    first_share _ c.in_ok-ratios.ratios.items 64 (c.in_ok-ratios.ensures.items_if_clones_equal (λ y e. e))
    shape.some (omega arith)

pub returns-then-part-gt-MAX_PERIOD : goal.returns-then-part-gt-MAX_PERIOD
returns-then-part-gt-MAX_PERIOD c =
    let marked = c.loop-channel.marked in
    let border = subst (λ (chs : List ChannelValue). IsBorder chs marked c.in-Some.channel c.in-Some.actor)
    (c.deref.ensures.value ∙ ap (λ (s : GraphValue). s.channels) c.graph.view_is) c.in-Some.ensures in
    let walk = subst (λ (s : GraphValue). IsWalk s c.loop-channel.ratios.items marked) c.graph.view_is
    c.loop-channel.invariant in
    let even = subst (λ (ps : List Ratio). IsBalancedAt c.args.graph.now
    (set ps c.in-Some.actor c.unmarked_rate-part.result)
    c.in-Some.channel) c.deref-in-Some.ensures.value (c.unmarked_rate-part.ensures.even c.in-Some.actor border) in
    share_long c.args.graph.now (subst IsShape c.graph.view_is c.graph.invariant.shape) c.loop-channel.ratios.items
    marked walk c.in-Some.channel c.in-Some.actor border c.unmarked_rate-part.result
    (c.unmarked_rate-part.ensures.share c.in-Some.actor border) even
    (elim c.then-part-gt-MAX_PERIOD.branch [
      | then-part-gt-MAX_PERIOD-via-then-part-gt-MAX_PERIOD w ↦ inl
          w.if-part-gt-MAX_PERIOD.true
      | then-part-gt-MAX_PERIOD-via-else-part-gt-MAX_PERIOD+then-part-gt-MAX_PERIOD-2 w ↦ inr
          w.if-part-gt-MAX_PERIOD-2.true
    ])

pub loop-channel-preserved : goal.loop-channel-preserved
loop-channel-preserved c =
    let marked = c.loop-channel.marked in
    let border = subst (λ (chs : List ChannelValue). IsBorder chs marked c.in-Some.channel c.in-Some.actor)
    (c.deref.ensures.value ∙ ap (λ (s : GraphValue). s.channels) c.graph.view_is) c.in-Some.ensures in
    let walk = subst (λ (s : GraphValue). IsWalk s c.loop-channel.ratios.items marked) c.graph.view_is
    c.loop-channel.invariant in
    let even = subst (λ (ps : List Ratio). IsBalancedAt c.args.graph.now
    (set ps c.in-Some.actor c.unmarked_rate-part.result)
    c.in-Some.channel) c.deref-in-Some.ensures.value (c.unmarked_rate-part.ensures.even c.in-Some.actor border) in
    subst (λ (s : GraphValue). IsWalk s (set c.loop-channel.ratios.items c.in-Some.actor c.unmarked_rate-part.result)
    (set marked c.in-Some.actor true)) (sym c.graph.view_is)
    (walk_more _ c.loop-channel.ratios.items marked c.in-Some.actor c.unmarked_rate-part.result walk
    border.within border.fresh
    (c.unmarked_rate-part.ensures.share c.in-Some.actor border) (record { top = omega arith; bottom = omega arith })
    (tied_more c.args.graph.now c.loop-channel.ratios.items marked c.in-Some.channel c.in-Some.actor
    c.unmarked_rate-part.result border walk.tied even))

pub returns : goal.returns
returns c =
    walked c.args.graph.now (subst IsShape c.graph.view_is c.graph.invariant.shape) c.loop-channel.ratios.items
    c.loop-channel.marked
    (subst (λ (s : GraphValue). IsWalk s c.loop-channel.ratios.items c.loop-channel.marked) c.graph.view_is
    c.loop-channel.invariant)
    (subst (λ (chs : List ChannelValue). IsClosed chs c.loop-channel.marked)
    (c.deref.ensures.value ∙ ap (λ (s : GraphValue). s.channels) c.graph.view_is) c.in_default.ensures)

pub border-requires : goal.border-requires
border-requires c =
    let shape = c.graph.invariant.shape in
    subst (λ (chs : List ChannelValue). (d : ℕ) → d < length chs →
    IsJoin (length c.loop-channel.marked) (get_or chs d no_channel).from (get_or chs d no_channel).to)
    (sym c.deref.ensures.value)
    (λ d l. record {
      from_in = omega (arith, shape.from_in d l, shape.few);
      to_in = omega (arith, shape.to_in d l, shape.few);
    })

pub unmarked_rate-part-requires-clause-walk : goal.unmarked_rate-part-requires-clause-walk
unmarked_rate-part-requires-clause-walk c =
    subst (λ (ratios : List Ratio). IsWalk c.args.graph.now ratios c.loop-channel.marked)
    (sym c.deref-in-Some.ensures.value)
    (subst (λ (s : GraphValue). IsWalk s c.loop-channel.ratios.items c.loop-channel.marked) c.graph.view_is
    c.loop-channel.invariant)

pub unmarked_rate-part-requires-clause-border : goal.unmarked_rate-part-requires-clause-border
unmarked_rate-part-requires-clause-border c =
    let border = subst (λ (chs : List ChannelValue). IsBorder chs c.loop-channel.marked c.in-Some.channel
    c.in-Some.actor)
    (c.deref.ensures.value ∙ ap (λ (s : GraphValue). s.channels) c.graph.view_is) c.in-Some.ensures in
    (c.in-Some.actor, border)

pub index_mut-requires : goal.index_mut-requires
index_mut-requires c =
    let shape = c.graph.invariant.shape in
    let border = subst (λ (chs : List ChannelValue). IsBorder chs c.loop-channel.marked c.in-Some.channel
    c.in-Some.actor)
    c.deref.ensures.value c.in-Some.ensures in
    omega (
      arith,
      border_in _ shape c.loop-channel.marked c.in-Some.channel c.in-Some.actor border,
      c.loop-channel.invariant.all,
      c.loop-channel.ratios.ok.0,
    )

pub bounds-marked-actor : goal.bounds-marked-actor
bounds-marked-actor c = omega (arith, c.in-Some.ensures.within)

pub loop-channel-smaller : goal.loop-channel-smaller
loop-channel-smaller c = fewer c.deref.result.now c.loop-channel.marked c.in-Some.channel c.in-Some.actor
    c.in-Some.ensures
