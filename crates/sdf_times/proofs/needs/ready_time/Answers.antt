use Rattle.std.proofs.Common.{ℕ, ◌+◌, get_or, arith, sym, subst}
use Rattle.sdf_graph.specs.Rates.{rates}
use Rattle.sdf_graph.proofs.Theorems.{graphs_are_sound}
use Rattle.sdf_prec.specs.Costs.{AreCosts}
use Rattle.sdf_times.specs.Times.{IsGreatest, start_in}
use Rattle.sdf_times.specs.Walks.{IsAmongEnd}
use Rattle.sdf_times.proofs.Waits.{own_started, own_small, on_started, on_small, need_first, need_more, need_all}
use Rattle.sdf_times.proofs.needs.ready_time.Goals as goal

pub end_time-time-requires-clause-known : goal.end_time-time-requires-clause-known
end_time-time-requires-clause-known c = omega (arith, c.requires.prepared.of, c.requires.prepared.actors)

pub end_time-time-requires-clause-costs : goal.end_time-time-requires-clause-costs
end_time-time-requires-clause-costs c = subst (λ k. AreCosts k c.args.costs.now) (sym c.requires.prepared.actors)
    c.requires.costs

pub end_time-time-requires-clause-started : goal.end_time-time-requires-clause-started
end_time-time-requires-clause-started c =
    own_started (rates c.args.graph.now) (λ a. get_or c.args.costs.now a 0) c.args.starts.now c.args.firing
    c.requires.prepared c.from.result c.from.ensures

pub end_time-time-requires-clause-small : goal.end_time-time-requires-clause-small
end_time-time-requires-clause-small c =
    own_small (rates c.args.graph.now) (λ a. get_or c.args.costs.now a 0) c.args.starts.now c.args.firing
    c.requires.prepared c.from.result c.from.ensures

pub loop-number-init : goal.loop-number-init
loop-number-init c =
    need_first (rates c.args.graph.now) (λ a. get_or c.args.costs.now a 0) c.args.starts.now c.args.firing
    c.requires.prepared c.incoming-number-items.result.now c.from.result c.end_time-time.result c.from.ensures
    c.end_time-time.ensures.none c.end_time-time.ensures.last

pub end_time-requires-clause-started : goal.end_time-requires-clause-started
end_time-requires-clause-started c =
    let d : ℕ = get_or c.incoming-number-items.result.now c.loop-number.number-index 0 in
    let here = c.incoming-number-items.ensures.channels.each c.loop-number.number-index
    (omega (arith, c.loop-number-test.true)) in
    on_started (rates c.args.graph.now) (λ a. get_or c.args.costs.now a 0) c.args.starts.now c.args.firing
    c.requires.prepared d c.needed-count.result c.source_of-source.result here.0 here.1 c.needed-count.ensures
    c.source_of-source.ensures

pub end_time-requires-clause-small : goal.end_time-requires-clause-small
end_time-requires-clause-small c =
    let d : ℕ = get_or c.incoming-number-items.result.now c.loop-number.number-index 0 in
    let here = c.incoming-number-items.ensures.channels.each c.loop-number.number-index
    (omega (arith, c.loop-number-test.true)) in
    on_small (rates c.args.graph.now) (λ a. get_or c.args.costs.now a 0) c.args.starts.now c.args.firing
    c.requires.prepared d c.needed-count.result c.source_of-source.result here.0 here.1 c.needed-count.ensures
    c.source_of-source.ensures

pub loop-number-preserved : goal.loop-number-preserved
loop-number-preserved c =
    let r = rates c.args.graph.now in
    let i : ℕ = c.loop-number.number-index in
    let ins = c.incoming-number-items.result.now in
    let cost : ℕ → ℕ = λ a. get_or c.args.costs.now a 0 in
    let d : ℕ = get_or ins i 0 in
    let here = c.incoming-number-items.ensures.channels.each i (omega (arith, c.loop-number-test.true)) in
    let sound = graphs_are_sound c.args.graph.now c.incoming-number-items.ensures.shape in
    let more = need_more r cost c.args.starts.now c.args.firing c.requires.prepared ins sound i
    c.loop-number.time d c.needed-count.result c.source_of-source.result c.end_time.result (λ _. d) here.0 here.1
    c.needed-count.ensures c.source_of-source.ensures
    c.end_time.ensures.none c.end_time.ensures.last c.loop-number.invariant in
    subst (IsGreatest (IsAmongEnd r cost (start_in c.args.starts.now) c.args.firing ins (i + 1)))
    (sym c.max-time.ensures) more

pub returns : goal.returns
returns c =
    need_all (rates c.args.graph.now) (λ a. get_or c.args.costs.now a 0) c.args.starts.now c.args.firing
    c.requires.prepared c.incoming-number-items.result.now c.incoming-number-items.ensures.channels
    c.loop-number.number-index c.loop-number.time
    (omega (arith, c.loop-number-test.false, c.loop-number.auto.number-index-end)) c.loop-number.invariant
