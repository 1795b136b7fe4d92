use Rattle.std.proofs.Common.{◌≡◌, ◌<◌, ℕ, length, slice_index, subst, sym, arith, rules, inl, inr, ◌⊎◌, ⊎_elim}
use Rattle.std.proofs.lemmas.List.{length-map}
use Rattle.sdf_graph.specs.Rates.{rates, channel, IsAlike}
use Rattle.sdf_graph.proofs.Theorems.{one_least_period}
use Rattle.sdf_actor.specs.Graphs.{graph_of, channel_of}
use Rattle.sdf_actor.specs.Nets.{wiring}
use Rattle.sdf_warm_up.specs.Warm.{HasLoop}
use Rattle.sdf_warm_up.specs.WarmUps.{WarmsIn, AreMemories, AreLate, AreEarly, NoneIsLate, AreWithin}
use Rattle.sdf_warm_up.specs.declared.warm_up.TheConstants.{MAX_FIRINGS}
use Rattle.sdf_warm_up.proofs.Warming.{warms, warms_no_sooner, stays_cold}
use Rattle.sdf_warm_up.proofs.warm_up.warm_up.Goals as goal

pub returns-clause-warms : goal.returns-clause-warms
returns-clause-warms g c = λ q least.
    let s = g.A.Actor.steps in
    let n = c.args.net.now in
    let memory = c.in-Some.memory.items in
    let since = c.in-Some-2.since.items in
    let own = c.repetitions.result.now in
    let many = c.periods_for.result in
    let same : own ≡ q = one_least_period (rates (graph_of s n)) own q c.repetitions.ensures.least least in
    let alike : IsAlike (rates (graph_of s n)) (wiring s n).rates =
    subst (λ x. IsAlike (rates x) (wiring s n).rates) c.graph-graph.ensures.value c.graph-graph.ensures.rates in
    let all : AreMemories s n memory = search rules in
    let own_late : AreLate c.graph-graph.result.now (slice_index c.deref.result.now) (slice_index since) =
    search rules in
    let late : AreLate (graph_of s n) (slice_index memory) (slice_index since) =
    subst (λ x. AreLate x (slice_index memory) (slice_index since)) c.graph-graph.ensures.value
    (subst (λ xs. AreLate c.graph-graph.result.now (slice_index xs) (slice_index since)) c.deref.ensures.value own_late)
    in
    let within : AreWithin own many memory since =
    subst (λ xs. AreWithin xs many memory since) c.as_slice.ensures
    (subst (λ xs. AreWithin c.as_slice.result.now many xs since) c.deref-2.ensures.value
    (subst (λ xs. AreWithin c.as_slice.result.now many c.deref-2.result.now xs) c.deref-3.ensures.value
    c.periods_for.ensures.least.is)) in
    subst (λ p. WarmsIn s n p many) same
    (warms s n alike memory all own since many c.repetitions.ensures.least.is.all late within)

pub returns-clause-least : goal.returns-clause-least
returns-clause-least g c = λ q fewer least warm.
    let s = g.A.Actor.steps in
    let n = c.args.net.now in
    let memory = c.in-Some.memory.items in
    let since = c.in-Some-2.since.items in
    let own = c.repetitions.result.now in
    let same : own ≡ q = one_least_period (rates (graph_of s n)) own q c.repetitions.ensures.least least in
    let alike : IsAlike (rates (graph_of s n)) (wiring s n).rates =
    subst (λ x. IsAlike (rates x) (wiring s n).rates) c.graph-graph.ensures.value c.graph-graph.ensures.rates in
    let sources : (i : ℕ) → i < length (graph_of s n).channels → (channel (graph_of s n) i).from < length n.nodes =
    (λ i known. let e = alike.source i known in
    let l = (c.graph-graph.ensures.whole.from_in i (omega (arith, length-map n.wires (channel_of s n.nodes)))).0 in
    omega (arith, e, l)) in
    let all : AreMemories s n memory = search rules in
    let own_early : AreEarly c.graph-graph.result.now (slice_index c.deref.result.now) since = search rules in
    let early : AreEarly (graph_of s n) (slice_index memory) since =
    subst (λ x. AreEarly x (slice_index memory) since) c.graph-graph.ensures.value
    (subst (λ xs. AreEarly c.graph-graph.result.now (slice_index xs) since) c.deref.ensures.value own_early) in
    let within : AreWithin own fewer memory since =
    warms_no_sooner s n alike memory all sources own since fewer
    c.repetitions.ensures.least.is.all early (subst (λ p. WarmsIn s n p fewer) (sym same) warm) in
    c.periods_for.ensures.least.least fewer
    (subst (λ xs. AreWithin xs fewer c.deref-2.result.now c.deref-3.result.now) (sym c.as_slice.ensures)
    (subst (λ xs. AreWithin own fewer xs c.deref-3.result.now) (sym c.deref-2.ensures.value)
    (subst (AreWithin own fewer memory) (sym c.deref-3.ensures.value) within)))

pub returns-in_default-2-clause-lasts : goal.returns-in_default-2-clause-lasts
returns-in_default-2-clause-lasts g c =
    let s = g.A.Actor.steps in
    let n = c.args.net.now in
    let memory = c.in-Some.memory.items in
    let alike : IsAlike (rates (graph_of s n)) (wiring s n).rates =
    subst (λ x. IsAlike (rates x) (wiring s n).rates) c.graph-graph.ensures.value c.graph-graph.ensures.rates in
    let sources : (i : ℕ) → i < length (graph_of s n).channels → (channel (graph_of s n) i).from < length n.nodes =
    (λ i known. let e = alike.source i known in
    let l = (c.graph-graph.ensures.whole.from_in i (omega (arith, length-map n.wires (channel_of s n.nodes)))).0 in
    omega (arith, e, l)) in
    let all : AreMemories s n memory = search rules in
    let why : HasLoop (rates c.graph-graph.result.now)
    ⊎ NoneIsLate c.graph-graph.result.now (slice_index c.deref.result.now) MAX_FIRINGS = search rules in
    ⊎_elim
    (λ loop. inl (subst (λ x. HasLoop (rates x)) c.graph-graph.ensures.value loop))
    (λ none. inr (stays_cold s n alike memory all sources MAX_FIRINGS
    (subst (λ x. NoneIsLate x (slice_index memory) MAX_FIRINGS) c.graph-graph.ensures.value
    (subst (λ xs. NoneIsLate c.graph-graph.result.now (slice_index xs) MAX_FIRINGS) c.deref.ensures.value none))))
    why
