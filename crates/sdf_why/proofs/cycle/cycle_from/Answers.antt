use Rattle.std.proofs.Common.{◌≡◌, ◌<◌, ℕ, List, None, Some, [], ◌∷◌, ◌++◌, get_or, length, set, rules, arith}
use Rattle.std.proofs.Common.{◌∙◌, refl, sym, subst}
use Rattle.std.proofs.lemmas.List.{get_or_read_under}
use Rattle.sdf_why.specs.Cycles.{Waits, IsWalk, IsCycle, ends}
use Rattle.sdf_why.proofs.Chains.{waits_within, walk_goes_on, walk_closes, fewer_left}
use Rattle.sdf_why.proofs.cycle.cycle_from.Goals as goal

pub split_off-requires : goal.split_off-requires
split_off-requires c =
    let waits : Waits c.args.graph.now c.args.halts.now c.loop-channel.actor c.in-Some.channel c.in-Some.source =
    search rules in
    let within : c.loop-channel.actor < length c.loop-channel.places.items = omega (
      arith,
      waits_within c.args.graph.now c.args.halts.now c.loop-channel.actor c.in-Some.channel c.in-Some.source waits,
      c.loop-channel.invariant.all,
    ) in
    let left : get_or c.loop-channel.places.items c.loop-channel.actor None ≡ Some c.in-Some-index.place =
    sym (get_or_read_under c.loop-channel.places.items c.loop-channel.actor (length c.loop-channel.places.items)
    c.index.result.now None c.index.ensures within refl) ∙ c.in-Some-index.is in
    omega (
      arith,
      (c.loop-channel.invariant.left c.loop-channel.actor c.in-Some-index.place left).0,
      c.loop-channel.path.ok.0,
    )

pub returns-in-Some-index : goal.returns-in-Some-index
returns-in-Some-index c =
    let waits : Waits c.args.graph.now c.args.halts.now c.loop-channel.actor c.in-Some.channel c.in-Some.source =
    search rules in
    let within : c.loop-channel.actor < length c.loop-channel.places.items = omega (
      arith,
      waits_within c.args.graph.now c.args.halts.now c.loop-channel.actor c.in-Some.channel c.in-Some.source waits,
      c.loop-channel.invariant.all,
    ) in
    let left : get_or c.loop-channel.places.items c.loop-channel.actor None ≡ Some c.in-Some-index.place =
    sym (get_or_read_under c.loop-channel.places.items c.loop-channel.actor (length c.loop-channel.places.items)
    c.index.result.now None c.index.ensures within refl) ∙ c.in-Some-index.is in
    subst (λ (cs : List ℕ). IsCycle c.args.graph.now c.args.halts.now cs) (sym c.in_ok-split_off.ensures.tail)
    (walk_closes c.args.graph.now c.args.halts.now c.args.first c.loop-channel.path.items c.loop-channel.places.items
    c.loop-channel.actor c.in-Some-index.place c.loop-channel.invariant left)

pub index_mut-requires : goal.index_mut-requires
index_mut-requires c =
    let waits : Waits c.args.graph.now c.args.halts.now c.loop-channel.actor c.in-Some.channel c.in-Some.source =
    search rules in
    omega (
      arith,
      waits_within c.args.graph.now c.args.halts.now c.loop-channel.actor c.in-Some.channel c.in-Some.source waits,
      c.loop-channel.invariant.all,
      c.loop-channel.places.ok.0,
    )

pub loop-channel-smaller : goal.loop-channel-smaller
loop-channel-smaller c =
    let waits : Waits c.args.graph.now c.args.halts.now c.loop-channel.actor c.in-Some.channel c.in-Some.source =
    search rules in
    let fresh : get_or c.loop-channel.places.items c.loop-channel.actor None ≡ None = search rules in
    let within : c.loop-channel.actor < length c.loop-channel.places.items = omega (
      arith,
      waits_within c.args.graph.now c.args.halts.now c.loop-channel.actor c.in-Some.channel c.in-Some.source waits,
      c.loop-channel.invariant.all,
    ) in
    fewer_left c.loop-channel.places.items c.loop-channel.actor c.len.result within fresh

pub loop-channel-preserved : goal.loop-channel-preserved
loop-channel-preserved c =
    let waits : Waits c.args.graph.now c.args.halts.now c.loop-channel.actor c.in-Some.channel c.in-Some.source =
    search rules in
    let long : length c.loop-channel.path.items ≡ c.len.result = search rules in
    let path : c.push.new.self.items ≡ c.loop-channel.path.items ++ c.in-Some.channel ∷ [] = search rules in
    subst (λ (cs : List ℕ). IsWalk c.args.graph.now c.args.halts.now c.args.first cs
    (set c.loop-channel.places.items c.loop-channel.actor (Some c.len.result)) c.in-Some.source) (sym path)
    (subst (λ (n : ℕ). IsWalk c.args.graph.now c.args.halts.now c.args.first
    (c.loop-channel.path.items ++ c.in-Some.channel ∷ [])
    (set c.loop-channel.places.items c.loop-channel.actor (Some n)) c.in-Some.source) long
    (walk_goes_on c.args.graph.now c.args.halts.now c.args.first c.loop-channel.path.items c.loop-channel.places.items
    c.loop-channel.actor c.in-Some.channel c.in-Some.source c.loop-channel.invariant waits))

pub returns : goal.returns
returns c =
    ends c.args.first c.loop-channel.path.items c.loop-channel.actor c.requires c.loop-channel.invariant.way
    c.in_default.ensures
