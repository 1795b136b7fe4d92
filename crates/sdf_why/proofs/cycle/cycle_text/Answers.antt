use Rattle.std.proofs.Common.{◌≡◌, ◌++◌, rules, string_bytes}
use Rattle.std.specs.List.{flat_map}
use Rattle.std.proofs.lemmas.Option.{MatchOption-at_none}
use Rattle.toml.specs.View.{view}
use Rattle.sdf_why.specs.Cycles.{IsCycle, lack_told, others_told, cycle, none}
use Rattle.sdf_why.proofs.Chains.{chain_known}
use Rattle.sdf_why.proofs.cycle.cycle_text.Goals as goal

pub push_lacks-requires : goal.push_lacks-requires
push_lacks-requires c =
    let round : IsCycle c.args.graph.now c.args.halts.now c.in-Some.links.items = search rules in
    rw c.deref.ensures.value (chain_known c.args.graph.now c.args.halts.now round.actor _ round.actor round.round)

pub returns : goal.returns
returns c =
    let round : IsCycle c.args.graph.now c.args.halts.now c.in-Some.links.items = search rules in
    let told : string_bytes c.push_others.new.text ≡
    flat_map (lack_told (view c.args.document.now) c.args.graph.now c.args.halts.now) c.in-Some.links.items
    ++ others_told (view c.args.document.now) c.args.halts.now c.in-Some.links.items =
    search rules in
    cycle c.in-Some.links.items round told

pub returns-in_default : goal.returns-in_default
returns-in_default c =
    none (MatchOption-at_none _ _ c.in_default.is c.in_ok-links.ensures) c.new-text.ensures.bytes
