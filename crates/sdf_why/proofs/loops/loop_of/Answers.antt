use Rattle.std.proofs.Common.{rules, subst}
use Rattle.std.proofs.lemmas.Option.{MatchOption-at_none}
use Rattle.sdf_why.specs.Cycles.{HasNoCycle, IsCycle}
use Rattle.sdf_why.proofs.Rounds.{cycle_loops, no_loop}
use Rattle.sdf_why.proofs.loops.loop_of.Goals as goal

pub returns-in_default : goal.returns-in_default
returns-in_default c =
    let ended : HasNoCycle c.args.graph.now c.in_ok-halts.halts.items =
    subst (HasNoCycle c.args.graph.now) c.deref-2.ensures.value
    (MatchOption-at_none _ _ c.in_default.is c.in_ok-numbers.ensures) in
    no_loop c.args.graph.now c.in_ok-halts.halts.items c.in_ok-kept.kept.items (search rules) (search rules)
    (search rules) ended

pub returns : goal.returns
returns c =
    let round : IsCycle c.args.graph.now c.in_ok-halts.halts.items c.in-Some.numbers.items = search rules in
    cycle_loops c.args.graph.now c.in_ok-halts.halts.items c.in-Some.numbers.items round
