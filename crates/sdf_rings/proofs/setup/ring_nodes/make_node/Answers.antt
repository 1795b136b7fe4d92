use Rattle.std.proofs.Common.{◌≤◌, ◌<◌, ℕ, [], sym, ◌∙◌, subst, arith}
use Rattle.std.proofs.lemmas.List.{get_or_default}
use Rattle.sdf_actor.specs.Nets.{node, cycle_of}
use Rattle.sdf_actor.specs.Wires.{lists}
use Rattle.sdf_actor.proofs.Theorems.{nets_are_wired}
use Rattle.sdf_node.specs.Nodes.{takes_of, puts_of, CanBegin, IsAt}
use Rattle.sdf_rings.proofs.Begun.{ring_node_begun}
use Rattle.sdf_rings.proofs.Lists.{vec_long}
use Rattle.sdf_rings.proofs.setup.ring_nodes.make_node.Goals as goal

pub returns-clause-ring_node : goal.returns-clause-ring_node
returns-clause-ring_node g c =
    let s = g.A.Actor.steps in
    let x = c.args.start.now in
    let n = x.net.now in
    let inputs = lists x.inputs.now in
    let a = c.args.a in
    let is = c.node-node.ensures.value in
    let asked = c.index.result.now in
    let asked_is = c.index.ensures ∙ get_or_default x.asked.items a asked 0
    (omega (arith, vec_long x.asked, c.requires.start.asked_all, c.requires.known)) in
    let can = subst (λ m. CanBegin inputs m x.room (node n a)) (sym asked_is)
    (c.requires.start.can.begin a c.requires.known) in
    ring_node_begun s n c.requires.start.can.net
    (nets_are_wired g.A.Actor.steps n c.requires.start.can.net) inputs a c.requires.known
    c.in_ok-begin.field-0 c.args.ins c.args.outs c.in_ok-rows.field-0 c.in_ok-rows-2.field-0 c.in_ok-fillers.field-0
    c.in_ok-fillers-2.field-0 asked x.filler c.max-many.result
    c.requires.ins c.requires.outs c.requires.own (c.requires.start.can.phases a c.requires.known)
    (subst (λ y. IsAt s inputs asked y [] c.in_ok-begin.field-0) is
    (c.in_ok-begin.ensures inputs asked (subst (λ y. CanBegin inputs asked x.room y) (sym is) can)))
    c.in_ok-rows.ensures c.in_ok-rows-2.ensures
    (subst (λ y. (j : ℕ) → j < cycle_of s y → (takes_of s y j ≤ c.max-many.result)
    × (puts_of s y j ≤ c.max-many.result)) is (λ j l. let within = c.max_samples.ensures j l in let up =
    c.max-many.ensures in (omega arith, omega arith)))
    c.in_ok-fillers.ensures c.in_ok-fillers-2.ensures
    (λ e. asked_is ∙ c.requires.start.can.fillers a c.requires.known e)
