use Rattle.std.proofs.Common.{◌≡◌, ◌<◌, ℕ, [], None, length, get_or, sym, ap, ◌∙◌, subst}
use Rattle.sdf_actor.specs.declared.node.Node.TheVariants.{Sink}
use Rattle.sdf_actor.specs.Resumed.{MayBegin}
use Rattle.sdf_actor.specs.ResumedSteps.{resumed_steps}
use Rattle.sdf_actor.specs.Nets.{IsNet, no_wire}
use Rattle.sdf_actor.specs.NetStates.{IsResumedNode, IsResumedNet}
use Rattle.sdf_actor.specs.Wires.{lists, wires, netlist}
use Rattle.sdf_actor.proofs.ResumedGraphs.{begins_with, graph_same}
use Rattle.sdf_actor.proofs.Fitting.{may_begin}
use Rattle.sdf_actor.proofs.net.Net.begun.Goals as goal

pub resumed_nodes-requires-clause-each : goal.resumed_nodes-requires-clause-each
resumed_nodes-requires-clause-each g c κs within = λ a h.
    let s = g.A.Actor.steps in
    let nodes : c.deref.result.now ≡ c.args.self.now.nodes = c.deref.ensures.value ∙ ap (λ v. v.nodes) c.self.view_is in
    let good = subst (IsNet s) c.self.view_is c.self.invariant.is_net in
    let fits = (g.met.A.Actor g.world.𝓛 g.world.𝓜 g.world.𝓡 ((λ s x. x), (λ x. x), (λ x. x), (λ x. x))).puts_fit in
    subst (λ v. MayBegin s (get_or c.deref-2.result.now a None) (get_or v a (Sink 0 0))) (sym nodes)
    (subst (λ v. MayBegin s (get_or v a None) (get_or c.args.self.now.nodes a (Sink 0 0))) (sym c.deref-2.ensures.value)
    (may_begin good c.requires.rest.2 c.requires.rest.3 fits a (subst (λ v. a < length v) nodes h)))

pub returns-in-Ok-clause-begins : goal.returns-in-Ok-clause-begins
returns-in-Ok-clause-begins g c =
    let s = g.A.Actor.steps in
    let r = resumed_steps g.A.Actor in
    let nodes = c.deref.ensures.value in
    let links = c.deref-3.ensures.value in
    let made = c.in_ok-nodes.nodes.items in
    let joined = c.in_ok-links.links.items in
    subst (λ m. IsResumedNet s r c.args.self.now c.args.rest.now m) (sym c.in-Ok.ensures.0)
    (subst (λ v. IsResumedNet s r v c.args.rest.now (netlist made joined))
    ((λ κ. netlist (nodes κ) (links κ)) ∙ c.self.view_is)
    (begins_with s r c.deref.result.now c.deref-3.result.now c.args.rest.now made joined c.in_ok-nodes.ensures.all
    (subst (λ v. (a : ℕ) → a < length c.deref.result.now →
    IsResumedNode s r (get_or v a None) (get_or c.deref.result.now a (Sink 0 0)) (get_or made a (Sink 0 0)))
    c.deref-2.ensures.value c.in_ok-nodes.ensures.each)
    c.in_ok-links.ensures.all
    (subst (λ v. (d : ℕ) → d < length c.deref-3.result.now →
    get_or (wires joined) d no_wire ≡ record {
      from = (get_or (wires c.deref-3.result.now) d no_wire).from;
      to = (get_or (wires c.deref-3.result.now) d no_wire).to;
      initial = get_or (lists v) d [];
    })
    c.deref-4.ensures.value c.in_ok-links.ensures.each)))

pub returns-in-Ok-clause-graph : goal.returns-in-Ok-clause-graph
returns-in-Ok-clause-graph g c =
    let s = g.A.Actor.steps in
    let good = subst (IsNet s) c.self.view_is c.self.invariant.is_net in
    graph_same good c.requires.rest.2.period c.requires.rest.3 (returns-in-Ok-clause-begins g c)
