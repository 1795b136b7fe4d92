use Rattle.std.proofs.Common.{◌≡◌, ◌∙◌, ◌∷◌, map, length, true, sym, ap, arith}
use Rattle.std.specs.Vec.Iter.{into_iter_items}
use Rattle.std.proofs.lemmas.List.Elements.{All-tail}
use Rattle.sdf_document.specs.Actors.{ActorValue, actor_view, IsActorWithin}
use Rattle.sdf_file.specs.Designs.{node_of}
use Rattle.sdf_file.proofs.Moves.{moved_more, moved_all}
use Rattle.sdf_file.proofs.Whole.{few_lists, have_costs}
use Rattle.sdf_actor.specs.declared.sides.Lists.TheVariants.{Inputs, Outputs}
use Rattle.sdf_file.proofs.parts.parts_of.Goals as goal

pub loop-actor-preserved : goal.loop-actor-preserved
loop-actor-preserved c =
    let at = c.loop-actor in
    let x = c.in-Some.actor in
    let steps : into_iter_items at.actor-iterator ≡ x ∷ into_iter_items c.next.new.self = c.in-Some.ensures.steps.0 in
    let seen : map actor_view (into_iter_items at.actor-iterator) ≡
    actor_view x ∷ map actor_view (into_iter_items c.next.new.self) = ap (map actor_view) steps in
    record {
      left = let was = at.invariant.left in let gone = c.in-Some.ensures.steps.1 in let short = ap length steps in
          omega arith;
      within = All-tail (IsActorWithin true) x (into_iter_items c.next.new.self) (rw steps at at.invariant.within);
      nodes = moved_more (λ (a : ActorValue). node_of a.kind) _ _ _ _ _ (actor_view x) seen c.in_ok-push.ensures.nodes
          at.invariant.nodes;
      names = moved_more (λ (a : ActorValue). a.name) _ _ _ _ _ (actor_view x) seen c.in_ok-push.ensures.names
          at.invariant.names;
      homes = moved_more (λ (a : ActorValue). a.processor) _ _ _ _ _ (actor_view x) seen c.in_ok-push.ensures.homes
          at.invariant.homes;
      costs = moved_more (λ (a : ActorValue). a.cost) _ _ _ _ _ (actor_view x) seen c.in_ok-push.ensures.costs
          at.invariant.costs;
    }

pub returns-clause-inputs : goal.returns-clause-inputs
returns-clause-inputs c =
    let at = c.loop-actor in
    let made = moved_all actor_view (λ (a : ActorValue). node_of a.kind) at.parts.nodes.items _ _ c.args.actors.items
    (sym at.invariant.left ∙ c.in-None.ensures.steps.0) c.into_iter-actor-iterator.ensures.into_iter_gives.0
    at.invariant.nodes in
    rw made (few_lists Inputs c.args.actors.items c.requires.within)

pub returns-clause-outputs : goal.returns-clause-outputs
returns-clause-outputs c =
    let at = c.loop-actor in
    let made = moved_all actor_view (λ (a : ActorValue). node_of a.kind) at.parts.nodes.items _ _ c.args.actors.items
    (sym at.invariant.left ∙ c.in-None.ensures.steps.0) c.into_iter-actor-iterator.ensures.into_iter_gives.0
    at.invariant.nodes in
    rw made (few_lists Outputs c.args.actors.items c.requires.within)

pub returns-clause-priced : goal.returns-clause-priced
returns-clause-priced c =
    let at = c.loop-actor in
    let made = moved_all actor_view (λ (a : ActorValue). a.cost) at.parts.costs.items _ _ c.args.actors.items
    (sym at.invariant.left ∙ c.in-None.ensures.steps.0) c.into_iter-actor-iterator.ensures.into_iter_gives.0
    at.invariant.costs in
    rw made (have_costs c.args.actors.items c.requires.within)
