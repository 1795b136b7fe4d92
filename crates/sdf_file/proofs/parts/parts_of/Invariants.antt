use Rattle.std.proofs.Common.{◌≡◌, ◌++◌, map, length, true}
use Rattle.std.specs.List.{All}
use Rattle.std.specs.Vec.Iter.{into_iter_items, into_iter_len}
use Rattle.sdf_document.specs.Actors.{ActorValue, actor_view, names_in, IsActorWithin}
use Rattle.sdf_document.specs.Names.{names_of}
use Rattle.sdf_file.specs.Designs.{node_of}
use Rattle.sdf_file.proofs.parts.parts_of.Given as goal

abbrev pub invariant-loop-actor : goal.invariant-loop-actor
invariant-loop-actor l = record {
  left : into_iter_len l.actor-iterator ≡ length (into_iter_items l.actor-iterator);
  within : All (IsActorWithin true) (into_iter_items l.actor-iterator);
  nodes : l.parts.nodes.items ++ map (λ (a : ActorValue). node_of a.kind)
      (map actor_view (into_iter_items l.actor-iterator)) ≡
      map (λ (a : ActorValue). node_of a.kind) (map actor_view (into_iter_items l.initial.actor-iterator));
  names : names_of l.parts.names.items ++ names_in (map actor_view (into_iter_items l.actor-iterator)) ≡
      names_in (map actor_view (into_iter_items l.initial.actor-iterator));
  homes : l.parts.homes.items ++ map (λ (a : ActorValue). a.processor)
      (map actor_view (into_iter_items l.actor-iterator)) ≡
      map (λ (a : ActorValue). a.processor) (map actor_view (into_iter_items l.initial.actor-iterator));
  costs : l.parts.costs.items ++ map (λ (a : ActorValue). a.cost) (map actor_view (into_iter_items l.actor-iterator)) ≡
      map (λ (a : ActorValue). a.cost) (map actor_view (into_iter_items l.initial.actor-iterator));
}
