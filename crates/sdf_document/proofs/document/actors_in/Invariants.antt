use Rattle.std.proofs.Common.{◌≡◌, map, drop}
use Rattle.std.specs.List.{All}
use Rattle.toml.specs.View.{items_view}
use Rattle.sdf_document.specs.Names.{names_of}
use Rattle.sdf_document.specs.Actors.{actor_view, names_in, IsActorWithin}
use Rattle.sdf_document.specs.Lists.{lookup_of, are_read}
use Rattle.sdf_document.specs.Document.{each_from, actor_after, actors_in, AreDistinct}
use Rattle.sdf_document.proofs.document.actors_in.Given as goal

abbrev pub invariant-loop-number : goal.invariant-loop-number
invariant-loop-number l = record {
  given : each_from (actor_after l.format (lookup_of l.files)) l.number (map actor_view l.actors.items)
      (items_view (drop l.number l.items)) ≡ actors_in l.format (lookup_of l.files) (items_view l.items);
  named : names_of l.names.keys ≡ names_in (map actor_view l.actors.items);
  distinct : AreDistinct (names_in (map actor_view l.actors.items));
  within : All (IsActorWithin (are_read l.files)) l.actors.items;
}
