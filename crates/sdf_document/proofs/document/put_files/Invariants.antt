use Rattle.std.proofs.Common.{◌≡◌, take, map}
use Rattle.std.specs.List.{filter_map}
use Rattle.sdf_document.specs.Actors.{actor_view}
use Rattle.sdf_document.specs.Document.{actor_file, first_seen}
use Rattle.sdf_document.specs.Names.{names_of}
use Rattle.sdf_document.proofs.document.put_files.Given as goal

abbrev pub invariant-loop-actor : goal.invariant-loop-actor
invariant-loop-actor l = names_of l.names.keys ≡ first_seen
    (filter_map actor_file (map actor_view (take l.actor-index l.actors)))
