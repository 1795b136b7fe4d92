-- The diagnostic for the actors at the ends of a link: their numbers of ports.
use Rattle.std.specs.Prelude.{ℕ, ◌==◌, ◌-◌, List, ◌++◌, codes, slice_get, if◌then◌else◌}
use Rattle.sdf_actor.specs.Nets.{inputs_of, outputs_of}
use Rattle.sdf_kit.specs.Kit.{kit_steps}
use Rattle.sdf_document.specs.Actors.{ActorValue}
use Rattle.sdf_document.specs.Links.{LinkValue}
use Rattle.sdf_document.specs.Document.{DocumentValue}
use Rattle.sdf_file.specs.Designs.{node_of}
use Rattle.sdf_why.specs.Words.{end, quoted, numbered}
use Rattle.sdf_why.specs.Actors.{lines_of}

-- the ports on a side, by their numbers, with the noun for one
unfoldable pub side_text : ℕ → List ℕ → List ℕ
side_text n word = if n == 0 then codes "no " ++ word else numbered word 0 (n - 1)

unfoldable pub sides_text : ℕ → ℕ → List ℕ
sides_text inputs outputs = side_text inputs (codes "input") ++ codes ", " ++ side_text outputs (codes "output")

unfoldable pub ports_line : List ℕ → ℕ → ℕ → List ℕ
ports_line name inputs outputs = codes "  " ++ quoted name ++ codes " has " ++ sides_text inputs outputs ++ end

-- the line with the ports of an actor, by its kind
abbrev pub ports_are : ActorValue → List ℕ
ports_are a = ports_line a.name (inputs_of kit_steps (node_of a.kind)) (outputs_of kit_steps (node_of a.kind))

-- the line with the ports of actor a
unfoldable pub actor_ports : List ActorValue → ℕ → List ℕ
actor_ports actors a = lines_of ports_are (slice_get actors a)

-- the ports of the source and of the target of a link
abbrev pub link_ports : List ActorValue → LinkValue → List ℕ
link_ports actors l = actor_ports actors l.from.0 ++ actor_ports actors l.to.0

-- the ports of the source and of the target of link c of a document, or nothing if there is no link c
unfoldable pub ports_told : DocumentValue → ℕ → List ℕ
ports_told d c = lines_of (link_ports d.actors) (slice_get d.links c)
