use Rattle.std.proofs.Common.{◌≡◌, map, drop}
use Rattle.toml.specs.View.{items_view}
use Rattle.sdf_document.specs.Names.{names_of}
use Rattle.sdf_document.specs.Links.{link_view}
use Rattle.sdf_document.specs.Document.{each_from, link_after, links_in}
use Rattle.sdf_document.proofs.document.links_in.Given as goal

abbrev pub invariant-loop-number : goal.invariant-loop-number
invariant-loop-number l =
    each_from (link_after (names_of l.names.keys)) l.number (map link_view l.links.items)
    (items_view (drop l.number l.items)) ≡ links_in (names_of l.names.keys) (items_view l.items)
