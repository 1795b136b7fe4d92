use Rattle.std.proofs.Common.{◌≡◌, ◌++◌, map, length}
use Rattle.std.specs.Vec.Iter.{into_iter_items, into_iter_len}
use Rattle.sdf_document.specs.Links.{link_view}
use Rattle.sdf_actor.specs.Wires.{wires}
use Rattle.sdf_file.specs.Designs.{wire_of}
use Rattle.sdf_file.proofs.parts.links_of.Given as goal

abbrev pub invariant-loop-link : goal.invariant-loop-link
invariant-loop-link l = record {
  left : into_iter_len l.link-iterator ≡ length (into_iter_items l.link-iterator);
  links : wires l.made.items ++ map wire_of (map link_view (into_iter_items l.link-iterator)) ≡
      map wire_of (map link_view (into_iter_items l.initial.link-iterator));
}
