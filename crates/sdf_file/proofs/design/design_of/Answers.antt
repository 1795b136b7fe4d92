use Rattle.std.proofs.Common.{◌≡◌, map}
use Rattle.std.proofs.lemmas.Result.{err_from_is_err_and}
use Rattle.sdf_document.specs.Actors.{ActorValue, actor_view}
use Rattle.sdf_document.specs.Links.{link_view}
use Rattle.sdf_actor.specs.Wires.{wires, netlist}
use Rattle.sdf_actor.specs.NetFaults.{IsNetFault}
use Rattle.sdf_kit.specs.Kit.{kit_steps}
use Rattle.sdf_file.specs.Designs.{node_of, wire_of}
use Rattle.sdf_file.proofs.Whole.{made_fault}
use Rattle.sdf_file.proofs.design.design_of.Goals as goal

pub returns-in_err-net : goal.returns-in_err-net
returns-in_err-net c =
    let p = err_from_is_err_and c.from_residual-in_err-net.result c.from_residual-in_err-net.ensures.1 in
    let nodes : c.in_ok-parts.parts.nodes.items ≡ map (λ (a : ActorValue). node_of a.kind)
    (map actor_view c.args.document.actors.items) = c.in_ok-parts.ensures.nodes in
    let links : wires c.in_ok-links.links.items ≡ map wire_of (map link_view c.args.document.links.items) =
    c.in_ok-links.ensures in
    let fault : IsNetFault kit_steps (netlist c.in_ok-parts.parts.nodes.items c.in_ok-links.links.items)
    c.in_err-net.field-0.0 = c.in_err-net.ensures in
    rw (p.1, p.2) (made_fault _ _ (rw (nodes, links) at fault))
