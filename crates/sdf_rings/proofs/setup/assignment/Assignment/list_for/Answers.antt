use Rattle.std.proofs.Common.{◌∙◌, ap}
use Rattle.sdf_graph.specs.Sequences.{repeated}
use Rattle.sdf_rings.proofs.Dealing.{dealt_all}
use Rattle.sdf_rings.proofs.Lists.{ok_then}
use Rattle.sdf_rings.proofs.setup.assignment.Assignment.list_for.Goals as goal

pub returns : goal.returns
returns c =
    let d = c.args.self.now in
    ok_then c.new.result _ _ c.new.ensures (λ left is. is
    ∙ (ap (repeated d.blocks) c.in_ok-block.ensures ∙ dealt_all d.places.now c.args.seat d.order.now d.blocks))
