use Rattle.std.proofs.Common.{◌++◌, ◌∷◌, [], map, take, sym, ap, ◌∙◌, arith}
use Rattle.std.proofs.lemmas.List.{map_more, map-append}
use Rattle.sdf_actor.specs.Nets.{Wire, no_wire}
use Rattle.sdf_actor.specs.Wires.{lists, wires}
use Rattle.sdf_actor.proofs.Readings.{wire_read, length-wires}
use Rattle.sdf_actor.proofs.resumed_nets.initial_samples.Goals as goal

pub loop-link-preserved : goal.loop-link-preserved
loop-link-preserved g c =
    let low = c.loop-link-test.true in
    let many = length-wires c.args.links.now in
    let begins = λ (w : Wire g.row.T.Denot). w.initial in
    let read = wire_read c.args.links.now c.loop-link.link-index c.link-item.result low c.link-item.is in
    let copied = c.in_ok-from_slice.ensures.items ∙ (c.deref.ensures.value ∙ sym (ap begins read)) in
    ap lists c.in_ok-push.ensures.items ∙
    (map-append (λ v. v.items) c.loop-link.held.items (c.in_ok-from_slice.field-0 ∷ []) ∙
    (ap (λ xs. xs ++ c.in_ok-from_slice.field-0.items ∷ []) c.loop-link.invariant ∙
    (ap (λ x. map begins (take c.loop-link.link-index (wires c.args.links.now)) ++ x ∷ []) copied ∙
    sym (map_more begins (wires c.args.links.now) c.loop-link.link-index no_wire (omega arith)))))
