use Rattle.std.proofs.Common.{◌≡◌, length, ap, arith, sym, subst, ◌∙◌}
use Rattle.std.proofs.lemmas.List.{with_items_is}
use Rattle.sdf_actor.specs.Wires.{lists}
use Rattle.sdf_queues.specs.Feeds.{HasRun}
use Rattle.sdf_rings.specs.Places.{SameButEnds}
use Rattle.sdf_rings.specs.Rests.{RingsValue, HaveMet, IsPlaced, HoldNetState, AreGiven}
use Rattle.sdf_rings.specs.Asks.{IsPlanned}
use Rattle.sdf_rings.specs.Totals.{total_left}
use Rattle.sdf_actor.specs.Laws.{AreCountsOf}
use Rattle.sdf_rings.proofs.Ended.{run_given}
use Rattle.sdf_rings.proofs.Leaving.{placed_kept, given_kept}
use Rattle.sdf_rings.proofs.Rests.{are_at_rest}
use Rattle.sdf_rings.proofs.rings.Rings.leave.Goals as goal

pub collect-requires-clause-placed : goal.collect-requires-clause-placed
collect-requires-clause-placed g c κs within =
    let x = c.self.inside in
    let n = x.net.now in
    let l = c.leave.auto.seats in
    let m = c.deref_mut.ensures.len in
    let same = with_items_is x.seats c.leave.new.seats (omega arith) in
    let kept : SameButEnds x.seats.items c.leave.new.seats =
    subst (λ ss. SameButEnds ss c.leave.new.seats) c.deref_mut.ensures.value c.in_ok-rest.ensures.kept in
    let placed = placed_kept c.self.invariant.0.placed kept in
    subst (λ ps. IsPlaced n c.deref_mut-2.result.now ps) (sym c.deref-2.ensures.value)
    (subst (λ ss. IsPlaced n ss x.places.items) (sym (c.deref_mut-2.ensures.value ∙ same)) placed)

pub returns : goal.returns
returns g c = λ order cap k plan counts.
    let x = c.self.inside in
    let s = g.A.Actor.steps in
    let n = x.net.now in
    let l = c.leave.auto.seats in
    let m = c.deref_mut.ensures.len in
    let moved = with_items_is x.seats c.leave.new.seats (omega arith) in
    let kept : SameButEnds x.seats.items c.leave.new.seats =
    subst (λ ss. SameButEnds ss c.leave.new.seats) c.deref_mut.ensures.value c.in_ok-rest.ensures.kept in
    let held : HoldNetState n x.seats.items x.places.items c.in_ok-rest.rest =
    subst (λ ps. HoldNetState n x.seats.items ps c.in_ok-rest.rest) c.deref.ensures.value
    (subst (λ ss. HoldNetState n ss c.deref.result.now c.in_ok-rest.rest) c.deref_mut.ensures.value
    c.in_ok-rest.ensures.rest) in
    let many = c.collect.ensures.count in
    let long = c.deref_mut-3.ensures.len in
    let same = with_items_is x.outputs c.collect.new.outputs (omega arith) in
    let count = many ∙ (ap length c.deref_mut-3.ensures.value ∙ c.self.invariant.1) in
    let mine = subst (λ (v : RingsValue _ _ _). IsPlanned s v.net v.seats v.places order cap)
    (sym c.self.view_is) plan in
    let left = subst (λ (v : RingsValue _ _ _). total_left v.seats ≡ 0) (sym c.self.view_is) c.requires.left in
    let asked = subst (λ (v : RingsValue _ _ _). AreCountsOf v.net order k) (sym c.self.view_is) counts in
    let met = subst (λ (v : RingsValue _ _ _). HaveMet v.net v.seats v.places) (sym c.self.view_is) c.requires.met in
    let rest = are_at_rest c.self.invariant.0 met in
    let collected : AreGiven n c.leave.new.seats x.places.items (length n.nodes) c.collect.new.outputs =
    subst (λ ps. AreGiven n c.leave.new.seats ps (length n.nodes) c.collect.new.outputs) c.deref-2.ensures.value
    (subst (λ ss. AreGiven n ss c.deref-2.result.now (length n.nodes) c.collect.new.outputs)
    (c.deref_mut-2.ensures.value ∙ moved) c.collect.ensures.each) in
    let given = given_kept c.self.invariant.0.placed kept
    (length n.nodes) c.collect.new.outputs collected in
    let accepted = c.net_facts.ensures.accepted in
    rw same (subst (λ (v : RingsValue _ _ _). HasRun s v.net v.inputs k (lists c.collect.new.outputs)
    c.in_ok-rest.rest) c.self.view_is
    (run_given c.self.invariant.0 mine left rest accepted.1 asked c.collect.new.outputs count given held))
