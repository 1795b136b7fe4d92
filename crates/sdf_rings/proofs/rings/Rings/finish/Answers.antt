use Rattle.std.proofs.Common.{◌≡◌, ◌≤◌, length, ap, arith, sym, subst, ◌∙◌}
use Rattle.std.proofs.lemmas.List.{with_items_is}
use Rattle.sdf_actor.specs.Wires.{lists}
use Rattle.sdf_queues.specs.RunResults.{AreOutputs}
use Rattle.sdf_rings.specs.Changes.{AllBecame}
use Rattle.sdf_rings.specs.Rests.{RingsValue, AreRings, HaveMet, AreGiven}
use Rattle.sdf_rings.specs.Asks.{IsPlanned}
use Rattle.sdf_rings.specs.Seats.{HasIdled}
use Rattle.sdf_rings.specs.Totals.{total_left}
use Rattle.sdf_actor.specs.Laws.{AreCountsOf}
use Rattle.sdf_rings.proofs.Ended.{outputs_given}
use Rattle.sdf_rings.proofs.Planned.{planned_kept}
use Rattle.sdf_rings.proofs.Rests.{are_at_rest}
use Rattle.sdf_rings.proofs.RoundsFire.{idle_leaves}
use Rattle.sdf_rings.proofs.rings.Rings.finish.Goals as goal

pub returns : goal.returns
returns g c = λ order cap k plan counts.
    let x = c.self.inside in
    let s = g.A.Actor.steps in
    let n = x.net.now in
    let l = c.sync_all.auto.seats in
    let m = c.deref_mut.ensures.len in
    let v = c.deref_mut.ensures.value in
    let same = with_items_is x.seats c.sync_all.new.seats (omega arith) in
    let len : length c.sync_all.new.seats ≡ length x.seats.items = l ∙ ap length v in
    let idle : AllBecame (HasIdled s n) x.seats.items c.sync_all.new.seats = rw v at c.sync_all.ensures.idle in
    let rings : AreRings s (record {
      net = n;
      inputs = lists x.inputs.now;
      seats = c.sync_all.new.seats;
      places = x.places.items;
    }) = rw (← c.deref.ensures.value) c.sync_all.ensures.rings in
    let asked = subst (λ (v : RingsValue _ _ _). IsPlanned s v.net v.seats v.places order cap)
    (sym c.self.view_is) plan in
    let mine = planned_kept c.self.invariant.0 c.sync_all.new.seats len (λ j e h. (idle j e h).0) asked in
    let some = subst (λ (v : RingsValue _ _ _). total_left v.seats ≡ 0) (sym c.self.view_is) c.requires.left in
    let few : total_left c.sync_all.new.seats ≤ total_left x.seats.items =
    idle_leaves s n x.seats.items c.sync_all.new.seats len idle in
    let left : total_left c.sync_all.new.seats ≡ 0 = omega arith in
    let times = subst (λ (v : RingsValue _ _ _). AreCountsOf v.net order k) (sym c.self.view_is) counts in
    let met : HaveMet n c.sync_all.new.seats x.places.items = rw (← c.deref.ensures.value) c.sync_all.ensures.met in
    let rest = are_at_rest rings met in
    let given : AreGiven n c.sync_all.new.seats x.places.items (length n.nodes) c.collect.new.outputs =
    rw (← same, ← c.deref_mut-2.ensures.value, ← c.deref-2.ensures.value) c.collect.ensures.each in
    let made = c.collect.ensures.count in
    let room = c.deref_mut-3.ensures.len in
    let outputs = with_items_is x.outputs c.collect.new.outputs (omega arith) in
    let count = made ∙ (ap length c.deref_mut-3.ensures.value ∙ c.self.invariant.1) in
    let accepted = c.net_facts.ensures.accepted in
    rw outputs (subst (λ (v : RingsValue _ _ _). AreOutputs s v.net v.inputs k
    (lists c.collect.new.outputs)) c.self.view_is
    (outputs_given rings mine left rest accepted.1 times c.collect.new.outputs count given))
