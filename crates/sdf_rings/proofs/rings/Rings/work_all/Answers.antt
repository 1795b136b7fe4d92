use Rattle.std.proofs.Common.{◌≡◌, ◌<◌, length, ap, arith, sym, subst, ◌∙◌}
use Rattle.std.proofs.lemmas.List.{with_items_is}
use Rattle.sdf_actor.specs.Wires.{lists}
use Rattle.sdf_rings.proofs.Placed.{rings_all}
use Rattle.sdf_rings.specs.Rests.{RingsValue, HaveMet}
use Rattle.sdf_rings.specs.Laws.{AreLeft}
use Rattle.sdf_rings.specs.Totals.{total_left}
use Rattle.sdf_rings.specs.Asks.{IsPlanned}
use Rattle.sdf_rings.proofs.Planned.{planned_kept}
use Rattle.sdf_rings.proofs.RoundsFire.{rounds_fire}
use Rattle.sdf_rings.proofs.rings.Rings.work_all.Goals as goal

pub invariant_of-self : goal.invariant_of-self
invariant_of-self g c =
    let x = c.self.inside in
    let l = c.run_round.auto.seats in
    let m = c.deref_mut.ensures.len in
    let v = c.deref_mut.ensures.value in
    let same = with_items_is x.seats c.run_round.new.seats (omega arith) in
    let len : length c.run_round.new.seats ≡ length x.seats.items = l ∙ ap length v in
    let rounded = rw v at c.run_round.ensures in
    let rings = rings_all c.self.invariant.0 c.run_round.new.seats len (λ j e h. (rounded j e h).seat)
    (λ j e h. (rounded j e h).worked) in
    (rw same rings, c.self.invariant.1)

pub returns-clause-rounded : goal.returns-clause-rounded
returns-clause-rounded g c =
    let l = c.run_round.auto.seats in
    let m = c.deref_mut.ensures.len in
    let same = with_items_is c.self.inside.seats c.run_round.new.seats (omega arith) in
    rw (same, ← c.self.view_is, ← c.deref_mut.ensures.value) c.run_round.ensures

pub returns-clause-planned : goal.returns-clause-planned
returns-clause-planned g c = λ order cap plan.
    let x = c.self.inside in
    let s = g.A.Actor.steps in
    let l = c.run_round.auto.seats in
    let m = c.deref_mut.ensures.len in
    let v = c.deref_mut.ensures.value in
    let same = with_items_is x.seats c.run_round.new.seats (omega arith) in
    let len : length c.run_round.new.seats ≡ length x.seats.items = l ∙ ap length v in
    let mine = subst (λ (v : RingsValue _ _ _). IsPlanned s v.net v.seats v.places order cap)
    (sym c.self.view_is) plan in
    let rounded = rw v at c.run_round.ensures in
    rw same (planned_kept c.self.invariant.0 c.run_round.new.seats len (λ j e h. (rounded j e h).worked) mine)

pub returns-clause-fires : goal.returns-clause-fires
returns-clause-fires g c = λ met order cap plan some.
    let x = c.self.inside in
    let s = g.A.Actor.steps in
    let l = c.run_round.auto.seats in
    let m = c.deref_mut.ensures.len in
    let v = c.deref_mut.ensures.value in
    let same = with_items_is x.seats c.run_round.new.seats (omega arith) in
    let len : length c.run_round.new.seats ≡ length x.seats.items = l ∙ ap length v in
    let old : RingsValue _ _ _ = record {
      net = x.net.now;
      inputs = lists x.inputs.now;
      seats = x.seats.items;
      places = x.places.items;
    } in
    let left : AreLeft s old order cap = record {
      rings = c.self.invariant.0;
      met = subst (λ (v : RingsValue _ _ _). HaveMet v.net v.seats v.places) (sym c.self.view_is) met;
      planned = subst (λ (v : RingsValue _ _ _). IsPlanned s v.net v.seats v.places order cap)
          (sym c.self.view_is) plan;
      some = subst (λ (v : RingsValue _ _ _). 0 < total_left v.seats) (sym c.self.view_is) some;
    } in
    let rounded = rw v at c.run_round.ensures in
    rw (same, ← c.self.view_is) (rounds_fire s old order cap c.run_round.new.seats left len
    (λ i e h. let w = rounded i e h in record { worked = w.worked; progress = w.progress }))

pub run_round-requires-clause-net : goal.run_round-requires-clause-net
run_round-requires-clause-net g c κs within = c.self.invariant.0.is_net
