use Rattle.std.proofs.Common.{◌≡◌, ◌<◌, ◌⊎◌, length, get_or-set_same, ap, sym, ◌∙◌, subst}
use Rattle.std.proofs.Common.{arith}
use Rattle.std.specs.List.{HoldsAt}
use Rattle.std.proofs.lemmas.List.{get_or_default}
use Rattle.sdf_rings.specs.declared.seat.Seat.{Seat}
use Rattle.sdf_rings.specs.Seats.{CanFireFirst}
use Rattle.sdf_rings.specs.Rests.{RingsValue}
use Rattle.sdf_rings.proofs.Hands.{one_worked, rings_worked}
use Rattle.sdf_rings.specs.Asks.{IsPlanned}
use Rattle.sdf_rings.proofs.Planned.{planned_kept}
use Rattle.std.proofs.Math.ListN.{length-set}
use Rattle.sdf_rings.proofs.rings.Rings.work_one.Goals as goal

pub invariant_of-self : goal.invariant_of-self
invariant_of-self g c =
    let l = ap (λ (v : RingsValue _ _ _). length v.seats) c.self.view_is in
    let inside : c.args.seat < length c.self.inside.seats.items = omega (arith, l, c.requires) in (
      rings_worked c.self.invariant.0 inside c.index_mut.ensures.value c.work.ensures.worked c.work.ensures.seat,
      c.self.invariant.1,
    )

pub returns-clause-stopped : goal.returns-clause-stopped
returns-clause-stopped g c = λ e.
    let l = ap (λ (v : RingsValue _ _ _). length v.seats) c.self.view_is in
    let items = c.self.inside.seats.items in
    let inside : c.args.seat < length items = omega (arith, l, c.requires) in
    subst (λ (z : Seat _ _ _). (z.next ≡ length z.left) ⊎ (CanFireFirst g.A.Actor.steps c.self.inside.net.now z → ⊥))
    (sym (get_or-set_same items c.args.seat c.work.new.seat e inside)) c.work.ensures.stopped

pub returns-clause-progress : goal.returns-clause-progress
returns-clause-progress g c =
    let l = ap (λ (v : RingsValue _ _ _). length v.seats) c.self.view_is in
    let items = c.self.inside.seats.items in
    let inside : c.args.seat < length items = omega (arith, l, c.requires) in
    subst (λ (v : RingsValue _ _ _). HoldsAt (λ (z : Seat _ _ _). z.next < length z.left →
    CanFireFirst g.A.Actor.steps v.net z → 0 < c.work.result) v.seats c.args.seat) c.self.view_is
    (λ e. subst (λ (z : Seat _ _ _). z.next < length z.left → CanFireFirst g.A.Actor.steps c.self.inside.net.now z →
    0 < c.work.result)
    (c.index_mut.ensures.value ∙ get_or_default items c.args.seat c.index_mut.result.now e inside)
    c.work.ensures.progress)

pub returns-clause-planned : goal.returns-clause-planned
returns-clause-planned g c = λ order cap plan.
    let l = ap (λ (v : RingsValue _ _ _). length v.seats) c.self.view_is in
    let x = c.self.inside in
    let s = g.A.Actor.steps in
    let inside : c.args.seat < length x.seats.items = omega (arith, l, c.requires) in
    let mine = subst (λ (v : RingsValue _ _ _). IsPlanned s v.net v.seats v.places order cap)
    (sym c.self.view_is) plan in
    planned_kept c.self.invariant.0 _
    (length-set x.seats.items c.args.seat c.work.new.seat)
    (one_worked c.self.invariant.0 inside c.index_mut.ensures.value c.work.ensures.worked) mine
