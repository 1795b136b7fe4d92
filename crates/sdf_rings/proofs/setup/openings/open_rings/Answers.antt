use Rattle.std.proofs.Common.{ℕ, length, slice_index, sym, ap, ◌∙◌, subst, arith}
use Rattle.sdf_actor.specs.Nets.{wiring}
use Rattle.sdf_rings.specs.Asks.{IsRoomOf}
use Rattle.sdf_rings.specs.Openings.{IsOpened}
use Rattle.sdf_rings.proofs.Lists.{vec_long}
use Rattle.sdf_rings.proofs.Openings.{room_enough, rings_more}
use Rattle.sdf_rings.proofs.setup.openings.open_rings.Goals as goal

pub open_ring-requires : goal.open_ring-requires
open_ring-requires g c =
    let n = c.args.net.now in
    let caps : ℕ → ℕ = slice_index c.args.table.now.caps in
    let enough = room_enough (wiring g.A.Actor.steps n).rates caps c.loop-c.c
    c.in_ok-room.room c.in_ok-room.ensures in
    let held = c.requires.held c.loop-c.c (omega arith) in
    let is = ap length (c.deref.ensures.value ∙ ap (λ w. w.initial) c.link.ensures.value) in
    omega arith

pub loop-c-preserved : goal.loop-c-preserved
loop-c-preserved g c =
    let s = g.A.Actor.steps in
    let n = c.args.net.now in
    let caps : ℕ → ℕ = slice_index c.args.table.now.caps in
    let i = c.loop-c.c in
    let ring = c.in_ok-ring.ring in
    let is = c.deref.ensures.value ∙ ap (λ w. w.initial) c.link.ensures.value in
    record {
      producers = omega (arith, c.in_ok-push.ensures.len, c.loop-c.invariant.producers);
      consumers = omega (arith, c.in_ok-push-2.ensures.len, c.loop-c.invariant.consumers);
      each = rings_more s n caps i c.loop-c.producers.items c.push.new.self.items
          c.loop-c.consumers.items c.push-in-loop-c.new.self.items ring.0 ring.1
          (vec_long c.loop-c.producers ∙ c.loop-c.invariant.producers)
          (vec_long c.loop-c.consumers ∙ c.loop-c.invariant.consumers) c.loop-c.invariant.each
          (subst (λ w. IsOpened ring.0 ring.1 w) is c.in_ok-ring.ensures.opened)
          (subst (IsRoomOf (wiring s n).rates caps i) (sym c.in_ok-ring.ensures.capacity)
          c.in_ok-room.ensures)
          c.in_ok-push.ensures.items c.in_ok-push-2.ensures.items;
    }

pub returns : goal.returns
returns g c = record {
  producers_all = omega (
    arith,
    vec_long c.loop-c.producers,
    c.loop-c.invariant.producers,
    c.loop-c-test.false,
    c.loop-c.auto.c-end,
  );
  consumers_all = omega (
    arith,
    vec_long c.loop-c.consumers,
    c.loop-c.invariant.consumers,
    c.loop-c-test.false,
    c.loop-c.auto.c-end,
  );
  each = λ k h. c.loop-c.invariant.each k (omega (arith, c.loop-c-test.false, h));
}
