use Rattle.std.proofs.Common.{◌<◌, refl, ap, ◌∙◌, subst, arith, length}
use Rattle.sdf_actor.specs.Nets.{wire}
use Rattle.sdf_rings.specs.Places.{HasSynced}
use Rattle.sdf_rings.specs.Rests.{ring_end_of}
use Rattle.sdf_rings.proofs.Rounds.{worked_none, worked_join}
use Rattle.sdf_rings.proofs.Syncing.{synced_worked, rings_synced, met_synced}
use Rattle.sdf_rings.proofs.rings.meet.sync_all.Goals as goal

pub loop-c-init : goal.loop-c-init
loop-c-init g c = record {
  rings = c.requires.rings;
  met = λ k e d x y h. absurd (omega arith);
  idle = λ i e h. (
    worked_none (c.requires.rings.each i e h).next_fits,
    refl,
  );
}

pub loop-c-preserved : goal.loop-c-preserved
loop-c-preserved g c =
    let n = c.args.net.now in
    let places = c.args.places.now in
    let m = c.loop-c.c in
    let old = c.loop-c.seats in
    let new = c.sync_at.new.seats in
    let known : m < length n.wires = omega arith in
    let from = c.end_at-from.ensures ∙ ap (λ w. ring_end_of places w.from) c.link-link.ensures.value in
    let to = c.end_at-to.ensures ∙ ap (λ w. ring_end_of places w.to) c.link-link.ensures.value in
    let t : HasSynced old new (ring_end_of places (wire n m).from) (ring_end_of places (wire n m).to) =
    subst (λ f. HasSynced old new f (ring_end_of places (wire n m).to)) from
    (subst (λ f. HasSynced old new c.end_at-from.result f) to c.sync_at.ensures) in
    record {
      rings = rings_synced c.loop-c.invariant.rings known t;
      met = λ k e d x y h. met_synced c.loop-c.invariant.rings known t k e d x y (omega arith)
          (c.loop-c.invariant.met k e d x y);
      idle = λ i e h.
          let was = c.loop-c.invariant.idle i e h in
          let inside : i < length old = let l = c.loop-c.auto.seats in omega arith in (
            worked_join was.0
                (synced_worked g.A.Actor.steps n t
                i e (c.loop-c.invariant.rings.each i e inside).next_fits),
            (t.synced_seats i e).next_same ∙ was.1,
          );
    }
