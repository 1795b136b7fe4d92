use Rattle.std.proofs.Common.{◌≡◌, ◌++◌, ◌∷◌, [], ◌<◌, List, length, arith, sym, ap, ◌∙◌, subst, refl}
use Rattle.std.proofs.lemmas.List.{map-append, length-map}
use Rattle.rtrb.specs.Ring.{known_items}
use Rattle.sdf_actor.specs.Nets.{wire}
use Rattle.sdf_actor.specs.Wires.{lists}
use Rattle.sdf_rings.specs.Places.{TakesAt, IsDrained, consumer_at}
use Rattle.sdf_rings.specs.Rests.{ring_end_of, consumer_of}
use Rattle.sdf_rings.proofs.Leaving.{same_none, same_join, takes_at, others_kept}
use Rattle.sdf_rings.proofs.Lists.{push_each, vec_long}
use Rattle.sdf_rings.proofs.rings.leave.drain_all.Goals as goal

pub loop-c-init : goal.loop-c-init
loop-c-init g c = record {
  all = omega (arith, vec_long c.in_ok-held.held, c.in_ok-held.ensures.len);
  each = λ k z e d x h. absurd (omega (arith, h));
  ahead = λ k e d x h l. refl;
  kept = same_none c.args.seats.now;
}

pub drain_at-requires-clause-there : goal.drain_at-requires-clause-there
drain_at-requires-clause-there g c κs within =
    let n = c.args.net.now in
    let places = c.args.places.now in
    let known : c.loop-c.c < length n.wires = omega (arith, c.loop-c-test.true, c.channels-c-end.ensures) in
    let at = c.end_at-at.ensures ∙ ap (λ w. ring_end_of places w.to) c.link.ensures.value in
    subst (λ q. TakesAt c.loop-c.seats q) (sym at)
    (takes_at c.requires.rings.1 c.loop-c.invariant.kept known)

pub loop-c-preserved : goal.loop-c-preserved
loop-c-preserved g c =
    let n = c.args.net.now in
    let seats = c.args.seats.now in
    let places = c.args.places.now in
    let m = c.loop-c.c in
    let known : m < length n.wires = omega (arith, c.loop-c-test.true, c.channels-c-end.ensures) in
    let at = c.end_at-at.ensures ∙ ap (λ w. ring_end_of places w.to) c.link.ensures.value in
    let new = c.drain_at.new.seats in
    let gone : IsDrained c.loop-c.seats new (ring_end_of places (wire n m).to) =
    subst (λ q. IsDrained c.loop-c.seats new q) at c.in_ok-drain_at.ensures.kept in
    let was = c.loop-c.invariant in
    let got = c.in_ok-drain_at.field-0 in
    let items : lists c.push.new.self.items ≡ lists c.loop-c.held.items ++ got.items ∷ [] =
    ap lists c.in_ok-push.ensures.items ∙ map-append (λ v. v.items) c.loop-c.held.items (got ∷ []) in
    record {
      all = omega (arith, c.in_ok-push.ensures.len, vec_long c.loop-c.held, vec_long c.push.new.self, was.all);
      each = λ k z e d x h. push_each (λ j (y : List _). y ≡ known_items (consumer_of n seats places e d x j))
          (lists c.loop-c.held.items) (lists c.push.new.self.items) got.items m items
          (length-map c.loop-c.held.items (λ v. v.items) ∙ was.all) (λ j w l. was.each j w e d x l)
          (c.in_ok-drain_at.ensures.items e d x ∙ ap (λ q. known_items (consumer_at c.loop-c.seats q e d x)) at
          ∙ ap known_items (was.ahead m e d x (omega arith) known)) k z h;
      ahead = λ k e d x h l. others_kept c.requires.rings.1 was.kept known gone e d x (omega (arith, h)) l
          ∙ was.ahead k e d x (omega (arith, h)) l;
      kept = same_join seats c.loop-c.seats new was.kept gone.but_ends;
    }
