use Rattle.std.proofs.Common.{◌≡◌, ℕ, Some, sym, ap, ◌∙◌, subst, arith}
use Rattle.sdf_prec.specs.Tables.{home_in}
use Rattle.sdf_rings.specs.Begun.{count_on_seat, AreNext}
use Rattle.sdf_rings.proofs.Lists.{vec_long, push_each}
use Rattle.sdf_rings.proofs.Dealing.{next_more}
use Rattle.sdf_rings.proofs.setup.places.places.Goals as goal

pub loop-actor-preserved : goal.loop-actor-preserved
loop-actor-preserved c =
    let xs = c.loop-actor.places.items in
    let p : ℕ × ℕ = (c.home-seat.result, c.count_on_seat-before.result) in
    record {
      len = omega (arith, c.in_ok-push.ensures.len, c.loop-actor.invariant.len);
      homes = push_each (λ k q. home_in c.args.table.now k ≡ Some q.0) xs c.push.new.self.items p c.loop-actor.actor
          c.in_ok-push.ensures.items (vec_long c.loop-actor.places ∙ c.loop-actor.invariant.len)
          c.loop-actor.invariant.homes c.home-seat.ensures;
      next = subst AreNext (sym c.in_ok-push.ensures.items)
          (next_more xs p c.loop-actor.invariant.next (c.count_on_seat-before.ensures
          ∙ ap (λ ys. count_on_seat ys c.home-seat.result) c.deref.ensures.value));
    }
