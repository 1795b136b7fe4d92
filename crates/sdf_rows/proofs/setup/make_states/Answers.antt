use Rattle.std.proofs.Common.{arith, subst, ◌∙◌}
use Rattle.sdf_actor.specs.Nets.{node}
use Rattle.sdf_rows.specs.Setup.{IsUnfired}
use Rattle.sdf_rows.proofs.Readings.{vec_long, push_each}
use Rattle.sdf_rows.proofs.setup.make_states.Goals as goal

pub loop-a-preserved : goal.loop-a-preserved
loop-a-preserved g c = record {
  len = omega (arith, c.in_ok-push.ensures.len);
  each = push_each (λ k w. IsUnfired g.A.Actor.steps c.args.room (node c.args.net.now k) w) c.loop-a.states.items
      c.push.new.self.items c.in_ok-begin.field-0 c.loop-a.a
      c.in_ok-push.ensures.items (vec_long c.loop-a.states ∙ c.loop-a.invariant.len) c.loop-a.invariant.each
      (subst (λ x. IsUnfired g.A.Actor.steps c.args.room x c.in_ok-begin.field-0) c.node.ensures.value
      c.in_ok-begin.ensures);
}
