use Rattle.std.proofs.Common.{arith, ◌∙◌}
use Rattle.sdf_actor.specs.Nets.{node}
use Rattle.sdf_one.specs.Runs.{BeginsWork}
use Rattle.sdf_one.proofs.Readings.{vec_long, push_each}
use Rattle.sdf_one.proofs.setup.make_works.Goals as goal

pub loop-a-preserved : goal.loop-a-preserved
loop-a-preserved g c = record {
  len = omega (arith, c.in_ok-push.ensures.len);
  each = push_each (λ k w. BeginsWork g.A.Actor.steps (node c.args.net.now k) w) c.loop-a.works.items
      c.push.new.self.items c.in_ok-make_work.field-0 c.loop-a.a
      c.in_ok-push.ensures.items (vec_long c.loop-a.works ∙ c.loop-a.invariant.len) c.loop-a.invariant.each
      c.in_ok-make_work.ensures;
}
