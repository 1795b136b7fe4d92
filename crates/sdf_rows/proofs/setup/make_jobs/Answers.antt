use Rattle.std.proofs.Common.{◌≡◌, ◌∙◌, arith}
use Rattle.sdf_rows.specs.Setup.{HasPlaces}
use Rattle.sdf_rows.proofs.Readings.{vec_long, push_each}
use Rattle.sdf_rows.proofs.setup.make_jobs.Goals as goal

pub loop-preserved : goal.loop-preserved
loop-preserved g c = record {
  len = omega (arith, c.in_ok-push.ensures.len, c.loop.invariant.len);
  each = push_each (λ k j. HasPlaces g.A.Actor.steps c.args.net.now j) c.loop.jobs.items c.push.new.self.items
      c.in_ok-make_job.field-0 c.loop.counter
      c.in_ok-push.ensures.items (vec_long c.loop.jobs ∙ c.loop.invariant.len) c.loop.invariant.each
      c.in_ok-make_job.ensures;
}

pub returns : goal.returns
returns g c =
    let e : c.loop.counter ≡ c.args.width = omega (arith, c.loop-test.false, c.loop.auto.counter-end) in (
      c.loop.invariant.len ∙ e,
      λ i d h. c.loop.invariant.each i d (omega (arith, vec_long c.loop.jobs, c.loop.invariant.len, h)),
    )
