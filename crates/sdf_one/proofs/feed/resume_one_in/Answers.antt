use Rattle.std.proofs.Common.{Result, Ok, Err, sym, subst}
use Rattle.std.specs.Prelude.{MatchResult}
use Rattle.sdf_graph.specs.Rates.{rates}
use Rattle.sdf_sched.specs.Period.{IsPeriodOf}
use Rattle.sdf_actor.specs.Wires.{lists}
use Rattle.sdf_queues.specs.RunResults.{periods_of}
use Rattle.sdf_queues.proofs.Theorems.{begun_runs_fail, begun_runs_go_on, periods_may_leave}
use Rattle.sdf_one.proofs.feed.resume_one_in.Goals as goal

pub begun-requires-clause-rest : goal.begun-requires-clause-rest
begun-requires-clause-rest g c κs within =
    let q = c.args.run_inputs.period.now.repetitions in (
      c.requires.rest.0,
      periods_of q c.requires.rest.1,
      periods_may_leave g.A.Actor.steps c.args.run_inputs.net.now c.args.run_inputs.period.now c.requires.rest.1
          (c.nets_have_periods.ensures c.args.run_inputs.period.now c.requires.period),
      c.requires.rest.2,
    )

pub feed_one_in-requires-clause-period : goal.feed_one_in-requires-clause-period
feed_one_in-requires-clause-period g c κs within = subst (λ x. IsPeriodOf (rates x) c.args.run_inputs.period.now)
    (sym c.in_ok-begun.ensures.graph) c.requires.period

-- what holds of a result's parts
matched : {X E : Type 0} (P Q : X → Type 0) (F G : E → Type 0) → ((x : X) → P x → Q x) → ((e : E) → F e → G e) →
    (r : Result X E) → MatchResult r P F → MatchResult r Q G
matched P Q F G ok err (Ok x) h = ok x h
matched P Q F G ok err (Err e) h = err e h

pub returns : goal.returns
returns g c =
    let n = c.args.run_inputs.net.now in
    let m = c.in_ok-begun.begun in
    let p = c.args.run_inputs.period.now in
    let many = c.args.run_inputs.periods in
    let later = lists c.args.run_inputs.inputs.now in
    let begins = c.in_ok-begun.ensures.begins in
    matched _ _ _ _
    (λ fed made. (
      begun_runs_go_on g.A.Actor.steps _ n m p many later (lists fed.0.outputs.items)
          c.args.rest.now fed.1 (c.nets_have_periods.ensures p c.requires.period) begins made.0 made.1,
      made.2,
    ))
    (λ fault. begun_runs_fail g.A.Actor.steps _ n c.args.rest.now m p.repetitions many later fault begins)
    c.feed_one_in.result c.feed_one_in.ensures
