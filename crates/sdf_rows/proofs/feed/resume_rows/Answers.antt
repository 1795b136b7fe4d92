use Rattle.std.proofs.Common.{◌*◌, Result, Ok, Err, sym, subst}
use Rattle.std.specs.Prelude.{MatchResult}
use Rattle.sdf_graph.specs.Rates.{rates}
use Rattle.sdf_actor.specs.Wires.{lists}
use Rattle.sdf_queues.specs.RunResults.{periods_of}
use Rattle.sdf_prec.specs.BlockTables.{IsBlockTableOf}
use Rattle.sdf_queues.proofs.Theorems.{begun_runs_fail, begun_runs_go_on, periods_may_leave}
use Rattle.sdf_rows.proofs.feed.resume_rows.Goals as goal

pub begun-requires-clause-rest : goal.begun-requires-clause-rest
begun-requires-clause-rest g c κs within =
    let q = c.args.plan.now.table.now.period.repetitions in (
      c.requires.rest.0,
      periods_of q c.requires.rest.1,
      periods_may_leave g.A.Actor.steps c.args.net.now c.args.plan.now.table.now.period c.requires.rest.1
          (c.nets_have_periods.ensures c.args.plan.now.table.now.period c.requires.fits.period),
      c.requires.rest.2,
    )

pub feed_rows-requires-clause-fits : goal.feed_rows-requires-clause-fits
feed_rows-requires-clause-fits g c κs within =
    subst (λ x. IsBlockTableOf (rates x) c.args.plan.now.table.now) (sym c.in_ok-begun.ensures.graph) c.requires.fits

-- what holds of a result's parts
matched : {X E : Type 0} (P Q : X → Type 0) (F G : E → Type 0) → ((x : X) → P x → Q x) → ((e : E) → F e → G e) →
    (r : Result X E) → MatchResult r P F → MatchResult r Q G
matched P Q F G ok err (Ok x) h = ok x h
matched P Q F G ok err (Err e) h = err e h

pub returns : goal.returns
returns g c =
    let n = c.args.net.now in
    let m = c.in_ok-begun.begun in
    let more = c.args.plan.now.blocks * c.args.plan.now.table.now.blocking in
    let later = lists c.args.inputs.now in
    let begins = c.in_ok-begun.ensures.begins in
    matched _ _ _ _
    (λ fed made. (
      begun_runs_go_on g.A.Actor.steps _ n m c.args.plan.now.table.now.period more later (lists fed.0.outputs.items)
          c.args.rest.now fed.1
          (c.nets_have_periods.ensures c.args.plan.now.table.now.period c.requires.fits.period) begins made.0 made.1,
      made.2,
    ))
    (λ fault. begun_runs_fail g.A.Actor.steps _ n c.args.rest.now m c.args.plan.now.table.now.period.repetitions more
    later fault begins)
    c.feed_rows.result c.feed_rows.ensures
