use Rattle.std.proofs.Common.{◌+◌, get_or, sym, ap, ◌∙◌, subst, arith}
use Rattle.std.specs.List.{All}
use Rattle.std.proofs.lemmas.List.{length-map}
use Rattle.sdf_graph.specs.Sequences.{times}
use Rattle.sdf_actor.specs.Wires.{lists}
use Rattle.sdf_rows.specs.Jobs.{JobFits, HaveFired}
use Rattle.sdf_rows.proofs.Fills.{all_fit, same_actors, all_back_here, fired_keep, row_over}
use Rattle.sdf_rows.proofs.Keeps.{keep_twice}
use Rattle.sdf_rows.proofs.row_state.fire_row.Goals as goal
use Rattle.sdf_rows.proofs.row_state.fire_row.Goals.{After-fire_jobs}

-- each job has fired on the samples that stood on the channels
fired : (g : Rattle.sdf_rows.proofs.row_state.fire_row.Given.Over) (c : After-fire_jobs g) →
    HaveFired g.A.Actor.steps c.args.scene.now.net.now (lists c.args.scene.now.inputs.now) c.args.scene.now.sizes
    c.args.run_state.now.queues.items c.args.jobs.now c.fire_jobs.new.jobs
fired g c = subst (λ qs. HaveFired g.A.Actor.steps c.args.scene.now.net.now (lists c.args.scene.now.inputs.now)
    c.args.scene.now.sizes qs c.args.jobs.now c.fire_jobs.new.jobs) c.deref.ensures.value c.fire_jobs.ensures

pub fire_jobs-requires-after_bounds : goal.fire_jobs-requires-after_bounds
fire_jobs-requires-after_bounds g c = λ κs within.
    subst (λ qs. All (JobFits g.A.Actor.steps c.args.scene.now.net.now (lists c.args.scene.now.inputs.now)
    c.args.scene.now.sizes qs) c.args.jobs.now) (sym c.deref.ensures.value)
    (all_fit c.requires.scene.good c.requires.scene.sizes c.requires.filled.3)

pub settle_row-requires-clause-back : goal.settle_row-requires-clause-back
settle_row-requires-clause-back g c = λ κs within.
    let b = c.requires.filled in (
      b.0,
      b.1,
      b.2,
      all_back_here c.requires.scene.good c.requires.scene.sizes b.3 c.fire_jobs.new.jobs c.fire_jobs.auto.jobs
          (fired g (goal.at.settle_row-requires-clause-back g c).After-fire_jobs),
    )

pub returns-clause-settled : goal.returns-clause-settled
returns-clause-settled g c = λ many low high was.
    let back = all_back_here c.requires.scene.good c.requires.scene.sizes was c.fire_jobs.new.jobs c.fire_jobs.auto.jobs
    (fired g (goal.at.returns-clause-settled g c).After-fire_jobs) in
    row_over (c.settle_row.ensures.settled many low high back)
    (omega (arith, length-map c.fire_jobs.new.jobs (λ j. j.actor)))

pub returns-clause-done : goal.returns-clause-done
returns-clause-done g c = λ a.
    let same = same_actors c.requires.scene.good c.requires.scene.sizes c.requires.filled.3 c.fire_jobs.new.jobs
    c.fire_jobs.auto.jobs (fired g (goal.at.returns-clause-done g c).After-fire_jobs) in
    c.settle_row.ensures.done a ∙ ap (λ w. get_or c.args.run_state.now.done.items a 0 + times w a) same

pub returns-clause-blocks : goal.returns-clause-blocks
returns-clause-blocks g c =
    keep_twice c.args.jobs.now c.fire_jobs.new.jobs c.settle_row.new.jobs
    (fired_keep c.requires.scene.good c.requires.scene.sizes c.requires.filled.3 c.fire_jobs.new.jobs
    c.fire_jobs.auto.jobs (fired g (goal.at.returns-clause-blocks g c).After-fire_jobs))
    c.settle_row.ensures.blocks
