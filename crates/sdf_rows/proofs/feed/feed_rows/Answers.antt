use Rattle.std.proofs.Common.{◌*◌, ◌<◌, false, refl, ap, ◌∙◌, subst, arith}
use Rattle.std.proofs.lemmas.Bool.{both_ways}
use Rattle.sdf_graph.specs.Rates.{rates}
use Rattle.sdf_actor.specs.Graphs.{graph_of}
use Rattle.sdf_actor.specs.Wires.{lists}
use Rattle.sdf_actor.specs.declared.sides.Lists.TheVariants.{Inputs}
use Rattle.sdf_queues.proofs.Theorems.{blocks_are_small, nets_have_facts}
use Rattle.sdf_rows.proofs.Counts.{rows_few}
use Rattle.sdf_rows.proofs.Readings.{given, asked}
use Rattle.sdf_rows.proofs.feed.feed_rows.Goals as goal

pub rounds_of-rounds-requires : goal.rounds_of-rounds-requires
rounds_of-rounds-requires g c =
    omega (
      arith,
      rows_few (rates (graph_of g.A.Actor.steps c.args.net.now))
          c.args.plan.now.table.now.period.repetitions c.args.plan.now.table.now.blocking
          c.args.plan.now.table.now.table
          c.requires.fits.period.least.is.all c.requires.fits.table,
      c.rows.ensures,
    )

pub returns : goal.returns
returns g c =
    let q = c.args.plan.now.table.now.period.repetitions in (
      given c.args.net.now q (c.args.plan.now.blocks * c.args.plan.now.table.now.blocking) c.inputs.result
          c.samples_of_blocks-least.result
          c.samples_in.result (lists c.args.inputs.now) (c.if-not-are_inputs.ensures.0 refl) c.inputs.ensures
          c.samples_of_blocks-least.ensures
          (c.samples_in.ensures.value q c.requires.fits.period.least),
      c.in_ok-outputs.ensures,
      c.rounds_of-rounds.ensures ∙ ap (λ m. c.args.plan.now.blocks * m) c.rows.ensures,
    )

pub samples_of_blocks-least-requires : goal.samples_of_blocks-least-requires
samples_of_blocks-least-requires g c =
    let q = c.args.plan.now.table.now.period.repetitions in
    let net = nets_have_facts g.A.Actor.steps c.args.net.now c.samples_in.ensures.accepted in
    let few = blocks_are_small g.A.Actor.steps c.args.net.now net.net net.graph
    c.args.plan.now.table.now.blocking q Inputs c.requires.fits.period.least c.requires.fits.table.short in
    omega (
      arith,
      few,
      ap (λ m. c.args.plan.now.table.now.blocking * m)
          (c.samples_in.ensures.value q c.requires.fits.period.least),
    )

pub returns-then-not-are_inputs : goal.returns-then-not-are_inputs
returns-then-not-are_inputs g c = λ has.
    let q = c.args.plan.now.table.now.period.repetitions in
    both_ways false refl
    (c.if-not-are_inputs.ensures.1
    (asked c.args.net.now q (c.args.plan.now.blocks * c.args.plan.now.table.now.blocking) c.inputs.result
    c.samples_of_blocks-least.result
    c.samples_in.result (lists c.args.inputs.now) has c.inputs.ensures c.samples_of_blocks-least.ensures
    (c.samples_in.ensures.value q c.requires.fits.period.least)))

pub run_net-requires-clause-fits : goal.run_net-requires-clause-fits
run_net-requires-clause-fits g c = λ κs within. c.requires.fits

pub run_net-requires-clause-inputs : goal.run_net-requires-clause-inputs
run_net-requires-clause-inputs g c = λ κs within.
    let q = c.args.plan.now.table.now.period.repetitions in
    given c.args.net.now q (c.args.plan.now.blocks * c.args.plan.now.table.now.blocking) c.inputs.result
    c.samples_of_blocks-least.result
    c.samples_in.result (lists c.args.inputs.now) (c.if-not-are_inputs.ensures.0 refl) c.inputs.ensures
    c.samples_of_blocks-least.ensures
    (c.samples_in.ensures.value q c.requires.fits.period.least)

pub run_net-requires-clause-some : goal.run_net-requires-clause-some
run_net-requires-clause-some g c = λ κs within. subst (λ m. 0 < m)
    (c.samples_in.ensures.value c.args.plan.now.table.now.period.repetitions c.requires.fits.period.least)
    c.samples_in.ensures.some
