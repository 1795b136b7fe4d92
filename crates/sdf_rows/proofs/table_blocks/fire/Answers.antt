use Rattle.std.proofs.Common.{◌*◌, ◌≤◌, ℕ, length, get_or, ap, sym, ◌∙◌, subst, arith}
use Rattle.std.specs.Prelude.{sum}
use Rattle.std.proofs.Math.ListN.{get_or-map}
use Rattle.std.proofs.lemmas.List.{length-map}
use Rattle.std.proofs.lemmas.List.Sums.{get_or-le-sum_by}
use Rattle.sdf_limits.specs.declared.TheConstants.{MAX_BLOCK}
use Rattle.sdf_graph.specs.Rates.{rates}
use Rattle.sdf_graph.specs.Periods.{IsLeastPeriod}
use Rattle.sdf_actor.specs.Graphs.{graph_of}
use Rattle.sdf_actor.specs.Wires.{lists}
use Rattle.sdf_actor.specs.declared.sides.Lists.TheVariants.{Outputs}
use Rattle.sdf_actor.proofs.Theorems.{nets_are_wired}
use Rattle.sdf_queues.specs.Periods.{CanRun}
use Rattle.sdf_prec.specs.BlockTables.{IsTableOf}
use Rattle.sdf_queues.proofs.Theorems.{nets_have_facts, blocks_are_small, nets_can_run, nets_have_periods}
use Rattle.sdf_rows.specs.Blocks.{IsResting}
use Rattle.sdf_prec.specs.Tables.{row}
use Rattle.sdf_rows.proofs.Counts.{factor_few, firings_few}
use Rattle.sdf_rows.proofs.Readings.{vec_long}
use Rattle.sdf_rows.proofs.Ends.{begins, have_blocks, the_none}
use Rattle.sdf_rows.proofs.table_blocks.fire.Goals as goal

pub columns-requires : goal.columns-requires
columns-requires g c = (c.requires.fits.table.width, c.requires.fits.table.table.wide)

pub run_blocks-requires-clause-start : goal.run_blocks-requires-clause-start
run_blocks-requires-clause-start g c = λ κs within.
    let s = g.A.Actor.steps in
    let n = c.args.net.now in
    let p = c.args.plan.now in
    let q = c.repetitions-repetitions.result.now in
    let same = c.repetitions-repetitions.ensures in
    let least = subst (IsLeastPeriod (rates (graph_of s n))) (sym same) c.requires.fits.period.least in
    let accepted = c.samples_out.ensures.accepted in
    let net = (nets_have_facts s n accepted).net in
    let has = nets_have_periods s n accepted p.table.now.period c.requires.fits.period in
    let can = subst (λ r. CanRun s n r (p.blocks * p.table.now.blocking) (lists c.args.inputs.now)) (sym same)
    (nets_can_run g.A.Actor.steps n p.table.now.period (p.blocks * p.table.now.blocking) (lists c.args.inputs.now)
    has c.requires.inputs) in
    let short = subst (λ r. p.table.now.blocking * sum r ≤ MAX_BLOCK) (sym same) c.requires.fits.table.short in
    begins s n net (nets_are_wired s n net) q p.table.now.blocking p.blocks (lists c.args.inputs.now) can short
    (omega arith)
    c.samples_of_blocks-room.result (c.samples_of_blocks-room.ensures
    ∙ ap (λ m. p.blocks * p.table.now.blocking * m) (c.samples_out.ensures.value q least))
    c.in_ok-zero_counts.field-0.items (λ a. ap (λ xs. get_or xs a 0) c.in_ok-zero_counts.ensures
    ∙ get_or-map (λ (x : ℕ). the_none) q a 0)
    c.in_ok-make_states.field-0.items c.in_ok-make_queues.field-0.items
    (vec_long c.in_ok-make_states.field-0 ∙ c.in_ok-make_states.ensures.0) c.in_ok-make_states.ensures.1
    (vec_long c.in_ok-make_queues.field-0 ∙ c.in_ok-make_queues.ensures.0) c.in_ok-make_queues.ensures.1

pub run_blocks-requires-clause-blocks : goal.run_blocks-requires-clause-blocks
run_blocks-requires-clause-blocks g c = λ κs within.
    have_blocks g.A.Actor.steps c.args.net.now c.in_ok-new.field-0 c.in_ok-new.ensures c.deref_mut.result.now
    (rw (c.deref_mut.ensures.value) c.in_ok-jobs.ensures.1)

pub run_blocks-requires-clause-wide : goal.run_blocks-requires-clause-wide
run_blocks-requires-clause-wide g c = λ κs within. λ i h.
    omega (
      arith,
      firings_few (row c.args.plan.now.table.now.table.rows i),
      c.columns.ensures i h,
      ap length c.deref_mut.ensures.value,
      vec_long c.in_ok-jobs.jobs,
      c.in_ok-jobs.ensures.0,
    )

pub returns : goal.returns
returns g c =
    let p = c.args.plan.now in
    let k : ℕ → ℕ = (λ a. get_or c.run_blocks.new.run_state.done.items a 0) in (
      k,
      subst (λ r. IsResting g.A.Actor.steps c.args.net.now (lists c.args.inputs.now) r p.table.now.blocking
          p.blocks p.blocks
          k c.run_blocks.new.run_state.states.items c.run_blocks.new.run_state.queues.items)
          c.repetitions-repetitions.ensures
          c.run_blocks.ensures.over,
    )

pub run_blocks-requires-clause-scene : goal.run_blocks-requires-clause-scene
run_blocks-requires-clause-scene g c = λ κs within.
    record {
      good = (nets_have_facts g.A.Actor.steps c.args.net.now c.samples_out.ensures.accepted).net;
      accepted = c.samples_out.ensures.accepted;
      sizes = c.in_ok-new.ensures;
    }

pub run_blocks-requires-clause-period : goal.run_blocks-requires-clause-period
run_blocks-requires-clause-period g c = λ κs within. subst
    (IsLeastPeriod (rates (graph_of g.A.Actor.steps c.args.net.now))) (sym c.repetitions-repetitions.ensures)
    c.requires.fits.period.least

pub run_blocks-requires-clause-table : goal.run_blocks-requires-clause-table
run_blocks-requires-clause-table g c = λ κs within.
    subst (λ q. IsTableOf (rates (graph_of g.A.Actor.steps c.args.net.now)) q c.args.plan.now.table.now.blocking
    c.args.plan.now.table.now.table) (sym c.repetitions-repetitions.ensures) c.requires.fits.table

pub run_blocks-requires-clause-counted : goal.run_blocks-requires-clause-counted
run_blocks-requires-clause-counted g c = λ κs within.
    ap length c.in_ok-zero_counts.ensures
    ∙ (length-map c.repetitions-repetitions.result.now (λ (x : ℕ). the_none)
    ∙ (ap length c.repetitions-repetitions.ensures ∙ c.requires.fits.period.least.is.all))

pub make_queues-requires-clause-all : goal.make_queues-requires-clause-all
make_queues-requires-clause-all g c = λ κs within. ap length c.repetitions-repetitions.ensures
    ∙ c.requires.fits.period.least.is.all

pub make_queues-requires-clause-short : goal.make_queues-requires-clause-short
make_queues-requires-clause-short g c = λ κs within. λ a l.
    let q = c.repetitions-repetitions.result.now in
    omega (
      arith,
      get_or-le-sum_by (λ x. x) q a 0 l,
      ap sum c.repetitions-repetitions.ensures,
      c.requires.fits.period.all,
      c.requires.fits.period.within,
    )

pub make_queues-requires-clause-few : goal.make_queues-requires-clause-few
make_queues-requires-clause-few g c = λ κs within.
    factor_few c.args.plan.now.table.now.blocking c.args.plan.now.table.now.period.repetitions
    (nets_have_facts g.A.Actor.steps c.args.net.now c.samples_out.ensures.accepted).graph.some
    c.requires.fits.period.least.is.all c.requires.fits.period.least.is.positive c.requires.fits.table.short

pub samples_of_blocks-room-requires : goal.samples_of_blocks-room-requires
samples_of_blocks-room-requires g c =
    let j = c.args.plan.now.table.now.blocking in
    let q = c.args.plan.now.table.now.period.repetitions in
    let net = nets_have_facts g.A.Actor.steps c.args.net.now c.samples_out.ensures.accepted in
    let few = blocks_are_small g.A.Actor.steps c.args.net.now net.net net.graph j q Outputs
    c.requires.fits.period.least c.requires.fits.table.short in
    omega (arith, few, ap (λ m. j * m) (c.samples_out.ensures.value q c.requires.fits.period.least))
