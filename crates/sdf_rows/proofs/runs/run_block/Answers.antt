use Rattle.std.proofs.Common.{◌+◌, ℕ, length, get_or, subst, sym, ap, ◌∙◌, arith}
use Rattle.sdf_graph.specs.Rates.{rates}
use Rattle.sdf_graph.specs.Sequences.{times}
use Rattle.sdf_graph.proofs.Theorems.{graphs_are_sound}
use Rattle.sdf_actor.specs.Graphs.{graph_of}
use Rattle.sdf_queues.proofs.Theorems.{nets_have_facts}
use Rattle.sdf_prec.specs.Blocks.{block}
use Rattle.sdf_prec.specs.Tables.{row, firings}
use Rattle.sdf_rows.specs.Loading.{row_actors}
use Rattle.sdf_rows.specs.RowStates.{IsRow}
use Rattle.sdf_rows.specs.Blocks.{block_after}
use Rattle.sdf_rows.proofs.Blocks.{row_is, row_counts, block_counts}
use Rattle.sdf_rows.proofs.Keeps.{keep_twice, keep_have}
use Rattle.sdf_rows.proofs.runs.run_block.Goals as goal
use Rattle.sdf_rows.proofs.runs.run_block.Goals.{In-loop-i}

next : (g : Rattle.sdf_rows.proofs.runs.run_block.Given.Over) (c : In-loop-i g) →
    IsRow g.A.Actor.steps c.args.scene.now.net.now (λ a. get_or c.loop-i.run_state.done.items a 0)
    (block_after c.args.timetable.now.repetitions.now c.args.timetable.now.blocking
    (λ a. get_or c.args.run_state.now.done.items a 0))
    (row_actors (row c.args.timetable.now.table.now.rows c.loop-i.i))
next g c =
    let net = nets_have_facts g.A.Actor.steps c.args.scene.now.net.now c.requires.scene.accepted in
    row_is net.alike (graphs_are_sound (graph_of g.A.Actor.steps c.args.scene.now.net.now) net.graph)
    c.requires.table.table.valid c.requires.round c.loop-i.i
    (omega (arith, c.loop-i-test.true, c.rows-i-end.ensures)) c.loop-i.invariant.done

pub run_row-requires-clause-between : goal.run_row-requires-clause-between
run_row-requires-clause-between g c = λ κs within.
    let b = c.requires.start in
    let high = block_after c.args.timetable.now.repetitions.now c.args.timetable.now.blocking
    (λ a. get_or c.args.run_state.now.done.items a 0) in (
      b.0,
      (λ a. get_or c.args.run_state.now.done.items a 0),
      high,
      c.loop-i.invariant.over b.0 b.1,
      subst (λ r. IsRow g.A.Actor.steps c.args.scene.now.net.now (λ a. get_or c.loop-i.run_state.done.items a 0) high
          (row_actors r))
          (sym c.row.ensures) (next g (goal.at.run_row-requires-clause-between g c).In-loop-i),
    )

pub run_row-requires-clause-blocks : goal.run_row-requires-clause-blocks
run_row-requires-clause-blocks g c = λ κs within.
    keep_have g.A.Actor.steps c.args.scene.now.net.now c.args.jobs.now c.loop-i.jobs c.requires.blocks
    c.loop-i.invariant.blocks

pub run_row-requires-clause-few : goal.run_row-requires-clause-few
run_row-requires-clause-few g c = λ κs within.
    omega (
      arith,
      c.requires.wide c.loop-i.i (omega (arith, c.loop-i-test.true, c.rows-i-end.ensures)),
      ap (λ r. length (firings r)) c.row.ensures,
      c.loop-i.invariant.blocks.all,
    )

pub loop-i-preserved : goal.loop-i-preserved
loop-i-preserved g c =
    let rows = c.args.timetable.now.table.now.rows in
    let low : ℕ → ℕ = λ a. get_or c.args.run_state.now.done.items a 0 in
    let high = block_after c.args.timetable.now.repetitions.now c.args.timetable.now.blocking low in
    record {
      over = λ many st.
          c.run_row.ensures.between many low high (c.loop-i.invariant.over many st)
          (subst (λ r. IsRow g.A.Actor.steps c.args.scene.now.net.now
          (λ a. get_or c.loop-i.run_state.done.items a 0) high
          (row_actors r)) (sym c.row.ensures) (next g (goal.at.loop-i-preserved g c).In-loop-i));
      done = λ a. omega (
        arith,
        c.run_row.ensures.done a,
        c.loop-i.invariant.done a,
        row_counts rows c.loop-i.i a (omega (arith, c.loop-i-test.true, c.rows-i-end.ensures)),
        ap (λ r. times (row_actors r) a) c.row.ensures,
      );
      counts = c.run_row.ensures.counts ∙ c.loop-i.invariant.counts;
      blocks = keep_twice c.args.jobs.now c.loop-i.jobs c.run_row.new.jobs c.loop-i.invariant.blocks
          c.run_row.ensures.blocks;
    }

pub returns-clause-done : goal.returns-clause-done
returns-clause-done g c = λ a l.
    let r = rates (graph_of g.A.Actor.steps c.args.scene.now.net.now) in
    c.loop-i.invariant.done a ∙ ap (λ t. get_or c.args.run_state.now.done.items a 0 + t)
    (block_counts r
    (λ a. get_or (block c.args.timetable.now.blocking c.args.timetable.now.repetitions.now) a 0)
    c.args.timetable.now.table.now.rows c.loop-i.i a
    c.requires.table.table.valid (omega (arith, c.loop-i-test.false, c.rows-i-end.ensures))
    (omega (
      arith,
      l,
      (nets_have_facts g.A.Actor.steps c.args.scene.now.net.now c.requires.scene.accepted).alike.actors,
    )))
