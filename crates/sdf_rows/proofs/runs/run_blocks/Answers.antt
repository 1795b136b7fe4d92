use Rattle.std.proofs.Common.{◌≡◌, ◌*◌, get_or, subst, ◌∙◌, arith}
use Rattle.sdf_graph.proofs.Theorems.{graphs_are_sound, graphs_have_periods}
use Rattle.sdf_actor.specs.Graphs.{graph_of}
use Rattle.sdf_actor.specs.Wires.{lists}
use Rattle.sdf_queues.proofs.Theorems.{nets_have_facts}
use Rattle.sdf_rows.specs.Blocks.{IsResting}
use Rattle.sdf_rows.proofs.Keeps.{keep_twice, keep_have}
use Rattle.sdf_rows.proofs.Rounds.{round_here, block_begins, block_ends}
use Rattle.sdf_rows.proofs.runs.run_blocks.Goals as goal

pub run_block-requires-clause-start : goal.run_block-requires-clause-start
run_block-requires-clause-start g c = λ κs within.
    let s = g.A.Actor.steps in
    let n = c.args.scene.now.net.now in
    let net = nets_have_facts s n c.requires.scene.accepted in
    let q = c.args.timetable.now.repetitions.now in (
      (λ a. c.args.blocks * (c.args.timetable.now.blocking * get_or q a 0)),
      block_begins s n net.alike (graphs_are_sound (graph_of s n) net.graph) q
          (graphs_have_periods (graph_of s n) q net.graph c.requires.period.is) c.loop.invariant.rests c.loop-test.true,
    )

pub run_block-requires-clause-round : goal.run_block-requires-clause-round
run_block-requires-clause-round g c = λ κs within.
    let s = g.A.Actor.steps in
    let n = c.args.scene.now.net.now in
    let net = nets_have_facts s n c.requires.scene.accepted in
    let q = c.args.timetable.now.repetitions.now in
    round_here s n net.alike (graphs_are_sound (graph_of s n) net.graph) q
    (graphs_have_periods (graph_of s n) q net.graph c.requires.period.is) c.loop.invariant.rests

pub run_block-requires-clause-blocks : goal.run_block-requires-clause-blocks
run_block-requires-clause-blocks g c = λ κs within.
    keep_have g.A.Actor.steps c.args.scene.now.net.now c.args.jobs.now c.loop.jobs c.requires.blocks
    c.loop.invariant.blocks

pub loop-preserved : goal.loop-preserved
loop-preserved g c =
    let s = g.A.Actor.steps in
    let n = c.args.scene.now.net.now in
    let net = nets_have_facts s n c.requires.scene.accepted in
    let sound = graphs_are_sound (graph_of s n) net.graph in
    let q = c.args.timetable.now.repetitions.now in
    let period = graphs_have_periods (graph_of s n) q net.graph c.requires.period.is in
    record {
      rests = block_ends s n net.alike sound q period c.loop.invariant.rests c.run_block.ensures.done
          (c.run_block.ensures.over (λ a. c.args.blocks * (c.args.timetable.now.blocking * get_or q a 0))
          (block_begins s n net.alike sound q period c.loop.invariant.rests c.loop-test.true));
      counts = c.run_block.ensures.counts ∙ c.loop.invariant.counts;
      blocks = keep_twice c.args.jobs.now c.loop.jobs c.run_block.new.jobs c.loop.invariant.blocks
          c.run_block.ensures.blocks;
    }

pub returns : goal.returns
returns g c =
    let s = g.A.Actor.steps in
    let n = c.args.scene.now.net.now in
    let e : c.loop.counter ≡ c.args.blocks = omega (arith, c.loop-test.false, c.loop.auto.counter-end) in
    record {
      over = subst (λ b. IsResting s n (lists c.args.scene.now.inputs.now) c.args.timetable.now.repetitions.now
          c.args.timetable.now.blocking c.args.blocks b (λ a. get_or c.loop.run_state.done.items a 0)
          c.loop.run_state.states.items
          c.loop.run_state.queues.items) e
          c.loop.invariant.rests;
    }
