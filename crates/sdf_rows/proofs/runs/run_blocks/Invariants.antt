use Rattle.std.proofs.Common.{◌≡◌, length, slice_index}
use Rattle.sdf_actor.specs.Wires.{lists}
use Rattle.sdf_rows.specs.RowStates.{KeepBlocks}
use Rattle.sdf_rows.specs.Blocks.{IsResting}
use Rattle.sdf_rows.proofs.runs.run_blocks.Given as goal

abbrev pub invariant-loop : goal.invariant-loop
invariant-loop g l = record {
  rests : IsResting g.A.Actor.steps l.scene.net.now (lists l.scene.inputs.now) l.timetable.repetitions.now
      l.timetable.blocking
      l.blocks l.counter (slice_index l.run_state.done.items) l.run_state.states.items l.run_state.queues.items;
  counts : length l.run_state.done.items ≡ length l.initial.run_state.done.items;
  blocks : KeepBlocks l.initial.jobs l.jobs;
}
