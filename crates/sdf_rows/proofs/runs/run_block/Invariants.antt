use Rattle.std.proofs.Common.{◌≡◌, ◌+◌, ℕ, length, take, slice_index}
use Rattle.sdf_graph.specs.Sequences.{times}
use Rattle.sdf_actor.specs.Wires.{lists}
use Rattle.sdf_prec.specs.Tables.{sequence}
use Rattle.sdf_rows.specs.RowStates.{KeepBlocks, IsBetween}
use Rattle.sdf_rows.specs.Blocks.{block_after}
use Rattle.sdf_rows.proofs.runs.run_block.Given as goal

abbrev pub invariant-loop-i : goal.invariant-loop-i
invariant-loop-i g l = record {
  over : (many : ℕ → ℕ) →
      IsBetween g.A.Actor.steps l.scene.net.now (lists l.scene.inputs.now) many
      (slice_index l.initial.run_state.done.items)
      (block_after l.timetable.repetitions.now l.timetable.blocking (slice_index l.initial.run_state.done.items))
      (slice_index l.initial.run_state.done.items)
      l.initial.run_state.states.items l.initial.run_state.queues.items →
      IsBetween g.A.Actor.steps l.scene.net.now (lists l.scene.inputs.now) many
      (slice_index l.initial.run_state.done.items)
      (block_after l.timetable.repetitions.now l.timetable.blocking (slice_index l.initial.run_state.done.items))
      (slice_index l.run_state.done.items)
      l.run_state.states.items l.run_state.queues.items;
  done : (a : ℕ) → slice_index l.run_state.done.items a ≡ slice_index l.initial.run_state.done.items a
      + times (sequence (take l.i l.timetable.table.now.rows)) a;
  counts : length l.run_state.done.items ≡ length l.initial.run_state.done.items;
  blocks : KeepBlocks l.initial.jobs l.jobs;
}
