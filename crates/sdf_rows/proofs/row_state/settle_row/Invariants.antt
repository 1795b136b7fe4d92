use Rattle.std.proofs.Common.{◌≡◌, ◌+◌, ℕ, length, take, slice_index}
use Rattle.sdf_graph.specs.Sequences.{times}
use Rattle.sdf_actor.specs.Wires.{lists}
use Rattle.sdf_rows.specs.Loading.{actors_of}
use Rattle.sdf_rows.specs.RowStates.{KeepBlocks, IsSettling}
use Rattle.sdf_rows.proofs.row_state.settle_row.Given as goal

abbrev pub invariant-loop-place : goal.invariant-loop-place
invariant-loop-place g l = record {
  settled : (many low high : ℕ → ℕ) →
      IsSettling g.A.Actor.steps l.scene.net.now (lists l.scene.inputs.now) many low high (actors_of l.initial.jobs) 0
      (slice_index l.initial.run_state.done.items) l.initial.run_state.states.items l.initial.run_state.queues.items
      l.initial.jobs →
      IsSettling g.A.Actor.steps l.scene.net.now (lists l.scene.inputs.now) many low high (actors_of l.initial.jobs)
      l.place (slice_index l.run_state.done.items) l.run_state.states.items l.run_state.queues.items l.jobs;
  done : (a : ℕ) → slice_index l.run_state.done.items a ≡ slice_index l.initial.run_state.done.items a
      + times (take l.place (actors_of l.initial.jobs)) a;
  counted : length l.run_state.done.items ≡ length l.initial.run_state.done.items;
  blocks : KeepBlocks l.initial.jobs l.jobs;
}
