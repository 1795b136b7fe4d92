use Rattle.std.proofs.Common.{◌≡◌, ◌≤◌, ℕ, length, slice_index_or}
use Rattle.sdf_rows.specs.Collect.{AreCollected}
use Rattle.sdf_rows.proofs.collect.collect.Given as goal

abbrev pub invariant-loop-a : goal.invariant-loop-a
invariant-loop-a g l = record {
  all : length l.outputs ≡ length l.initial.outputs;
  nodes : length l.states ≡ length l.initial.states;
  rest : (b : ℕ) (w : _) → l.a ≤ b → slice_index_or l.states b w ≡ slice_index_or l.initial.states b w;
  lists : AreCollected l.net l.a l.initial.states l.outputs;
}
