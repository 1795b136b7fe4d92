use Rattle.std.proofs.Common.{◌≡◌, ◌<◌, ◌≤◌, ℕ, length, vec_len, slice_index_or}
use Rattle.sdf_rings.specs.Rests.{ring_node_of, AreGiven}
use Rattle.sdf_rings.proofs.rings.finish.collect.Given as goal

abbrev pub invariant-loop-a : goal.invariant-loop-a
invariant-loop-a g l = record {
  all : length l.outputs ≡ length l.initial.outputs;
  ring_nodes : (j : ℕ) (e : _) → vec_len (slice_index_or l.seats j e).ring_nodes ≡
      vec_len (slice_index_or l.initial.seats j e).ring_nodes;
  rest : (b : ℕ) (e : _) (d : _) → l.a ≤ b → b < length l.net.nodes →
      ring_node_of l.net l.seats l.places e d b ≡ ring_node_of l.net l.initial.seats l.places e d b;
  given : AreGiven l.net l.initial.seats l.places l.a l.outputs;
}
