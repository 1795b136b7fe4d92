use Rattle.std.proofs.Common.{◌≡◌, ◌<◌, ℕ, slice_index, vec_len}
use Rattle.sdf_graph.specs.Rates.{sum_to, rate_at, channel}
use Rattle.sdf_actor.specs.Graphs.{graph_of}
use Rattle.sdf_actor.specs.Nets.{node, cycle_of}
use Rattle.sdf_one.proofs.cycles.make_cycles.Given as goal

abbrev pub invariant-loop-channel : goal.invariant-loop-channel
invariant-loop-channel g l = record {
  takes_all : vec_len l.takes ≡ l.channel-index;
  puts_all : vec_len l.puts ≡ l.channel-index;
  takes_are : (c : ℕ) → c < l.channel-index → slice_index l.takes.items c ≡
      sum_to (rate_at (channel (graph_of g.A.Actor.steps l.net) c).take)
      (cycle_of g.A.Actor.steps (node l.net (channel (graph_of g.A.Actor.steps l.net) c).to));
  puts_are : (c : ℕ) → c < l.channel-index → slice_index l.puts.items c ≡
      sum_to (rate_at (channel (graph_of g.A.Actor.steps l.net) c).put)
      (cycle_of g.A.Actor.steps (node l.net (channel (graph_of g.A.Actor.steps l.net) c).from));
}
