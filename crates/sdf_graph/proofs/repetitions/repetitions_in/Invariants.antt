use Rattle.std.proofs.Common.{◌≡◌, ◌≤◌, map, sum, length, vec_len, vec_capacity}
use Rattle.std.specs.List.{range_with_len}
use Rattle.sdf_graph.specs.RelativeRates.{firings}
use Rattle.sdf_graph.proofs.repetitions.repetitions_in.Given as goal

abbrev pub invariant-loop-actor : goal.invariant-loop-actor
invariant-loop-actor l = record {
  made : l.of.items ≡ map (firings l.cycles l.ratios l.all) (range_with_len 0 l.actor);
  sum : sum l.of.items ≡ l.period;
  small : l.period ≤ 65536;
  room : length l.ratios ≤ vec_capacity l.of;
  at : vec_len l.of ≡ l.actor;
}
