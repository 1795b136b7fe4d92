use Rattle.std.proofs.Common.{◌≡◌, length}
use Rattle.sdf_why.specs.Loops.{AreTargets}
use Rattle.sdf_why.proofs.loops.targets.Given as goal

abbrev pub invariant-loop-channel : goal.invariant-loop-channel
invariant-loop-channel l = record {
  all : length l.kept.items ≡ l.graph.actors;
  targets : AreTargets l.graph l.channel-index l.kept.items;
}
