use Rattle.std.proofs.Common.{length, slice_index}
use Rattle.sdf_warm_up.specs.WarmUps.{AreFirings}
use Rattle.sdf_warm_up.proofs.Passing.{IsPassing}
use Rattle.sdf_warm_up.proofs.warm_up.move_targets.Given as goal

abbrev pub invariant-loop-channel : goal.invariant-loop-channel
invariant-loop-channel l = record {
  since : AreFirings (length l.initial.since) l.since;
  passing : IsPassing l.graph (slice_index l.memory) l.initial.since l.since l.channel-index l.moves;
}
