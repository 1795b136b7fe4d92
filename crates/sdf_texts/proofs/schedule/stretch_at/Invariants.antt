use Rattle.std.proofs.Common.{◌≡◌, ◌-◌, ◌≤◌, ◌<◌, drop, length}
use Rattle.sdf_texts.specs.Schedules.{stretches}
use Rattle.sdf_texts.proofs.Stretches.{grown}
use Rattle.sdf_texts.proofs.schedule.stretch_at.Given as goal

abbrev pub invariant-loop-past : goal.invariant-loop-past
invariant-loop-past l = record {
  after : l.at < l.past;
  within : l.past ≤ length l.order;
  same : stretches (drop l.at l.order) ≡ grown (l.past - l.at) l.actor (stretches (drop l.past l.order));
}

abbrev pub decreases-loop-past : goal.decreases-loop-past
decreases-loop-past l = length l.order - l.past
