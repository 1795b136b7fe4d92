use Rattle.std.proofs.Common.{count_by}
use Rattle.std.specs.Option.{is_none}
use Rattle.sdf_why.specs.Cycles.{IsWalk}
use Rattle.sdf_why.proofs.cycle.cycle_from.Given as goal

abbrev pub invariant-loop-channel : goal.invariant-loop-channel
invariant-loop-channel l = IsWalk l.graph l.halts l.first l.path.items l.places.items l.actor

-- the actors that the walk has not left
abbrev pub decreases-loop-channel : goal.decreases-loop-channel
decreases-loop-channel l = count_by is_none l.places.items
