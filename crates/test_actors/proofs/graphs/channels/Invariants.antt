use Rattle.std.proofs.Common.{◌≡◌, take}
use Rattle.test_actors.specs.Rows.{edges}
use Rattle.test_actors.proofs.graphs.channels.Given as goal

abbrev pub invariant-loop-from : goal.invariant-loop-from
invariant-loop-from l = l.channels.items ≡ edges (take l.from-index l.rows)
