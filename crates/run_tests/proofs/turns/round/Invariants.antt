use Rattle.std.proofs.Common.{◌≡◌}
use Rattle.run_tests.proofs.turns.round.Given as goal

abbrev pub invariant-loop-i : goal.invariant-loop-i
invariant-loop-i g l = record { same : l.rings.net ≡ l.net }
