use Rattle.std.proofs.Common.{◌≡◌}
use Rattle.run_tests.proofs.turns.rounds.Given as goal

abbrev pub invariant-loop-number : goal.invariant-loop-number
invariant-loop-number g l = record { same : l.rings.net ≡ l.net }
