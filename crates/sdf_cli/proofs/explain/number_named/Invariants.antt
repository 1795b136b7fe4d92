use Rattle.std.proofs.Common.{ℕ, ◌<◌}
use Rattle.sdf_cli.specs.Names.{IsNamed}
use Rattle.sdf_cli.proofs.explain.number_named.Given as goal

-- no number so far has the name
abbrev pub invariant-loop-number : goal.invariant-loop-number
invariant-loop-number l = (number : ℕ) → number < l.number → IsNamed number l.name → ⊥
