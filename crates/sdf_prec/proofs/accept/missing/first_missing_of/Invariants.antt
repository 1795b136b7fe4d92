use Rattle.std.proofs.Common.{◌<◌, ℕ}
use Rattle.sdf_prec.specs.Numbers.{number}
use Rattle.sdf_prec.proofs.accept.missing.first_missing_of.Given as goal

abbrev pub invariant-loop-number : goal.invariant-loop-number
invariant-loop-number l = (k : ℕ) → k < l.number → 0 < number l.marks (record { actor = l.actor; number = k })
