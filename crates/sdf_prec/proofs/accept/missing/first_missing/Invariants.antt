use Rattle.std.proofs.Common.{◌<◌, ℕ}
use Rattle.std.specs.Prelude.{slice_index}
use Rattle.sdf_prec.specs.Numbers.{number}
use Rattle.sdf_prec.proofs.accept.missing.first_missing.Given as goal

abbrev pub invariant-loop-actor : goal.invariant-loop-actor
invariant-loop-actor l = (a k : ℕ) → a < l.actor → k < slice_index l.marks.firings a →
    0 < number l.marks (record { actor = a; number = k })
