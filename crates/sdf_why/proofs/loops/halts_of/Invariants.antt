use Rattle.std.proofs.Common.{◌≡◌, ℕ, ◌<◌, length}
use Rattle.sdf_why.specs.Cycles.{short_at}
use Rattle.sdf_why.specs.Loops.{IsFedBy}
use Rattle.sdf_why.proofs.loops.halts_of.Given as goal

abbrev pub invariant-loop-actor : goal.invariant-loop-actor
invariant-loop-actor l = record {
  all : length l.halts.items ≡ l.actor;
  fed : (a : ℕ) → a < l.actor → IsFedBy l.graph l.kept a (short_at l.halts.items a);
}
