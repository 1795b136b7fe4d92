use Rattle.std.proofs.Common.{ℕ, ◌*◌, ◌<◌, ◌≤◌, take, drop}
use Rattle.sdf_kit.specs.Dots.{total_abs}
use Rattle.sdf_kit.proofs.branches.gain.Given as goal

abbrev pub invariant-loop-phase : goal.invariant-loop-phase
invariant-loop-phase l = (p : ℕ) → p < l.phase → total_abs (take l.width (drop (p * l.width) l.table)) ≤ l.gain
