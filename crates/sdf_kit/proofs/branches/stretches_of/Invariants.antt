use Rattle.std.proofs.Common.{◌≡◌, ℕ, ◌*◌, ◌/◌, ◌%◌, ◌<◌, drop, get_or, length, take}
use Rattle.sdf_kit.specs.Stretches.{IsReach}
use Rattle.sdf_kit.proofs.branches.stretches_of.Given as goal

abbrev pub invariant-loop-k : goal.invariant-loop-k
invariant-loop-k l = record {
  len : length l.stretches ≡ 128;
  each : (k : ℕ) → k < l.k → IsReach (get_or l.stretches k 0)
      (drop (16 * (k % (l.width / 16))) (take l.width (drop (k / (l.width / 16) * l.width) l.table)));
}
