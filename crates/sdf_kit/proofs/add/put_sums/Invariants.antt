use Rattle.std.proofs.Common.{◌≡◌, ℕ, ◌<◌, length}
use Rattle.sdf_kit.specs.Samples.{sample}
use Rattle.sdf_kit.specs.Add.{sum_at}
use Rattle.sdf_kit.proofs.add.put_sums.Given as goal

abbrev pub invariant-loop-i : goal.invariant-loop-i
invariant-loop-i l = (length l.put ≡ length l.fn.put) × ((k : ℕ) → k < l.i → sample l.put k ≡ sum_at l.ways l.taken k)
