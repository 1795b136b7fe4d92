use Rattle.std.proofs.Common.{◌≡◌, ℕ, ◌<◌, length}
use Rattle.sdf_kit.specs.Samples.{sample}
use Rattle.sdf_kit.specs.Gain.{scaled}
use Rattle.sdf_kit.proofs.gain.Gain.run_small.Given as goal

abbrev pub invariant-loop-i : goal.invariant-loop-i
invariant-loop-i l = (length l.put ≡ length l.taken)
    × ((k : ℕ) → k < l.i → sample l.put k ≡ scaled l.self (sample l.taken k))
