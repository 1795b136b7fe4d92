use Rattle.std.proofs.Common.{◌≡◌, ℕ, ◌<◌, ◌*◌, ◌/◌, length}
use Rattle.sdf_kit.specs.Samples.{sample}
use Rattle.sdf_kit.proofs.fork.put_copies.Given as goal

abbrev pub invariant-loop-i : goal.invariant-loop-i
invariant-loop-i l = (length l.put ≡ length l.fn.put)
    × ((k : ℕ) → k < l.i * l.ways → sample l.put k ≡ sample l.taken (k / l.ways))
