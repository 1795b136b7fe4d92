use Rattle.std.proofs.Common.{◌≡◌, ◌<◌, ℕ, length, slice_index}
use Rattle.sdf_one.proofs.work.are_apart.Given as goal

abbrev pub invariant-loop-from : goal.invariant-loop-from
invariant-loop-from l = (i j : ℕ) → i < l.from-index → j < length l.outs → slice_index l.ins i ≡ slice_index l.outs j →
    ⊥
