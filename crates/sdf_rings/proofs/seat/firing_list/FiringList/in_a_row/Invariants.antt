use Rattle.std.proofs.Common.{◌≡◌, ◌+◌, ◌<◌, ℕ, slice_index}
use Rattle.sdf_rings.proofs.seat.firing_list.FiringList.in_a_row.Given as goal

abbrev pub invariant-loop-j : goal.invariant-loop-j
invariant-loop-j l = (i : ℕ) → i < l.j →
    slice_index l.self-inside.block.items l.first ≡ slice_index l.self-inside.block.items (l.first + i)
