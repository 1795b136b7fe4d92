use Rattle.std.proofs.Common.{◌≡◌, length}
use Rattle.sdf_times.proofs.search.cycle.clear.Given as goal

abbrev pub invariant-loop-index : goal.invariant-loop-index
invariant-loop-index l = length l.marks.items ≡ length l.initial.marks.items
