use Rattle.std.proofs.Common.{◌+◌, ◌-◌, ◌*◌, length}
use Rattle.sdf_rings.proofs.rings.busy.+halves.Given as goal

abbrev pub decreases-for_each_busy : goal.decreases-for_each_busy
decreases-for_each_busy g l = 4 * length l.s.now

abbrev pub decreases-join_halves : goal.decreases-join_halves
decreases-join_halves g l = 4 * (length l.front.now + length l.back.now) - 1

abbrev pub decreases-join_halves-first : goal.decreases-join_halves-first
decreases-join_halves-first g l = 4 * length l.front.now + 1

abbrev pub decreases-join_halves-second : goal.decreases-join_halves-second
decreases-join_halves-second g l = 4 * length l.back.now + 1
