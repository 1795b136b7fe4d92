use Rattle.std.proofs.Common.{◌+◌, ◌*◌, length}
use Rattle.sdf_parallel.proofs.beside.+places.Given as goal

abbrev pub decreases-first_beside : goal.decreases-first_beside
decreases-first_beside g l = 3 * length l.others.now + 2

abbrev pub decreases-first_beside-join_mut+arg3 : goal.decreases-first_beside-join_mut+arg3
decreases-first_beside-join_mut+arg3 g l = 3 * length l.others.now + 1

abbrev pub decreases-for_each_from : goal.decreases-for_each_from
decreases-for_each_from g l = 3 * length l.s.now
