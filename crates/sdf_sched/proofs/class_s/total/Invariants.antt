use Rattle.std.proofs.Common.{◌≡◌, sum, take}
use Rattle.sdf_sched.proofs.class_s.total.Given as goal

abbrev pub invariant-loop-many : goal.invariant-loop-many
invariant-loop-many l = l.total ≡ sum (take l.many-index l.firings)
