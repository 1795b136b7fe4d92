use Rattle.std.proofs.Common.{◌≤◌, length}
use Rattle.sdf_parallel.proofs.part_workers.PartWorkers.add_workers.Given as goal

abbrev pub invariant-loop : goal.invariant-loop
invariant-loop g l = l.counter ≤ length l.self.all.items

abbrev pub invariant-loop-i : goal.invariant-loop-i
invariant-loop-i g l = l.count ≤ length l.self.all.items
