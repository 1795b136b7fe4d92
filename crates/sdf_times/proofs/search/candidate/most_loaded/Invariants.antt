use Rattle.std.proofs.Common.{◌<◌}
use Rattle.sdf_times.proofs.search.candidate.most_loaded.Given as goal

abbrev pub invariant-loop-column : goal.invariant-loop-column
invariant-loop-column l = l.most < l.column
