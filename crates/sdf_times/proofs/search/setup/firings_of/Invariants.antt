use Rattle.std.proofs.Common.{◌≡◌, take}
use Rattle.sdf_prec.specs.Blocks.{block}
use Rattle.sdf_times.proofs.search.setup.firings_of.Given as goal

abbrev pub invariant-loop-one : goal.invariant-loop-one
invariant-loop-one l = l.firings.items ≡ block l.blocking (take l.one-index l.reps)
