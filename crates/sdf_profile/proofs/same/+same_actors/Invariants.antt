use Rattle.std.proofs.Common.{length}
use Rattle.sdf_profile.proofs.same.+same_actors.Given as goal

abbrev pub decreases-same_actors : goal.decreases-same_actors
decreases-same_actors l = length l.old.now
