use Rattle.std.proofs.Common.{length}
use Rattle.sdf_profile.proofs.same.+same_links.Given as goal

abbrev pub decreases-same_links : goal.decreases-same_links
decreases-same_links l = length l.one.now
