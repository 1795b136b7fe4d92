use Rattle.sdf_kit.proofs.Exact.{exact}
use Rattle.sdf_kit.proofs.laws.quiet_sums_are_exact.Goals as goal

pub returns : goal.returns
returns c = exact
