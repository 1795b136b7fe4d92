use Rattle.sdf_kit.proofs.Exact.{split_exact}
use Rattle.sdf_kit.proofs.laws.split_sums_are_exact.Goals as goal

pub returns : goal.returns
returns c = split_exact
