use Rattle.sdf_node.proofs.Theorems.{blocks_join}
use Rattle.sdf_node.proofs.laws.blocks_join.Goals as goal

pub returns : goal.returns
returns g c = blocks_join
