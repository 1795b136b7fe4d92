use Rattle.sdf_kit.proofs.Chain.{fir_is_chain}
use Rattle.sdf_kit.proofs.laws.fir_is_chain.Goals as goal

pub returns : goal.returns
returns c = fir_is_chain
