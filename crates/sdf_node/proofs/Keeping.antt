-- The states that nodes keep.
use Rattle.std.proofs.Common.{ap, refl, Some}
use Rattle.sdf_actor.specs.Steps.{Steps}
use Rattle.sdf_actor.specs.declared.node.Node.TheVariants as node
use Rattle.sdf_node.specs.declared.node.NodeState.TheVariants.{Source, Sink, Inner}
use Rattle.sdf_node.specs.Kept.{NodesKeepStates}

pub keep_states : {A S T : Type 0} (s : Steps A S T) → NodesKeepStates s
keep_states s inputs many (node.Source ext block) past w is = refl
keep_states s inputs many (node.Sink ext block) past w is = refl
keep_states s inputs many (node.Inner x) past (Inner phase state) is = ap Some is.1
keep_states s inputs many (node.Inner x) past (Source next) is = absurd is
keep_states s inputs many (node.Inner x) past (Sink made) is = absurd is
