use Rattle.sdf_rings.proofs.PairPlanned.{pair_is_planned}
use Rattle.sdf_rings.proofs.pair.pair_is_planned.Goals as goal

pub returns : goal.returns
returns g c = pair_is_planned g.A.Actor.steps
