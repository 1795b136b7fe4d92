use Rattle.sdf_rings.proofs.PairAtWork.{pair_fills, pair_goes_on}
use Rattle.sdf_rings.proofs.pair.pair_at_work.Goals as goal

pub returns-clause-fills : goal.returns-clause-fills
returns-clause-fills g c = pair_fills g.A.Actor.steps

pub returns-clause-goes_on : goal.returns-clause-goes_on
returns-clause-goes_on g c = pair_goes_on g.A.Actor.steps
