use Rattle.sdf_rings.proofs.Quiescent.{quiescent_reached, quiescent_is_reached}
use Rattle.sdf_rings.proofs.laws.quiescent_reached.Goals as goal

pub returns-clause-next : goal.returns-clause-next
returns-clause-next g c =
    quiescent_reached
    g.A.Actor.steps

pub returns-clause-from_start : goal.returns-clause-from_start
returns-clause-from_start g c =
    quiescent_is_reached
    g.A.Actor.steps
