use Rattle.sdf_rings.proofs.Own.{own_never_waits}
use Rattle.sdf_rings.proofs.laws.own_never_waits.Goals as goal

pub returns : goal.returns
returns g c =
    own_never_waits
    g.A.Actor.steps
