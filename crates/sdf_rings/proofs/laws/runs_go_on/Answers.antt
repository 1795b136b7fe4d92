use Rattle.sdf_rings.proofs.Going.{runs_go_on}
use Rattle.sdf_rings.proofs.laws.runs_go_on.Goals as goal

pub returns : goal.returns
returns g c =
    runs_go_on
    g.A.Actor.steps
