use Rattle.sdf_rings.proofs.Runs.{runs_put_prefixes}
use Rattle.sdf_rings.proofs.laws.runs_put_prefixes.Goals as goal

pub returns : goal.returns
returns g c =
    runs_put_prefixes g.A.Actor.steps
