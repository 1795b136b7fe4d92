use Rattle.sdf_rings.proofs.Runs.{runs_keep_within}
use Rattle.sdf_rings.proofs.laws.runs_keep_within.Goals as goal

pub returns : goal.returns
returns g c =
    runs_keep_within g.A.Actor.steps c.one_history.ensures.exists
