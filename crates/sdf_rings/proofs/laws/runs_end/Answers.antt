use Rattle.sdf_actor.specs.Nets.{wiring, answers}
use Rattle.sdf_rings.specs.Machine.{at_start}
use Rattle.sdf_rings.specs.MachineLaws.{firings, capacity}
use Rattle.sdf_rings.proofs.Reaches.{run_moves}
use Rattle.sdf_rings.proofs.Runs.{runs_end_in_histories}
use Rattle.sdf_rings.proofs.laws.runs_end.Goals as goal

pub returns-clause-count : goal.returns-clause-count
returns-clause-count g c = λ n inputs p b es plan run.
    run_moves (wiring g.A.Actor.steps n) (answers g.A.Actor.steps n inputs) (firings p b) (capacity p)
    (at_start (wiring g.A.Actor.steps n)) es run

pub returns-clause-histories : goal.returns-clause-histories
returns-clause-histories g c =
    runs_end_in_histories g.A.Actor.steps
