use Rattle.sdf_warm_up.proofs.Theorems.{states_were_left}
use Rattle.sdf_parallel.proofs.split.resume_split.Goals as goal

pub run_queue-requires-clause-rest : goal.run_queue-requires-clause-rest
run_queue-requires-clause-rest g c κs within =
    let w = c.args.split in
    let left = c.requires.rest in
    states_were_left g.A.Actor.steps w.net.now w.period.now left.1 left.0 c.args.rest.now
    (c.nets_have_periods.ensures w.period.now c.requires.split.period) left.2
