use Rattle.sdf_actor.specs.Wires.{lists}
use Rattle.run_tests.proofs.small_nets.in_pieces.Goals as goal

pub resume_one-requires-clause-rest : goal.resume_one-requires-clause-rest
resume_one-requires-clause-rest g c κs within =
    let made = c.in_ok-ran.ensures.1 in
    (lists c.args.first.now, c.args.periods.0, record { history = made.history; is = made.is; left = made.left })
