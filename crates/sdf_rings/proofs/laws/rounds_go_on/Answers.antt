use Rattle.sdf_rings.proofs.RoundsFire.{some_seat_goes_on, rounds_fire}
use Rattle.sdf_rings.proofs.laws.rounds_go_on.Goals as goal

pub returns-clause-some : goal.returns-clause-some
returns-clause-some g c =
    some_seat_goes_on g.A.Actor.steps

pub returns-clause-fires : goal.returns-clause-fires
returns-clause-fires g c =
    rounds_fire g.A.Actor.steps
