use Rattle.std.proofs.Common.{arith}
use Rattle.sdf_rings.proofs.RoundsFire.{idle_leaves}
use Rattle.sdf_rings.proofs.rings.Rings.round.Goals as goal

pub returns-clause-planned : goal.returns-clause-planned
returns-clause-planned g c = λ order cap plan.
    c.meet.ensures.planned order cap (c.work_all.ensures.planned order cap plan)

pub returns-clause-fires : goal.returns-clause-fires
returns-clause-fires g c = λ met order cap plan some.
    let fewer = c.work_all.ensures.fires met order cap plan some in
    let rest = idle_leaves g.A.Actor.steps c.meet.new.self.net c.work_all.new.self.seats c.meet.new.self.seats
    c.meet.ensures.same.3 c.meet.ensures.idle in
    omega arith
