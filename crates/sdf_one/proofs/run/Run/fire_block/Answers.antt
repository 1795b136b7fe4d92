use Rattle.std.proofs.Common.{◌≡◌, ◌*◌, length, get_or, ap, ◌∙◌, arith}
use Rattle.sdf_actor.proofs.Theorems.{nets_are_wired}
use Rattle.sdf_one.proofs.Sweeping.{smaller, all_fired}
use Rattle.sdf_one.proofs.run.Run.fire_block.Goals as goal

pub loop-goes-smaller : goal.loop-goes-smaller
loop-goes-smaller g c = smaller g.A.Actor.steps c.loop-goes.self c.sweep-goes.new.self
    c.loop-goes.goes c.sweep-goes.result c.loop-goes-test.true c.sweep-goes.ensures.swept c.sweep-goes.ensures.moved

pub returns-clause-done : goal.returns-clause-done
returns-clause-done g c = λ a l.
    let inv = c.loop-goes.invariant in
    let r = c.loop-goes.self in
    let nodes : length r.net.now.nodes ≡ length c.args.self.now.net.now.nodes =
    ap (λ x. length x.now.nodes) inv.keeps.net in
    all_fired g.A.Actor.steps r inv.swept
    (nets_are_wired g.A.Actor.steps r.net.now inv.swept.good).sound (inv.stops c.loop-goes-test.false) a
    (omega (arith, l, nodes)) ∙
    (λ i. inv.high i * get_or (inv.keeps.repetitions i).now a 0)
