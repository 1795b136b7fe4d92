use Rattle.std.proofs.Common.{◌≡◌, map, take}
use Rattle.sdf_rings.specs.Asks.{dealt}
use Rattle.sdf_rings.specs.Begun.{place}
use Rattle.sdf_rings.proofs.setup.assignment.Assignment.block_of.Given as goal

abbrev pub invariant-loop-actor : goal.invariant-loop-actor
invariant-loop-actor l = l.left.items ≡ map (λ a. (place l.self.places.now a).1)
    (dealt l.self.places.now (take l.actor-index l.self.order.now) l.seat)
