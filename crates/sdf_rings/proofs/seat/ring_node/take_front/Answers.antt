use Rattle.std.proofs.Common.{arith}
use Rattle.std.proofs.lemmas.List.{take_at}
use Rattle.sdf_rings.proofs.seat.ring_node.take_front.Goals as goal

pub returns : goal.returns
returns g c = λ i d h. rw (take_at c.take_each.new.taken c.split_at_mut-front.result.1.now c.args.many (omega arith))
    (c.take_each.ensures i d h)
