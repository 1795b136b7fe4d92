use Rattle.std.proofs.Common.{◌*◌, arith}
use Rattle.std.proofs.lemmas.List.{take_at}
use Rattle.sdf_rings.proofs.seat.run_ends.BatchBlocks.take_front.Goals as goal

pub returns : goal.returns
returns g c = λ i d h.
    let all = c.args.self.now.size * c.args.self.now.many in
    rw (take_at c.take.new.taken c.split_at_mut-front.result.1.now all (omega arith)) (c.take.ensures i d h)
