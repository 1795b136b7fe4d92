use Rattle.std.proofs.Common.{length, arith, ap, length-append}
use Rattle.rtrb.specs.Ring.{known_items, received}
use Rattle.sdf_rings.proofs.Pairs.{pair_kept}
use Rattle.sdf_rings.proofs.rings.meet.sync_ring.Goals as goal

pub returns-clause-met : goal.returns-clause-met
returns-clause-met g c =
    let p1 = c.slots_beside.ensures.looked.0 in
    let p2 = c.slots_beside-2.ensures.producer.0 in
    let c1 = c.slots_beside.ensures.consumer.0 in
    let c2 = c.slots_beside-2.ensures.looked.0 in
    let r = c.slots_beside-2.ensures.looked.1 in
    let s = ap (λ l. length l) c.slots_beside-2.ensures.producer.1 in
    let f = ap (λ l. length l) c.slots_beside-2.ensures.fifo in
    let a = length-append (received c.slots_beside-2.new.self) (known_items c.slots_beside-2.new.self) in
    let q = ap (λ l. length l) r in
    let k = c.slots_beside.ensures.all_free in
    let v = c.slots_beside.ensures.value in
    let w = c.slots_beside-2.ensures.producer.2 in
    let cap = p2.1 in
    record {
      pair = pair_kept c.slots_beside.new.self c.slots_beside-2.new.producer c.slots_beside.new.consumer
          c.slots_beside-2.new.self (pair_kept c.args.producer.now c.slots_beside.new.self c.args.consumer.now
          c.slots_beside.new.consumer c.requires p1 c1) p2 c2;
      all_known = c.slots_beside-2.ensures.fifo;
      all_free = omega arith;
    }
