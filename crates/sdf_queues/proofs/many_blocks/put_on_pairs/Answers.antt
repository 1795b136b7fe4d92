use Rattle.std.proofs.Common.{◌++◌, slice_range, sym, ap, ◌∙◌}
use Rattle.sdf_queues.specs.Blocks.{samples, room}
use Rattle.sdf_node.specs.Many.{nth_block, joined}
use Rattle.sdf_queues.proofs.TwoPorts.{pair_put, pair_rooms, lifted, other_first, other_second}
use Rattle.sdf_queues.proofs.many_blocks.put_on_pairs.Goals as goal

pub returns-clause-queues : goal.returns-clause-queues
returns-clause-queues g c = λ d k.
    let was = c.args.queues.now in
    let e = c.take_out-target.new.self in
    let p = c.put_pairs.new.first in
    let q = c.put_pairs.new.second in
    let x = c.index-queues-first.result in
    let y = c.index-queues-second.result in
    ap (λ qs. samples qs d) (lifted c.requires.pairs was c.requires.ports e p q)
    ∙ pair_put c.requires.pairs was c.requires.ports c.args.block.now c.args.times x y p q
    (ap (λ h. h.samples) c.put_pairs.ensures.first
    ∙ ap (λ h. h.samples ++ joined (λ j. slice_range (nth_block 2 c.args.block.now j) 0 1) c.args.times)
    (other_first c.requires.pairs was c.requires.ports e x))
    (ap (λ h. h.samples) c.put_pairs.ensures.second
    ∙ ap (λ h. h.samples ++ joined (λ j. slice_range (nth_block 2 c.args.block.now j) 1 2) c.args.times)
    c.take_out-target.ensures) d k

pub returns-clause-rooms : goal.returns-clause-rooms
returns-clause-rooms g c = λ d k.
    let was = c.args.queues.now in
    let e = c.take_out-target.new.self in
    let p = c.put_pairs.new.first in
    let q = c.put_pairs.new.second in
    let x = c.index-queues-first.result in
    let y = c.index-queues-second.result in
    ap (λ qs. room qs d) (lifted c.requires.pairs was c.requires.ports e p q)
    ∙ pair_rooms c.requires.pairs was c.requires.ports x y p q
    (ap (λ h. h.room) c.put_pairs.ensures.first
    ∙ ap (λ h. h.room) (other_first c.requires.pairs was c.requires.ports e x))
    (ap (λ h. h.room) c.put_pairs.ensures.second ∙ (ap (λ h. h.room) c.take_out-target.ensures
    ∙ ap (λ h. h.room) (sym (other_second c.requires.pairs was c.requires.ports p y)))) d k
