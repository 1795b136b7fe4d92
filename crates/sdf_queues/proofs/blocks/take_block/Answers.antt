use Rattle.std.proofs.Common.{slice_index, ℕ, ◌++◌, take, get_or, arith, ap, ◌∙◌}
use Rattle.std.proofs.lemmas.List.Sums.{sum_by-drop_more}
use Rattle.std.specs.List.{flat_map}
use Rattle.sdf_queues.specs.Blocks.{samples}
use Rattle.sdf_queues.proofs.Ports.{turn_at, whole, holds, rooms_more, taken_more, block_more}
use Rattle.sdf_queues.proofs.blocks.take_block.Goals as goal

pub take-requires-clause-held : goal.take-requires-clause-held
take-requires-clause-held g c =
    let turn = turn_at c.args.queues.now c.loop-c.queues c.loop-c.c-index c.requires.ports c.loop-c.auto.queues
    c.loop-c-test.true in
    holds turn (slice_index turn.sizes) c.index-queues-c.result c.requires.held c.loop-c.invariant.queues

pub loop-c-preserved : goal.loop-c-preserved
loop-c-preserved g c =
    let turn = turn_at c.args.queues.now c.loop-c.queues c.loop-c.c-index c.requires.ports c.loop-c.auto.queues
    c.loop-c-test.true in
    let d : ℕ = get_or turn.ports turn.i 0 in
    let size = slice_index turn.sizes in
    let x = c.index-queues-c.result in
    let q = c.take.new.self in
    let part = λ (e : ℕ). take (size e) (samples turn.was e) in
    let old = whole turn size x c.loop-c.invariant.queues in
    record {
      block = block_more part turn.ports turn.i c.args.block.now.items c.take.new.list.items turn.known
          (c.take.ensures.list ∙ (ap (λ xs. xs ++ take (size d) (get_or turn.now d x).samples)
          c.loop-c.invariant.block ∙
          ap (λ q. (c.args.block.now.items ++ flat_map part (take turn.i turn.ports)) ++ take (size d) q) old));
      len = let more = sum_by-drop_more size turn.ports turn.i 0 turn.known in
          omega (arith, c.take.ensures.len, c.take.ensures.capacity);
      capacity = c.take.ensures.capacity ∙ c.loop-c.invariant.capacity;
      queues = taken_more turn size x q (ap (λ q. q.samples) c.take.ensures.queue) c.loop-c.invariant.queues;
      rooms = rooms_more turn x q (ap (λ q. q.room) c.take.ensures.queue) c.loop-c.invariant.rooms;
    }
