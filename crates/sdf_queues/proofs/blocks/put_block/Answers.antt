use Rattle.std.proofs.Common.{slice_index, ℕ, ◌+◌, ◌++◌, drop, get_or, slice_set, arith, ap, ◌∙◌}
use Rattle.std.proofs.lemmas.List.Sums.{sum_by-drop_more}
use Rattle.sdf_actor.specs.Histories.{spread}
use Rattle.sdf_queues.specs.Blocks.{samples}
use Rattle.sdf_queues.proofs.Ports.{turn_at, untouched_more, put_more, rooms_more}
use Rattle.sdf_queues.proofs.blocks.put_block.Goals as goal

pub loop-c-preserved : goal.loop-c-preserved
loop-c-preserved g c =
    let turn = turn_at c.args.queues.now c.loop-c.queues c.loop-c.c-index c.requires.ports c.loop-c.auto.queues
    c.loop-c-test.true in
    let d : ℕ = get_or turn.ports turn.i 0 in
    let x = c.index-queues-c.result in
    let q = c.put.new.self in
    record {
      len = let more = sum_by-drop_more (slice_index turn.sizes) turn.ports turn.i 0 turn.known in
          omega (arith, c.split_at.ensures.back_len);
      untouched = untouched_more turn q c.loop-c.invariant.untouched;
      queues = λ e k.
          ap (λ ys. samples (slice_set turn.now d q) e
          ++ spread (slice_index turn.sizes) (drop (turn.i + 1) turn.ports) ys e) c.split_at.ensures.back ∙
          put_more turn x q c.args.block.now c.loop-c.rest.now
          (ap (λ q. q.samples) c.put.ensures ∙ ap (λ ys. (get_or turn.now d x).samples ++ ys) c.split_at.ensures.front)
          c.loop-c.invariant.queues e k;
      rooms = rooms_more turn x q (ap (λ q. q.room) c.put.ensures) c.loop-c.invariant.rooms;
    }
