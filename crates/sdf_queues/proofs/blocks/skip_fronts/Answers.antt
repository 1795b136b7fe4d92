use Rattle.std.proofs.Common.{slice_index, ap}
use Rattle.sdf_queues.proofs.Ports.{turn_at, holds, rooms_more, taken_more}
use Rattle.sdf_queues.proofs.blocks.skip_fronts.Goals as goal

pub release-requires : goal.release-requires
release-requires g c =
    let turn = turn_at c.args.queues.now c.loop-c.queues c.loop-c.c-index c.requires.ports c.loop-c.auto.queues
    c.loop-c-test.true in
    holds turn (slice_index turn.sizes) c.index-queues-c.result c.requires.held c.loop-c.invariant.queues

pub loop-c-preserved : goal.loop-c-preserved
loop-c-preserved g c =
    let turn = turn_at c.args.queues.now c.loop-c.queues c.loop-c.c-index c.requires.ports c.loop-c.auto.queues
    c.loop-c-test.true in
    record {
      queues = taken_more turn (slice_index turn.sizes) c.index-queues-c.result c.release.new.self
          (ap (λ q. q.samples) c.release.ensures) c.loop-c.invariant.queues;
      rooms = rooms_more turn c.index-queues-c.result c.release.new.self
          (ap (λ q. q.room) c.release.ensures) c.loop-c.invariant.rooms;
    }
