use Rattle.std.proofs.Common.{slice_index}
use Rattle.sdf_rings.proofs.Looks.{gave_then, room_kept}
use Rattle.sdf_rings.specs.Blocks.{block_of}
use Rattle.sdf_rings.proofs.OwnEnds.{own_begin_before}
use Rattle.sdf_rings.proofs.seat.ring_node.sync_and_put.Goals as goal

pub put_each-requires-clause-room : goal.put_each-requires-clause-room
put_each-requires-clause-room g c = room_kept (slice_index c.args.sizes.now) c.args.outs.now c.sync_own.new.outs
    c.sync_own.auto.outs c.sync_own.ensures.outs c.requires.room

pub returns-clause-gave : goal.returns-clause-gave
returns-clause-gave g c = gave_then c.args.outs.now c.sync_own.new.outs c.put_each.new.ends
    (λ i. block_of (slice_index c.args.sizes.now) i c.args.put.now) c.sync_own.auto.outs c.sync_own.ensures.outs
    c.put_each.ensures

pub returns-clause-begin : goal.returns-clause-begin
returns-clause-begin g c = own_begin_before c.args.net.now c.args.actor c.sync_own.new.ins c.args.outs.now
    c.sync_own.new.outs c.sync_own.auto.outs c.sync_own.ensures.outs c.sync_own.ensures.begin
