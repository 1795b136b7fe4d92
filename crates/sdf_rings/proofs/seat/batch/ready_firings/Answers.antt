use Rattle.std.proofs.Common.{length, ap, arith}
use Rattle.sdf_rings.proofs.RunFired.{at_zero, can_run}
use Rattle.sdf_rings.proofs.RingNodeRows.{row_known, ends_row}
use Rattle.sdf_rings.proofs.seat.batch.ready_firings.Goals as goal

pub returns-clause-can : goal.returns-clause-can
returns-clause-can g c =
    can_run c.requires.ring_node c.requires.goes c.node-node.ensures.value c.row.ensures c.row-2.ensures
    c.takes.ensures c.puts.ensures c.requires.left
    c.whole_blocks-many.ensures.within (let h = c.whole_blocks-many.ensures.held in omega arith)
    c.whole_blocks-many-2.ensures.within (let h = c.whole_blocks-many-2.ensures.held in omega arith)
    c.blocks_held-many.ensures.within c.blocks_free.ensures.within c.as_slice.ensures.value
    c.blocks_held-many.ensures.held c.as_slice-2.ensures.value c.blocks_free.ensures.free

pub row-requires : goal.row-requires
row-requires g c =
    row_known c.requires.ring_node c.requires.ring_node.takes (at_zero c.requires.ring_node c.requires.goes)

pub row-requires-2 : goal.row-requires-2
row-requires-2 g c =
    row_known c.requires.ring_node c.requires.ring_node.puts (at_zero c.requires.ring_node c.requires.goes)

pub blocks_held-many-requires : goal.blocks_held-many-requires
blocks_held-many-requires g c =
    let st = c.requires.ring_node in
    ends_row st st.takes (at_zero st c.requires.goes) c.row.ensures c.as_slice.result.now
    (omega (arith, st.ins_all, ap length c.as_slice.ensures.value))

pub blocks_free-requires : goal.blocks_free-requires
blocks_free-requires g c =
    let st = c.requires.ring_node in
    ends_row st st.puts (at_zero st c.requires.goes) c.row-2.ensures c.as_slice-2.result.now
    (omega (arith, st.outs_all, ap length c.as_slice-2.ensures.value))
