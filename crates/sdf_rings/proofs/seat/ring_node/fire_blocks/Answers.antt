use Rattle.std.proofs.Common.{◌≤◌, [], length, get_or, take, slice_index, refl, sym, ap, ◌∙◌, subst, arith}
use Rattle.std.specs.Vec.{with_items}
use Rattle.std.proofs.lemmas.List.{with_items_is, length-take-le}
use Rattle.rtrb.specs.Ring.{known_items, known_free}
use Rattle.sdf_actor.specs.Wires.{lists}
use Rattle.sdf_actor.specs.declared.sides.Side.TheVariants.{Input, Output}
use Rattle.sdf_actor.specs.Nets.{node}
use Rattle.sdf_rings.specs.Blocks.{start_at, block_of}
use Rattle.sdf_rings.specs.Ends.{Drew, Gave, HoldsEach, HasRoomEach}
use Rattle.sdf_queues.specs.Sizes.{sizes}
use Rattle.sdf_rings.proofs.Firing.{fired}
use Rattle.sdf_rings.proofs.Looks.{drew_then, gave_none}
use Rattle.sdf_rings.proofs.OwnEnds.{own_pairs_kept}
use Rattle.sdf_rings.proofs.RingNodeRows.{can_step, row_known, row_sum, taken_is, put_is, taken_fits, put_fits}
use Rattle.sdf_rings.proofs.RingNodeRows.{ends_row}
use Rattle.sdf_rings.proofs.RingNodeRows.{by_row, moved_by_firing}
use Rattle.sdf_rings.proofs.seat.ring_node.fire_blocks.Goals as goal

pub take_front-requires-clause-many : goal.take_front-requires-clause-many
take_front-requires-clause-many g c =
    let s = g.A.Actor.steps in
    let n = c.args.net.now in
    let x = c.args.ring_node.now in
    let st = c.requires.ring_node in
    let inputs = lists c.args.inputs.now in
    taken_is st c.node-node.ensures.value c.phase-phase.ensures c.takes-many.ensures ∙
    (sym (row_sum st st.takes c.phase-phase.ensures c.row.ensures) ∙
    ap (start_at (slice_index c.row.result.now)) (sym (c.as_mut_slice.ensures.len ∙ st.ins_all)))

pub take_front-requires-clause-known : goal.take_front-requires-clause-known
take_front-requires-clause-known g c =
    let s = g.A.Actor.steps in
    let n = c.args.net.now in
    let x = c.args.ring_node.now in
    let st = c.requires.ring_node in
    by_row st st.takes c.phase-phase.ensures c.row.ensures c.as_mut_slice.result.now
    (c.as_mut_slice.ensures.len ∙ st.ins_all) (λ m e. m ≤ length (known_items e))
    (subst (HoldsEach (sizes s Input (node n x.actor) x.done)) (sym c.as_mut_slice.ensures.value) c.requires.can.holds)

pub slice_bounds-step_front-end : goal.slice_bounds-step_front-end
slice_bounds-step_front-end g c =
    let x = c.args.ring_node.now in
    let fits = taken_fits c.requires.ring_node c.node-node.ensures.value c.phase-phase.ensures c.requires.left
    c.takes-many.ensures in
    sym (length-take-le c.takes-many.result c.deref.result.now (omega arith))

pub step_front-requires-clause-can : goal.step_front-requires-clause-can
step_front-requires-clause-can g c = λ κs within.
    let x = c.args.ring_node.now in
    let fits = taken_fits c.requires.ring_node c.node-node.ensures.value c.phase-phase.ensures c.requires.left
    c.takes-many.ensures in
    can_step c.requires.ring_node c.requires.left c.node-node.ensures.value c.phase-phase.ensures
    (length-take-le c.takes-many.result c.deref.result.now (omega arith) ∙ c.takes-many.ensures) c.puts-more.ensures

pub slice_bounds-sync_and_put-end : goal.slice_bounds-sync_and_put-end
slice_bounds-sync_and_put-end g c =
    let x = c.args.ring_node.now in
    let fits = put_fits c.requires.ring_node c.node-node.ensures.value c.phase-phase.ensures c.requires.left
    c.puts-more.ensures in
    sym (length-take-le c.puts-more.result c.deref-2.result.now (omega arith))

pub sync_and_put-requires-clause-ports : goal.sync_and_put-requires-clause-ports
sync_and_put-requires-clause-ports g c = λ κs within.
    let x = c.args.ring_node.now in
    ends_row c.requires.ring_node c.requires.ring_node.puts c.phase-phase.ensures c.row-2.ensures
    c.as_mut_slice-5.result.now
    (c.as_mut_slice-5.ensures.len ∙ c.requires.ring_node.outs_all)

pub sync_and_put-requires-clause-length : goal.sync_and_put-requires-clause-length
sync_and_put-requires-clause-length g c = λ κs within.
    let s = g.A.Actor.steps in
    let n = c.args.net.now in
    let x = c.args.ring_node.now in
    let st = c.requires.ring_node in
    let inputs = lists c.args.inputs.now in
    let fits = put_fits st c.node-node.ensures.value c.phase-phase.ensures c.requires.left c.puts-more.ensures in
    length-take-le c.puts-more.result c.deref-2.result.now (omega arith) ∙
    (put_is st c.node-node.ensures.value c.phase-phase.ensures c.puts-more.ensures ∙
    (sym (row_sum st st.puts c.phase-phase.ensures c.row-2.ensures) ∙
    ap (start_at (slice_index c.row-2.result.now)) (sym (c.as_mut_slice-5.ensures.len ∙ st.outs_all))))

pub sync_and_put-requires-clause-room : goal.sync_and_put-requires-clause-room
sync_and_put-requires-clause-room g c = λ κs within.
    let s = g.A.Actor.steps in
    let n = c.args.net.now in
    let x = c.args.ring_node.now in
    let st = c.requires.ring_node in
    by_row st st.puts c.phase-phase.ensures c.row-2.ensures c.as_mut_slice-5.result.now
    (c.as_mut_slice-5.ensures.len ∙ st.outs_all) (λ m e. m ≤ known_free e)
    (subst (HasRoomEach (sizes s Output (node n x.actor) x.done)) (sym c.as_mut_slice-5.ensures.value)
    c.requires.can.has_room)

pub returns-clause-fired : goal.returns-clause-fired
returns-clause-fired g c =
    let s = g.A.Actor.steps in
    let n = c.args.net.now in
    let x = c.args.ring_node.now in
    let st = c.requires.ring_node in
    let inputs = lists c.args.inputs.now in
    let y = c.node-node.result.now in
    let y_is = c.node-node.ensures.value in
    let j = c.phase-phase.result in
    let j_is = c.phase-phase.ensures in
    let many = c.takes-many.result in
    let more = c.puts-more.result in
    let fits = taken_fits st y_is j_is c.requires.left c.takes-many.ensures in
    let holds = put_fits st y_is j_is c.requires.left c.puts-more.ensures in
    let taken = with_items_is x.taken c.take_front.new.taken (omega arith) in
    let put = with_items_is x.put c.step_front.new.put (omega arith) in
    let mid = with_items x.ins c.take_front.new.ends in
    let ins = with_items_is x.ins c.take_front.new.ends (omega arith) in
    let synced = with_items_is mid c.sync_and_put.new.ins (omega arith) in
    let outs = with_items_is x.outs c.sync_and_put.new.outs (omega arith) in
    let seen = ap (take many) (c.deref.ensures.value ∙ taken) in
    let out = ap (take more) (c.deref-2.ensures.value ∙ put) in
    let took = moved_by_firing st st.takes j_is c.row.ensures c.as_mut_slice.result.now
    (c.as_mut_slice.ensures.len ∙ st.ins_all) Drew c.take_front.new.ends (take many c.take_front.new.taken)
    c.take_front.ensures in
    let drew = drew_then x.ins.items c.take_front.new.ends c.sync_and_put.new.ins
    (λ i. block_of (sizes s Input (node n x.actor) x.done) i (take many c.take_front.new.taken)) (omega arith)
    (rw c.as_mut_slice.ensures.value at took) (rw (c.as_mut_slice-4.ensures.value ∙ ins) at
    c.sync_and_put.ensures.looked) in
    let gave = moved_by_firing st st.puts j_is c.row-2.ensures c.as_mut_slice-5.result.now
    (c.as_mut_slice-5.ensures.len ∙ st.outs_all) Gave c.sync_and_put.new.outs (take more c.step_front.new.put)
    (rw out at c.sync_and_put.ensures.gave) in
    fired c.requires.net st (record {
      left = c.requires.left;
      t = take many c.take_front.new.taken;
      b = take more c.step_front.new.put;
      w = c.step_front.new.state;
      t_long = length-take-le many c.take_front.new.taken (omega arith) ∙ taken_is st y_is j_is c.takes-many.ensures;
      b_long = length-take-le more c.step_front.new.put (omega arith) ∙ put_is st y_is j_is c.puts-more.ensures;
      moved = rw (seen, y_is) at c.step_front.ensures.state;
      puts = rw (seen, y_is) at c.step_front.ensures.put;
      held = record {
        ins = with_items mid c.sync_and_put.new.ins;
        outs = with_items x.outs c.sync_and_put.new.outs;
        taken = with_items x.taken c.take_front.new.taken;
        put = with_items x.put c.step_front.new.put;
        drew = rw synced drew;
        gave = rw outs (rw c.as_mut_slice-5.ensures.value at gave);
        ins_is = omega arith;
        outs_is = omega arith;
        taken_is = ap length taken ∙ omega arith;
        put_is = ap length put ∙ omega arith;
      };
      begin = rw synced (rw c.as_mut_slice-5.ensures.value at c.sync_and_put.ensures.begin);
    })

pub sync_and_put-requires-clause-pairs : goal.sync_and_put-requires-clause-pairs
sync_and_put-requires-clause-pairs g c = λ κs within.
    let x = c.args.ring_node.now in
    let ins = with_items_is x.ins c.take_front.new.ends (omega arith) in
    rw (c.as_mut_slice-4.ensures.value ∙ ins, c.as_mut_slice-5.ensures.value)
    (own_pairs_kept c.args.net.now x.actor x.ins.items c.take_front.new.ends x.outs.items x.outs.items
    (λ i. block_of (slice_index c.row.result.now) i (take c.takes-many.result c.take_front.new.taken)) (λ _. [])
    (omega arith) refl
    (rw c.as_mut_slice.ensures.value at c.take_front.ensures) (λ i d h. gave_none (get_or x.outs.items i d))
    c.requires.ring_node.own_pairs)

pub row-requires : goal.row-requires
row-requires g c =
    row_known c.requires.ring_node c.requires.ring_node.takes c.phase-phase.ensures

pub row-requires-2 : goal.row-requires-2
row-requires-2 g c =
    row_known c.requires.ring_node c.requires.ring_node.puts c.phase-phase.ensures

pub take_front-requires-clause-ports : goal.take_front-requires-clause-ports
take_front-requires-clause-ports g c =
    let st = c.requires.ring_node in
    ends_row st st.takes c.phase-phase.ensures c.row.ensures c.as_mut_slice.result.now
    (c.as_mut_slice.ensures.len ∙ st.ins_all)

pub take_front-requires-clause-long : goal.take_front-requires-clause-long
take_front-requires-clause-long g c =
    subst (λ ts. c.takes-many.result ≤ length ts) (sym c.as_mut_slice-2.ensures.value)
    (taken_fits c.requires.ring_node c.node-node.ensures.value c.phase-phase.ensures c.requires.left
    c.takes-many.ensures)

pub step_front-requires-clause-long : goal.step_front-requires-clause-long
step_front-requires-clause-long g c = λ κs within.
    subst (λ ts. c.puts-more.result ≤ length ts) (sym c.as_mut_slice-3.ensures.value)
    (put_fits c.requires.ring_node c.node-node.ensures.value c.phase-phase.ensures c.requires.left c.puts-more.ensures)
