use Rattle.std.proofs.Common.{◌≤◌, length, rules, refl, sym, ◌∙◌, subst, arith}
use Rattle.std.specs.Vec.{with_items}
use Rattle.std.proofs.lemmas.List.{with_items_is}
use Rattle.rtrb.specs.Ring.{known_items, known_free}
use Rattle.sdf_actor.specs.Wires.{lists}
use Rattle.sdf_actor.specs.declared.sides.Side.TheVariants.{Input, Output}
use Rattle.sdf_actor.specs.Nets.{node}
use Rattle.sdf_rings.specs.Ends.{HoldsEach, HasRoomEach}
use Rattle.sdf_queues.specs.Sizes.{sizes}
use Rattle.sdf_rings.proofs.Looks.{gave_none}
use Rattle.sdf_rings.proofs.Looking.{looked_ring_node, looked_moved}
use Rattle.sdf_rings.proofs.RingNodeRows.{ends_row, by_row, by_firing}
use Rattle.sdf_rings.proofs.seat.ring_node.is_ready.Goals as goal

pub returns-then-not-each_holds-clause-ring_node : goal.returns-then-not-each_holds-clause-ring_node
returns-then-not-each_holds-clause-ring_node g c =
    let x = c.args.ring_node.now in
    let ins = with_items_is x.ins c.each_holds.new.ends (omega arith) in
    looked_ring_node x (with_items x.ins c.each_holds.new.ends) x.outs
    (rw ins (rw c.as_mut_slice.ensures.value at c.each_holds.ensures.looked)) (λ i d h. gave_none _) refl
    refl c.requires

pub returns-then-not-each_holds-clause-moved : goal.returns-then-not-each_holds-clause-moved
returns-then-not-each_holds-clause-moved g c =
    let x = c.args.ring_node.now in
    let ins = with_items_is x.ins c.each_holds.new.ends (omega arith) in
    looked_moved x (with_items x.ins c.each_holds.new.ends) x.outs
    (rw ins (rw c.as_mut_slice.ensures.value at c.each_holds.ensures.looked)) (λ i d h. gave_none _) refl refl

pub returns-clause-ring_node : goal.returns-clause-ring_node
returns-clause-ring_node g c =
    let x = c.args.ring_node.now in
    let ins = with_items_is x.ins c.each_holds.new.ends (omega arith) in
    let outs = with_items_is x.outs c.each_has_room.new.ends (omega arith) in
    looked_ring_node x (with_items x.ins c.each_holds.new.ends)
    (with_items x.outs c.each_has_room.new.ends)
    (rw ins (rw c.as_mut_slice.ensures.value at c.each_holds.ensures.looked))
    (rw outs (rw c.as_mut_slice-2.ensures.value at c.each_has_room.ensures.looked)) refl refl c.requires

pub returns-clause-moved : goal.returns-clause-moved
returns-clause-moved g c =
    let x = c.args.ring_node.now in
    let ins = with_items_is x.ins c.each_holds.new.ends (omega arith) in
    let outs = with_items_is x.outs c.each_has_room.new.ends (omega arith) in
    looked_moved x (with_items x.ins c.each_holds.new.ends)
    (with_items x.outs c.each_has_room.new.ends)
    (rw ins (rw c.as_mut_slice.ensures.value at c.each_holds.ensures.looked))
    (rw outs (rw c.as_mut_slice-2.ensures.value at c.each_has_room.ensures.looked)) refl refl

pub each_holds-requires : goal.each_holds-requires
each_holds-requires g c =
    let x = c.args.ring_node.now in
    ends_row c.requires c.requires.takes c.phase-phase.ensures c.row.ensures c.as_mut_slice.result.now
    (c.as_mut_slice.ensures.len ∙ c.requires.ins_all)

pub each_has_room-requires : goal.each_has_room-requires
each_has_room-requires g c =
    let x = c.args.ring_node.now in
    ends_row c.requires c.requires.puts c.phase-phase.ensures c.row-2.ensures c.as_mut_slice-2.result.now
    (c.as_mut_slice-2.ensures.len ∙ c.requires.outs_all)

pub returns-then-not-each_holds-clause-no : goal.returns-then-not-each_holds-clause-no
returns-then-not-each_holds-clause-no g c = λ f can.
    let s = g.A.Actor.steps in
    let x = c.args.ring_node.now in
    let st = c.requires in
    let ins = with_items_is x.ins c.each_holds.new.ends (omega arith) in
    let no = c.each_holds.ensures.no (search rules) in
    no (by_row st st.takes c.phase-phase.ensures c.row.ensures c.each_holds.new.ends
    (omega (arith, st.ins_all, c.as_mut_slice.ensures.len)) (λ m e. m ≤ length (known_items e))
    (subst (HoldsEach (sizes s Input (node c.args.net.now x.actor) x.done)) ins can.holds))

pub returns-clause-yes : goal.returns-clause-yes
returns-clause-yes g c = λ t.
    let s = g.A.Actor.steps in
    let n = c.args.net.now in
    let x = c.args.ring_node.now in
    let st = c.requires in
    let inputs = lists c.args.inputs.now in
    let ins = with_items_is x.ins c.each_holds.new.ends (omega arith) in
    let outs = with_items_is x.outs c.each_has_room.new.ends (omega arith) in
    record {
      holds = subst (HoldsEach (sizes s Input (node n x.actor) x.done)) (sym ins)
          (by_firing st st.takes c.phase-phase.ensures c.row.ensures c.each_holds.new.ends
          (omega (arith, st.ins_all, c.as_mut_slice.ensures.len)) (λ m e. m ≤ length (known_items e))
          (c.each_holds.ensures.yes (search rules)));
      has_room = subst (HasRoomEach (sizes s Output (node n x.actor) x.done)) (sym outs)
          (by_firing st st.puts c.phase-phase.ensures c.row-2.ensures c.each_has_room.new.ends
          (omega (arith, st.outs_all, c.as_mut_slice-2.ensures.len)) (λ m e. m ≤ known_free e)
          (c.each_has_room.ensures.yes t));
    }

pub returns-clause-no : goal.returns-clause-no
returns-clause-no g c = λ f can.
    let s = g.A.Actor.steps in
    let x = c.args.ring_node.now in
    let st = c.requires in
    let outs = with_items_is x.outs c.each_has_room.new.ends (omega arith) in
    c.each_has_room.ensures.no f
    (by_row st st.puts c.phase-phase.ensures c.row-2.ensures c.each_has_room.new.ends
    (omega (arith, st.outs_all, c.as_mut_slice-2.ensures.len)) (λ m e. m ≤ known_free e)
    (subst (HasRoomEach (sizes s Output (node c.args.net.now x.actor) x.done)) outs can.has_room))
