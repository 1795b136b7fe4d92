use Rattle.std.proofs.Common.{◌*◌, ◌≤◌, length, take, ap, sym, ◌∙◌, subst, arith, refl}
use Rattle.std.specs.Vec.{with_items}
use Rattle.std.proofs.lemmas.List.{with_items_is, length-take-le}
use Rattle.sdf_node.specs.Nodes.{takes_of, puts_of}
use Rattle.sdf_rings.proofs.RunFired.{in_ports, out_ports, holds_run, room_run, drew_run, gave_run, can_step_run}
use Rattle.sdf_rings.proofs.RunFired.{taken_within, put_within, run_fired, at_zero}
use Rattle.sdf_rings.proofs.RingNodeRows.{row_known}
use Rattle.sdf_rings.proofs.seat.batch.fire_batch_blocks.Goals as goal

pub take_front-requires-clause-ports : goal.take_front-requires-clause-ports
take_front-requires-clause-ports g c =
    in_ports c.requires.net c.requires.ring_node c.requires.can c.node-node.ensures.value c.takes.ensures c.row.ensures
    (c.as_mut_slice.ensures.len ∙ c.requires.ring_node.ins_all)

pub take_front-requires-clause-known : goal.take_front-requires-clause-known
take_front-requires-clause-known g c =
    holds_run c.requires.net c.requires.ring_node c.requires.can c.row.ensures c.as_mut_slice.ensures.value

pub step_front_many-requires-clause-can : goal.step_front_many-requires-clause-can
step_front_many-requires-clause-can g c κs within =
    let all = c.takes.result * c.args.many in
    let fits = taken_within c.requires.net c.requires.ring_node c.requires.can c.node-node.ensures.value
    c.takes.ensures in
    can_step_run c.requires.net c.requires.ring_node c.requires.can c.node-node.ensures.value
    c.takes.ensures c.puts.ensures
    (length-take-le all c.deref.result.now (omega arith)) refl

pub put-requires-clause-ports : goal.put-requires-clause-ports
put-requires-clause-ports g c =
    out_ports c.requires.net c.requires.ring_node c.requires.can c.node-node.ensures.value c.puts.ensures
    c.row-2.ensures
    (c.as_mut_slice-5.ensures.len ∙ c.requires.ring_node.outs_all)

pub put-requires-clause-room : goal.put-requires-clause-room
put-requires-clause-room g c =
    room_run c.requires.net c.requires.ring_node c.requires.can c.row-2.ensures c.as_mut_slice-5.ensures.value

pub returns-clause-fired : goal.returns-clause-fired
returns-clause-fired g c =
    let s = g.A.Actor.steps in
    let net = c.requires.net in
    let x = c.args.ring_node.now in
    let st = c.requires.ring_node in
    let can = c.requires.can in
    let y_is = c.node-node.ensures.value in
    let many = c.args.many in
    let all = c.takes.result * many in
    let more = c.puts.result * many in
    let size_is = c.takes.ensures ∙ ap (λ v. takes_of s v 0) y_is in
    let made_is = c.puts.ensures ∙ ap (λ v. puts_of s v 0) y_is in
    let fits = taken_within net st can y_is c.takes.ensures in
    let holds = put_within net st can y_is c.puts.ensures in
    let seen_taken = with_items x.taken c.take_front.new.taken in
    let taken = with_items_is x.taken c.take_front.new.taken (omega arith) in
    let after = with_items_is seen_taken c.put.new.scratch (omega (arith, ap length taken)) in
    let seen_put = with_items x.put c.take_front.new.scratch in
    let gathered = with_items_is x.put c.take_front.new.scratch (omega arith) in
    let put = with_items_is seen_put c.step_front_many.new.put (omega (arith, ap length gathered)) in
    let ins = with_items_is x.ins c.take_front.new.ends (omega arith) in
    let outs = with_items_is x.outs c.put.new.ends (omega arith) in
    let seen = ap (take all) (c.deref.ensures.value ∙ taken) in
    let out = ap (take more) (c.deref-2.ensures.value ∙ put) in
    let t = take all c.take_front.new.taken in
    let b = take more c.step_front_many.new.put in
    let drew = drew_run net st can c.row.ensures size_is c.as_mut_slice.ensures.value c.take_front.new.ends t
    c.take_front.ensures in
    let gave = gave_run net st can c.row-2.ensures made_is c.as_mut_slice-5.ensures.value c.put.new.ends b
    (rw out at c.put.ensures) in
    run_fired net st can (record {
      t = t;
      b = b;
      w = c.step_front_many.new.state;
      t_long = length-take-le all c.take_front.new.taken (omega arith) ∙ ap (λ m. m * many) size_is;
      b_long = length-take-le more c.step_front_many.new.put (omega arith) ∙ ap (λ m. m * many) made_is;
      moved = rw (seen, y_is) at c.step_front_many.ensures.state;
      puts = rw (seen, y_is) at c.step_front_many.ensures.put;
      held = record {
        ins = with_items x.ins c.take_front.new.ends;
        outs = with_items x.outs c.put.new.ends;
        taken = with_items seen_taken c.put.new.scratch;
        put = with_items seen_put c.step_front_many.new.put;
        drew = rw ins drew;
        gave = rw outs gave;
        ins_is = omega arith;
        outs_is = omega arith;
        taken_is = ap length after ∙ omega (arith, ap length taken);
        put_is = ap length put ∙ omega (arith, ap length gathered);
      };
    })

pub take_front-requires-clause-long : goal.take_front-requires-clause-long
take_front-requires-clause-long g c =
    let fits = taken_within c.requires.net c.requires.ring_node c.requires.can c.node-node.ensures.value
    c.takes.ensures in
    subst (λ ts. c.takes.result * c.args.many ≤ length ts) (sym c.as_mut_slice-2.ensures.value) fits

pub returns-clause-done : goal.returns-clause-done
returns-clause-done g c = refl

pub returns-clause-asked : goal.returns-clause-asked
returns-clause-asked g c = refl

pub row-requires : goal.row-requires
row-requires g c =
    row_known c.requires.ring_node c.requires.ring_node.takes (at_zero c.requires.ring_node c.requires.can.goes)

pub row-requires-2 : goal.row-requires-2
row-requires-2 g c =
    row_known c.requires.ring_node c.requires.ring_node.puts (at_zero c.requires.ring_node c.requires.can.goes)
