use Rattle.std.proofs.Common.{◌≡◌, ◌+◌, ◌-◌, ◌*◌, ◌≤◌, ◌<◌, ◌++◌, ℕ, length, get_or, drop, arith, ap, sym, ◌∙◌}
use Rattle.std.specs.List.{between}
use Rattle.std.proofs.Math.Facts.{Fits-le}
use Rattle.std.proofs.lemmas.List.{length-map, length-take-le, get_or_default}
use Rattle.std.proofs.lemmas.List.Edits.{length-between}
use Rattle.sdf_actor.specs.Wires.{lists}
use Rattle.sdf_queues.specs.Blocks.{nothing}
use Rattle.sdf_queues.specs.Lists.{list}
use Rattle.sdf_one.proofs.FiringAtOnce.{fired_source, fired_sink}
use Rattle.sdf_one.proofs.Readings.{list_fits, list_is}
use Rattle.sdf_one.proofs.work.Work.fire_batch.Goals as goal

pub overflow_mul-last : goal.overflow_mul-last
overflow_mul-last g c =
    let can = rw c.in-Source.is at c.requires.work in
    let less : c.in-Source.block * c.args.times ≤ length (list c.args.inputs.now c.in-Source.ext) =
    omega (arith, can.4) in
    Fits-le less (list_fits c.args.inputs.now c.in-Source.ext
    (omega (arith, can.3, length-map c.args.inputs.now (λ v. v.items))))

pub overflow_add-last : goal.overflow_add-last
overflow_add-last g c =
    let can = rw c.in-Source.is at c.requires.work in
    Fits-le can.4 (list_fits c.args.inputs.now c.in-Source.ext
    (omega (arith, can.3, length-map c.args.inputs.now (λ v. v.items))))

pub put-requires : goal.put-requires
put-requires g c =
    let can = rw c.in-Source.is at c.requires.work in
    let to : ℕ = get_or c.args.ports.now.outs.channels.now 0 0 in
    let last : ℕ = c.in-Source.next + c.in-Source.block * c.args.times in
    let known : to < length c.args.queues.now = c.requires.outs_are.known 0 (omega (arith, can.1)) in
    let x = get_or_default c.args.queues.now to nothing c.index-queues-ports.result known in
    let fits : length (get_or c.args.queues.now to c.index-queues-ports.result).samples
    + c.args.times * get_or c.args.ports.now.outs.sizes.now to 0 ≤
    (get_or c.args.queues.now to c.index-queues-ports.result).room =
    rw (sym x) (c.requires.room 0 (omega (arith, can.1))) in
    let items : list c.args.inputs.now c.in-Source.ext ≡ c.deref.result.now =
    list_is c.args.inputs.now c.in-Source.ext c.index-inputs-ext.result
    (omega (arith, can.3, length-map c.args.inputs.now (λ v. v.items)))
    ∙ (ap (λ v. v.items) (sym c.index-inputs-ext.is) ∙ sym c.deref.ensures.value) in
    let long : length (between c.in-Source.next last c.deref.result.now) ≡ last - c.in-Source.next =
    length-between c.deref.result.now c.in-Source.next last (omega (arith, can.4, ap length items)) in
    omega (arith, fits, can.2)

pub returns-in-Source : goal.returns-in-Source
returns-in-Source g c =
    let can = rw c.in-Source.is at c.requires.work in
    let last : ℕ = c.in-Source.next + c.in-Source.block * c.args.times in
    let items : list c.args.inputs.now c.in-Source.ext ≡ c.deref.result.now =
    list_is c.args.inputs.now c.in-Source.ext c.index-inputs-ext.result
    (omega (arith, can.3, length-map c.args.inputs.now (λ v. v.items)))
    ∙ (ap (λ v. v.items) (sym c.index-inputs-ext.is) ∙ sym c.deref.ensures.value) in
    fired_source g.A.Actor.steps (lists c.args.inputs.now) c.args.times c.args.ports.now.ins.channels.now
    c.args.ports.now.outs.channels.now c.args.ports.now.ins.sizes.now c.args.ports.now.outs.sizes.now c.args.queues.now
    c.args.outputs.now
    c.args.self.now c.in-Source.ext c.in-Source.next c.in-Source.block c.put.new.self c.index-queues-ports.result
    c.in-Source.is c.requires
    (ap (λ q. q.samples) c.put.ensures ∙ ap (λ ys.
    (get_or c.args.queues.now (get_or c.args.ports.now.outs.channels.now 0 0) c.index-queues-ports.result).samples
    ++ between c.in-Source.next last ys) (sym items))
    (ap (λ q. q.room) c.put.ensures)

pub returns-in-Sink : goal.returns-in-Sink
returns-in-Sink g c =
    let can = rw c.in-Sink.is at c.requires.work in
    let qs = c.args.queues.now in
    let takes = c.args.ports.now.ins.sizes.now in
    let from : ℕ = get_or c.args.ports.now.ins.channels.now 0 0 in
    let x = c.index-queues-from.result in
    let known : from < length qs = c.requires.ins_are.known 0 (omega (arith, can.1)) in
    let same : get_or qs from c.index-queues-from-in-Sink.result ≡ get_or qs from x =
    get_or_default qs from c.index-queues-from-in-Sink.result nothing known
    ∙ sym (get_or_default qs from x nothing known) in
    let many : length c.oldest_blocks-blocks.result.now ≡ c.args.times * get_or takes from 0 =
    ap length c.oldest_blocks-blocks.ensures
    ∙ length-take-le (c.args.times * get_or takes from 0) (get_or qs from x).samples
    (omega (
      arith,
      c.requires.held 0 (omega (arith, can.1)),
      ap (λ q. length q.samples) (get_or_default qs from x nothing known),
    )) in
    fired_sink g.A.Actor.steps (lists c.args.inputs.now) c.args.times c.args.ports.now.ins.channels.now
    c.args.ports.now.outs.channels.now takes c.args.ports.now.outs.sizes.now qs
    c.args.outputs.now
    c.args.self.now c.in-Sink.ext c.append.new.list c.index-outputs-ext.result c.release.new.self
    x c.in-Sink.is c.requires
    (c.append.ensures.items ∙ ap (λ b. (get_or c.args.outputs.now c.in-Sink.ext c.index-outputs-ext.result).items ++ b)
    c.oldest_blocks-blocks.ensures)
    c.append.ensures.capacity
    (ap (λ q. q.samples) c.release.ensures ∙ (λ i. drop (many i) (same i).samples))
    (ap (λ q. q.room) c.release.ensures ∙ ap (λ q. q.room) same)
