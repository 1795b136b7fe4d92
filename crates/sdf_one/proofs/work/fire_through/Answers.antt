use Rattle.std.proofs.Common.{◌≡◌, ℕ, ◌*◌, ◌++◌, List, length, get_or, set, take, drop, sym, ap, ◌∙◌, arith}
use Rattle.std.proofs.lemmas.List.{get_or-set_other, get_or_default, length-take-le}
use Rattle.sdf_actor.specs.Steps.{state_at, puts_to}
use Rattle.sdf_queues.specs.Blocks.{nothing, ArePorts}
use Rattle.sdf_queues.specs.QueueValue.{QueueValue}
use Rattle.sdf_one.specs.AtOnce.{fronts}
use Rattle.sdf_one.proofs.FiringAtOnce.{through, taken_through}
use Rattle.sdf_one.proofs.work.fire_through.Goals as goal

-- what is read is the front of the queue, also while another queue is taken out
front : {T : Type 0} (qs : List (QueueValue T)) (times : ℕ) (ins takes : List ℕ) (to : ℕ) (e x : QueueValue T)
    (block : List T) →
    ArePorts ins takes (length qs) → length ins ≡ 1 → (get_or ins 0 0 ≡ to → ⊥) →
    block ≡ take (times * get_or takes (get_or ins 0 0) 0) (get_or (set qs to e) (get_or ins 0 0) x).samples →
    block ≡ fronts times takes ins qs
front qs times ins takes to e x block ins_are one_in apart read =
    read ∙ ((λ i. take (times * get_or takes (get_or ins 0 0) 0)
    (get_or-set_other qs to (get_or ins 0 0) e x apart i).samples)
    ∙ taken_through qs times ins takes x ins_are one_in)

pub returns-clause-state : goal.returns-clause-state
returns-clause-state g c =
    let read = front c.args.queues.now c.args.batch.times c.args.ports.now.ins.channels.now
    c.args.ports.now.ins.sizes.now (get_or c.args.ports.now.outs.channels.now 0 0) c.take_out-target.new.self
    c.index-queues-from.result c.oldest_blocks-taken.result.now c.requires.ins c.requires.one_in c.requires.apart
    c.oldest_blocks-taken.ensures in
    c.put_fired.ensures.state
    ∙ ap (λ b. state_at g.A.Actor.steps c.args.batch.actor.now c.args.batch.phase c.args.state.now b
    c.args.batch.times) read

pub returns-clause-queues : goal.returns-clause-queues
returns-clause-queues g c = λ d l.
    let qs = c.args.queues.now in
    let ins = c.args.ports.now.ins.channels.now in
    let outs = c.args.ports.now.outs.channels.now in
    let takes = c.args.ports.now.ins.sizes.now in
    let puts = c.args.ports.now.outs.sizes.now in
    let from : ℕ = get_or ins 0 0 in
    let to : ℕ = get_or outs 0 0 in
    let e = c.take_out-target.new.self in
    let x = c.index-queues-from.result in
    let made = puts_to g.A.Actor.steps c.args.batch.actor.now c.args.batch.phase c.args.state.now
    (fronts c.args.batch.times takes ins qs) c.args.batch.times in
    let read = front qs c.args.batch.times ins takes to e x c.oldest_blocks-taken.result.now
    c.requires.ins c.requires.one_in c.requires.apart c.oldest_blocks-taken.ensures in
    let same = ap (λ b. puts_to g.A.Actor.steps c.args.batch.actor.now c.args.batch.phase c.args.state.now b
    c.args.batch.times) read in
    let here : get_or (set qs to e) from x ≡ get_or qs from nothing =
    get_or-set_other qs to from e x c.requires.apart
    ∙ get_or_default qs from x nothing (c.requires.ins.known 0 (omega (arith, c.requires.one_in))) in
    let many : length c.oldest_blocks-taken.result.now ≡ c.args.batch.times * get_or takes from 0 =
    ap length c.oldest_blocks-taken.ensures
    ∙ length-take-le (c.args.batch.times * get_or takes from 0) (get_or (set qs to e) from x).samples
    (omega (arith, c.requires.held, ap (λ q. length q.samples) here)) in
    through qs c.args.batch.times ins outs takes puts c.release.new.self c.put_fired.new.self e
    c.index-queues-from-2.result c.index-queues-to.result made
    c.requires.ins c.requires.outs c.requires.one_in c.requires.one_out c.requires.apart
    (ap (λ q. q.samples) c.release.ensures ∙ (λ i. drop (many i)
    (get_or-set_other qs to from e c.index-queues-from-2.result c.requires.apart i).samples))
    (ap (λ q. q.samples) c.put_fired.ensures.queue ∙ (λ i. (c.take_out-target.ensures i).samples ++ same i))
    (ap length (sym same) ∙ c.put_fired.ensures.long) d
