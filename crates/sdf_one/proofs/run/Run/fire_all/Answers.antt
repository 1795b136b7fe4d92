use Rattle.std.proofs.Common.{◌≡◌, ◌*◌, ◌≤◌, length, get_or, sym, ap, ◌∙◌, arith}
use Rattle.sdf_one.specs.Sweeps.{Keeps}
use Rattle.sdf_one.proofs.Sweeping.{keeps_all, keeps_on, room_along, block_begins}
use Rattle.sdf_one.proofs.run.Run.fire_all.Goals as goal

pub loop-self-init : goal.loop-self-init
loop-self-init g c = record {
  swept = c.requires.swept;
  keeps = keeps_all c.args.self.now;
  room = c.requires.room;
  done = λ a l.
      let r = c.args.self.now in
      let to : get_or r.done.items a 0 ≤ r.high * get_or r.repetitions.now a 0 = c.requires.swept.to a l in
      let none : r.high * get_or r.repetitions.now a 0 ≡ 0 =
      ap (λ h. h * get_or r.repetitions.now a 0) c.requires.start ∙
      (let z : 0 * get_or r.repetitions.now a 0 ≡ 0 = omega arith in z) in
      omega arith;
}

pub fire_block-requires-clause-swept : goal.fire_block-requires-clause-swept
fire_block-requires-clause-swept g c = λ κs within.
    let inv = c.loop-self.invariant in
    let next = c.next_block-self.ensures in
    block_begins g.A.Actor.steps c.loop-self.self inv.swept c.next_block-self.result c.args.size
    (omega (arith, next.more)) next.within next.step inv.done inv.room

pub loop-self-smaller : goal.loop-self-smaller
loop-self-smaller g c = omega (
  arith,
  c.fire_block.ensures.high,
  c.fire_block.ensures.keeps.periods,
  c.next_block-self.ensures.more,
  c.loop-self-test.true,
)

pub loop-self-preserved : goal.loop-self-preserved
loop-self-preserved g c =
    let s = g.A.Actor.steps in
    let inv = c.loop-self.invariant in
    let r = c.loop-self.self in
    let r' = c.fire_block.new.self in
    let k = c.fire_block.ensures.keeps in
    let keeps : Keeps r r' = record {
      net = k.net;
      inputs = k.inputs;
      repetitions = k.repetitions;
      periods = k.periods;
      outputs = k.outputs;
      queues = k.queues;
      rooms = k.rooms;
    } in
    record {
      swept = c.fire_block.ensures.swept;
      keeps = keeps_on c.args.self.now r r' inv.keeps keeps;
      room = room_along s c.args.size r r' keeps inv.swept.stands.channels inv.room;
      done = λ a l.
          let nodes : length r'.net.now.nodes ≡ length r.net.now.nodes = ap (λ x. length x.now.nodes) k.net in
          c.fire_block.ensures.done a (omega (arith, l, nodes))
          ∙ sym (λ i. c.fire_block.ensures.high i * get_or (k.repetitions i).now a 0);
    }

pub returns-clause-done : goal.returns-clause-done
returns-clause-done g c = λ a l.
    let inv = c.loop-self.invariant in
    let r = c.loop-self.self in
    let nodes : length r.net.now.nodes ≡ length c.args.self.now.net.now.nodes =
    ap (λ x. length x.now.nodes) inv.keeps.net in
    let last : r.high ≡ c.args.self.now.periods = omega
    (arith, c.loop-self-test.false, inv.swept.under, inv.keeps.periods) in
    inv.done a (omega (arith, l, nodes)) ∙ (λ i. last i * get_or (inv.keeps.repetitions i).now a 0)
