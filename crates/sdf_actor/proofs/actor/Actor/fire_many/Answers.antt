use Rattle.std.proofs.Common.{◌≡◌, ℕ, ◌+◌, ◌%◌, cond, length, refl, sym, ap, ◌∙◌, arith}
use Rattle.std.proofs.lemmas.List.{take_all}
use Rattle.sdf_actor.specs.Steps.{sum_out, state_at, puts_to}
use Rattle.sdf_actor.proofs.Many.{begins, read_within, written_within, phase_more, read_more, written_more, long_after}
use Rattle.sdf_actor.proofs.Many.{state_after_one, puts_after_one}
use Rattle.sdf_actor.proofs.actor.Actor.fire_many.Goals as goal

pub loop-init : goal.loop-init
loop-init g c = record {
  now = begins g.Self.Actor.steps c.args.self.now c.args.phase c.requires.phase;
  read = refl;
  written = refl;
  long = ap length (c.fire_at_once.ensures.put ∙ ap
      (λ b. cond b (puts_to g.Self.Actor.steps c.args.self.now c.args.phase c.args.state.now c.args.taken.now
      c.args.many) c.args.put.now) c.if-fire_at_once.false);
  state = c.fire_at_once.ensures.state ∙ ap (λ b. cond b
      (state_at g.Self.Actor.steps c.args.self.now c.args.phase c.args.state.now c.args.taken.now c.args.many)
      c.args.state.now) c.if-fire_at_once.false;
  put = refl;
}

pub end_of-reads-requires : goal.end_of-reads-requires
end_of-reads-requires g c =
    let inv = c.loop.invariant in
    read_within g.Self.Actor.steps c.args.self.now c.args.phase c.loop.counter c.args.many c.loop.now c.loop.read
    c.samples_in.result (length c.args.taken.now) inv.now c.samples_in.ensures inv.read
    c.loop-test.true c.requires.taken

pub end_of-writes-requires : goal.end_of-writes-requires
end_of-writes-requires g c =
    let inv = c.loop.invariant in
    written_within g.Self.Actor.steps c.args.self.now c.args.phase c.loop.counter c.args.many c.loop.now c.loop.written
    c.samples_out.result (length c.loop.put) inv.now c.samples_out.ensures inv.written
    c.loop-test.true (inv.long ∙ c.requires.put)

pub loop-preserved : goal.loop-preserved
loop-preserved g c =
    let s = g.Self.Actor.steps in
    let inv = c.loop.invariant in
    let x = c.args.self.now in
    let j : ℕ = c.args.phase in
    let i : ℕ = c.loop.counter in
    let reads = c.end_of-reads.ensures.value ∙ read_more s x j i c.loop.now c.loop.read c.samples_in.result inv.now
    c.samples_in.ensures inv.read in
    let writes = c.end_of-writes.ensures.value ∙ written_more s x j i c.loop.now c.loop.written c.samples_out.result
    inv.now c.samples_out.ensures inv.written in
    record {
      now = c.next_phase-now.ensures ∙ (ap (λ m. (c.loop.now + 1) % m) c.cycle.ensures
          ∙ phase_more s x j i c.loop.now inv.now);
      read = reads;
      written = writes;
      long = long_after c.loop.put c.fire.new.put c.loop.written c.end_of-writes.result c.fire.auto.put ∙ inv.long;
      state = c.fire.ensures.state ∙ state_after_one s x j i c.args.state.now c.args.taken.now c.loop.now c.loop.read
          c.end_of-reads.result c.loop.state inv.now inv.read reads inv.state;
      put = puts_after_one s x j i c.args.state.now c.args.taken.now c.loop.now c.loop.read c.end_of-reads.result
          c.loop.state inv.now inv.read reads inv.state
          c.loop.put c.fire.new.put c.loop.written c.end_of-writes.result c.end_of-writes.ensures.start
          c.end_of-writes.ensures.within c.fire.auto.put inv.put c.fire.ensures.put;
    }

pub returns-clause-state : goal.returns-clause-state
returns-clause-state g c =
    let last : c.loop.counter ≡ c.args.many = omega (arith, c.loop-test.false, c.loop.auto.counter-end) in
    c.loop.invariant.state ∙ ap (state_at g.Self.Actor.steps c.args.self.now c.args.phase c.args.state.now
    c.args.taken.now) last

pub returns-clause-put : goal.returns-clause-put
returns-clause-put g c =
    let s = g.Self.Actor.steps in
    let last : c.loop.counter ≡ c.args.many = omega (arith, c.loop-test.false, c.loop.auto.counter-end) in
    let all : c.loop.written ≡ sum_out s c.args.self.now c.args.phase c.args.many =
    c.loop.invariant.written ∙ ap (sum_out s c.args.self.now c.args.phase) last in
    sym (take_all c.loop.written c.loop.put (omega (arith, all, c.loop.invariant.long, c.requires.put))) ∙
    (c.loop.invariant.put ∙ ap (puts_to s c.args.self.now c.args.phase c.args.state.now c.args.taken.now) last)
