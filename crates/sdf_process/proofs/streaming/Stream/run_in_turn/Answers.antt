use Rattle.std.proofs.Common.{refl}
use Rattle.sdf_actor.specs.Wires.{lists as items_of}
use Rattle.sdf_wav.specs.Canonical.{sample_bytes}
use Rattle.sdf_process.specs.Flows.{blocks_on}
use Rattle.sdf_process.specs.Output.{in_turn}
use Rattle.sdf_process.specs.Streams.{left_by}
use Rattle.sdf_process.proofs.Flowing.{memory_refused}
use Rattle.sdf_process.proofs.Refusals.{fails_by}
use Rattle.sdf_process.proofs.Steps.{ahead_on, answered, can_next, in_turn_on, where_ok}
use Rattle.sdf_process.proofs.streaming.Stream.run_in_turn.Goals as goal

pub run-requires-clause-next : goal.run-requires-clause-next
run-requires-clause-next g c κs within =
    let h = c.requires.step in
    can_next h.0 h.1 h.2 c.args.self.now c.args.portion h.3

pub returns-in_err-self-clause-goes : goal.returns-in_err-self-clause-goes
returns-in_err-self-clause-goes g c = λ b p blocks step.
    fails_by c.from_residual.result c.in_err-self.field-0.0 _ _ c.from_residual.ensures.1
    (memory_refused b step.ready.can step.ahead.before step.ahead.flows c.in_err-self.field-0.0
    c.in_err-self.ensures.refused)

pub write_and_take-requires : goal.write_and_take-requires
write_and_take-requires g c =
    let h = c.requires.step in
    let t = c.args.self.now in
    let made = items_of c.in_ok-self.field-0.items in (
      h.0,
      blocks_on h.1 h.2 (sample_bytes (in_turn made)) (left_by c.run.new.self),
      h.3.ready.can,
      ahead_on h.0 h.1 h.2 t c.args.portion h.3 c.run.new.self made c.in_ok-self.ensures.runs c.requires.waits
          (record t.flow { made = c.in_ok-self.field-0 }) refl refl refl refl,
    )

pub returns-clause-goes : goal.returns-clause-goes
returns-clause-goes g c = λ b p blocks step.
    let t = c.args.self.now in
    let made = items_of c.in_ok-self.field-0.items in
    let f = record t.flow { made = c.in_ok-self.field-0 } in
    answered c.write_and_take.result _ _ _
    (λ x turns. in_turn_on b p blocks t c.args.portion step c.run.new.self made c.in_ok-self.ensures.runs f
    c.write_and_take.new.self refl refl turns)
    (c.write_and_take.ensures.turns b (blocks_on p blocks (sample_bytes (in_turn made))
    (left_by c.run.new.self)) step.ready.can
    (ahead_on b p blocks t c.args.portion step c.run.new.self made c.in_ok-self.ensures.runs
    c.requires.waits f refl refl
    refl refl))

pub returns-clause-left : goal.returns-clause-left
returns-clause-left g c =
    let h = c.requires.step in
    let t = c.args.self.now in
    let made = items_of c.in_ok-self.field-0.items in
    where_ok c.write_and_take.result _ _ _ (λ x turns. turns.left)
    (c.write_and_take.ensures.turns h.0 (blocks_on h.1 h.2 (sample_bytes (in_turn made))
    (left_by c.run.new.self)) h.3.ready.can
    (ahead_on h.0 h.1 h.2 t c.args.portion h.3 c.run.new.self made c.in_ok-self.ensures.runs c.requires.waits
    (record t.flow { made = c.in_ok-self.field-0 }) refl refl refl refl))
