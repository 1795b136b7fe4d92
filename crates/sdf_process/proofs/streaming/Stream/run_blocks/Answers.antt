use Rattle.std.proofs.Common.{◌≡◌, ◌/◌, ◌*◌, ◌≤◌, ℕ, length, drop, refl, ap, ◌∙◌, arith}
use Rattle.std.proofs.Math.Facts.{Fits-of_lt}
use Rattle.std.proofs.Math.Nat.{div-mul-le_self}
use Rattle.sdf_faults.specs.declared.fault.Fault.TheVariants.{OutOfMemory}
use Rattle.sdf_wav.specs.Sound.{Sound}
use Rattle.sdf_process.specs.declared.flow.Flow.{Flow}
use Rattle.sdf_process.proofs.Flowing.{memory_refused}
use Rattle.sdf_process.proofs.Refusals.{fails_by}
use Rattle.sdf_process.proofs.Steps.{answered, block_is, frames_few, kept_whole, periods_few, some_inputs, step_by}
use Rattle.sdf_process.proofs.Steps.{turned_on, where_ok}
use Rattle.sdf_process.proofs.streaming.Stream.run_blocks.Goals as goal
use Rattle.sdf_process.proofs.streaming.Stream.run_blocks.Goals.{After-len}

pub write_and_take-requires : goal.write_and_take-requires
write_and_take-requires g c =
    let h = c.requires.on in
    (h.0, h.1.0, h.1.1.ready.can, h.1.1.ahead)

pub returns-then-blocks-eq0-clause-goes : goal.returns-then-blocks-eq0-clause-goes
returns-then-blocks-eq0-clause-goes g c = λ b on.
    answered c.write_and_take.result _ _ _ (λ x turns. turned_on b on.0 c.args.self.now on.1
    c.write_and_take.new.self turns)
    (c.write_and_take.ensures.turns b on.0 on.1.ready.can on.1.ahead)

pub returns-then-blocks-eq0-clause-left : goal.returns-then-blocks-eq0-clause-left
returns-then-blocks-eq0-clause-left g c =
    let h = c.requires.on in
    where_ok c.write_and_take.result _ _ _ (λ x turns. turns.left)
    (c.write_and_take.ensures.turns h.0 h.1.0 h.1.1.ready.can h.1.1.ahead)

pub take_kept-input-requires-clause-whole : goal.take_kept-input-requires-clause-whole
take_kept-input-requires-clause-whole g c =
    let h = c.requires.on in
    kept_whole h.0 h.1.0 c.args.self.now h.1.1

pub copy_tail-requires : goal.copy_tail-requires
copy_tail-requires g c =
    let t = c.args.self.now in
    let k : ℕ = t.blocking * t.io.taken * c.from.result in
    omega (
      arith,
      div-mul-le_self c.len.result k,
      c.len.ensures,
      ap length (c.samples.ensures.value ∙ ap (λ (y : Sound). y.samples) c.take_kept-input.ensures.sound),
    )

pub returns-in_err-self-clause-goes : goal.returns-in_err-self-clause-goes
returns-in_err-self-clause-goes g c = λ b on.
    fails_by c.from_residual.result OutOfMemory _ _ c.from_residual.ensures.1
    (memory_refused b on.1.ready.can on.1.ahead.before on.1.ahead.flows OutOfMemory refl)

-- the whole blocks that are kept have few periods, and these make few frames
few : (g : Rattle.sdf_process.proofs.streaming.Stream.run_blocks.Given.Over) (c : After-len g) →
    let t = c.args.self.now in
    let periods : ℕ = c.len.result / (t.blocking * t.io.taken * c.from.result) * t.blocking in
    (periods ≤ 4294967295) × (periods * t.io.made ≤ 288230376084602880)
few g c =
    let h = c.requires.on in
    let t = c.args.self.now in
    let long : c.len.result ≡ length t.flow.kept.items = omega (arith, c.len.ensures) in (
      periods_few h.0 h.1.0 t h.1.1 c.from.result c.len.result c.from.ensures long,
      frames_few h.0 h.1.0 t h.1.1 c.from.result c.len.result c.from.ensures long,
    )

pub overflow_mul-periods : goal.overflow_mul-periods
overflow_mul-periods g c = Fits-of_lt (omega (arith, (few g (goal.at.overflow_mul-periods g c).After-len).0))

pub overflow_cast-portion : goal.overflow_cast-portion
overflow_cast-portion g c = Fits-of_lt (omega (arith, (few g (goal.at.overflow_cast-portion g c).After-len).0))

pub overflow_mul-portion : goal.overflow_mul-portion
overflow_mul-portion g c = Fits-of_lt (omega (arith, (few g (goal.at.overflow_mul-portion g c).After-len).1))

pub invariant_of-portion : goal.invariant_of-portion
invariant_of-portion g c =
    let h = c.requires.on in
    record {
      fits = (few g (goal.at.invariant_of-portion g c).After-len).0;
      limits = h.1.1.ready.limits;
      some = some_inputs h.0 c.args.self.now h.1.1.ready;
    }

pub run-requires-clause-step : goal.run-requires-clause-step
run-requires-clause-step g c κs within =
    let b = c.requires.on.0 in
    let p = c.requires.on.1.0 in
    let under = c.requires.on.1.1 in
    let t = c.args.self.now in
    let k : ℕ = t.blocking * t.io.taken * c.from.result in
    let blocks : ℕ = c.len.result / k in
    let sound = c.take_kept-input.ensures.sound in
    let stays = c.take_kept-input.ensures.stays in
    let some : blocks * k ≤ length t.flow.kept.items = omega (arith, div-mul-le_self c.len.result k, c.len.ensures) in (
      b,
      p,
      blocks,
      step_by b p t under blocks k (block_is b p t under c.from.result c.from.ensures) some c.give_back.new.self _ _
          c.in_ok-self.field-0.items
          c.give_back.ensures.0 (c.give_back.ensures.1 b.net b.period b.blocking under.ready.goes)
          c.give_back.ensures.2 (ap (λ (f : Flow). f.left) stays) (ap (λ (f : Flow). f.source) stays)
          (ap (λ (f : Flow). f.output) stays) (ap (λ (f : Flow). f.made) stays) (ap (λ (f : Flow). f.most) stays)
          (c.in_ok-self.ensures ∙ ap (drop (blocks * k))
          (c.samples.ensures.value ∙ ap (λ (y : Sound). y.samples) sound))
          refl (ap (λ z. blocks * z) under.ready.blocking) refl
          (ap (λ (y : Sound). y.channels) sound) (ap (λ (y : Sound). y.samples) sound),
    )

pub returns-clause-goes : goal.returns-clause-goes
returns-clause-goes g c = λ b on.
    let under = on.1 in
    let t = c.args.self.now in
    let k : ℕ = t.blocking * t.io.taken * c.from.result in
    let blocks : ℕ = c.len.result / k in
    let sound = c.take_kept-input.ensures.sound in
    let stays = c.take_kept-input.ensures.stays in
    let some : blocks * k ≤ length t.flow.kept.items = omega (arith, div-mul-le_self c.len.result k, c.len.ensures) in
    c.run.ensures.goes b on.0 blocks (step_by b on.0 t under blocks k
    (block_is b on.0 t under c.from.result c.from.ensures) some c.give_back.new.self _ _ c.in_ok-self.field-0.items
    c.give_back.ensures.0 (c.give_back.ensures.1 b.net b.period b.blocking under.ready.goes)
    c.give_back.ensures.2 (ap (λ (f : Flow). f.left) stays) (ap (λ (f : Flow). f.source) stays)
    (ap (λ (f : Flow). f.output) stays) (ap (λ (f : Flow). f.made) stays) (ap (λ (f : Flow). f.most) stays)
    (c.in_ok-self.ensures ∙ ap (drop (blocks * k)) (c.samples.ensures.value ∙ ap (λ (y : Sound). y.samples) sound))
    refl (ap (λ z. blocks * z) under.ready.blocking) refl
    (ap (λ (y : Sound). y.channels) sound) (ap (λ (y : Sound). y.samples) sound))
