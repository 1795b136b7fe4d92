use Rattle.std.proofs.Common.{◌≡◌, ◌%◌, length, Result, refl, sym, ap, subst, ◌∙◌, arith}
use Rattle.std.proofs.Math.Facts.{Fits-of_lt}
use Rattle.sdf_faults.specs.declared.fault.Fault.{Fault}
use Rattle.sdf_actor.specs.Wires.{lists as items_of}
use Rattle.sdf_wav.specs.Canonical.{sample_bytes}
use Rattle.sdf_wav.specs.PiecesIn.{sound_read}
use Rattle.sdf_wav.specs.PiecesOut.{ContentOutValue}
use Rattle.sdf_wav.specs.Sound.{Sound}
use Rattle.sdf_process.specs.declared.flow.Flow.{Flow}
use Rattle.sdf_process.specs.Flows.{StreamsFrom, io_rates_in, reading_in}
use Rattle.sdf_process.specs.Output.{in_turn}
use Rattle.sdf_process.specs.Stages.{PutsBytes}
use Rattle.sdf_process.specs.Streams.{Makes, left_by}
use Rattle.sdf_process.proofs.Ahead.{can_put}
use Rattle.sdf_process.proofs.Ending.{ended, ended_whole}
use Rattle.sdf_process.proofs.Flowing.{memory_refused}
use Rattle.sdf_process.proofs.LastBlocks.{few_periods, just_enough, last_made, last_next}
use Rattle.sdf_process.proofs.Pieces.{run_fails}
use Rattle.sdf_process.proofs.Sizes.{positive}
use Rattle.sdf_process.proofs.Steps.{kept_whole, some_inputs}
use Rattle.sdf_process.proofs.streaming.Stream.finish.Goals as goal

pub returns-in_err-write : goal.returns-in_err-write
returns-in_err-write g c = λ b r on.
    run_fails (λ (z : Result (Unit {0}) Fault). StreamsFrom b r (g.W.Writer.state c.write.new.writer) z)
    c.in_err-write.field-0.0 c.from_residual.result
    c.from_residual.ensures.1
    (c.in_err-write.ensures b on.0 r on.1.ready.can on.1.ahead)

pub returns-then-frames-eq0 : goal.returns-then-frames-eq0
returns-then-frames-eq0 g c = λ b r on.
    let w = c.in_ok-write.ensures b on.0 r on.1.ready.can on.1.ahead in
    ended_whole b on.1.ready.can on.0 w.flows (w.left ∙ c.requires.all)
    (omega (arith, c.missing-frames.ensures, c.if-frames-eq0.true))

pub div_ceil-blocks-requires : goal.div_ceil-blocks-requires
div_ceil-blocks-requires g c =
    let under = c.requires.on.2.1 in
    positive c.args.self.now.blocking c.args.self.now.io.made
    (omega (arith, under.ready.blocking, under.ready.can.some)) under.ready.limits.some_made

pub take_kept-input-requires-clause-whole : goal.take_kept-input-requires-clause-whole
take_kept-input-requires-clause-whole g c =
    let h = c.requires.on in
    let under = h.2.1 in
    let t = c.args.self.now in
    let w = c.in_ok-write.ensures h.0 h.2.0 h.1 under.ready.can under.ahead in
    subst (λ (v : _). length v.items % t.channels ≡ 0) (sym w.kept) (kept_whole h.0 h.2.0 t under)

pub overflow_mul-portion : goal.overflow_mul-portion
overflow_mul-portion g c =
    let h = c.requires.on in
    let w = c.in_ok-write.ensures h.0 h.2.0 h.1 h.2.1.ready.can h.2.1.ahead in
    Fits-of_lt (omega (
      arith,
      few_periods h.0 h.2.0 c.args.self.now h.2.1 c.write.new.self w c.requires.all c.missing-frames.result
          c.div_ceil-blocks.result c.missing-frames.ensures c.div_ceil-blocks.ensures,
    ))

pub overflow_cast-portion-2 : goal.overflow_cast-portion-2
overflow_cast-portion-2 g c =
    let h = c.requires.on in
    let w = c.in_ok-write.ensures h.0 h.2.0 h.1 h.2.1.ready.can h.2.1.ahead in
    Fits-of_lt (omega (
      arith,
      few_periods h.0 h.2.0 c.args.self.now h.2.1 c.write.new.self w c.requires.all c.missing-frames.result
          c.div_ceil-blocks.result c.missing-frames.ensures c.div_ceil-blocks.ensures,
    ))

pub invariant_of-portion : goal.invariant_of-portion
invariant_of-portion g c =
    let h = c.requires.on in
    let under = h.2.1 in
    let w = c.in_ok-write.ensures h.0 h.2.0 h.1 under.ready.can under.ahead in
    record {
      fits = few_periods h.0 h.2.0 c.args.self.now under c.write.new.self w c.requires.all c.missing-frames.result
          c.div_ceil-blocks.result c.missing-frames.ensures c.div_ceil-blocks.ensures;
      limits = under.ready.limits;
      some = some_inputs h.0 c.args.self.now under.ready;
    }

pub run-requires-clause-next : goal.run-requires-clause-next
run-requires-clause-next g c κs within =
    let h = c.requires.on in
    let w = c.in_ok-write.ensures h.0 h.2.0 h.1 h.2.1.ready.can h.2.1.ahead in
    let sound = c.take_kept-input.ensures.sound in
    last_next h.0 h.2.0 c.args.self.now h.2.1 c.write.new.self w c.requires.all c.missing-frames.result
    c.div_ceil-blocks.result c.missing-frames.ensures c.div_ceil-blocks.ensures _ refl refl
    (ap (λ (y : Sound). y.channels) sound) (ap (λ (y : Sound). y.samples) sound) refl

pub returns-in_err-made : goal.returns-in_err-made
returns-in_err-made g c = λ b r on.
    let p = on.0 in
    let under = on.1 in
    let w = c.in_ok-write.ensures b p r under.ready.can under.ahead in
    run_fails (λ (z : Result (Unit {0}) Fault). StreamsFrom b r (g.W.Writer.state c.write.new.writer) z)
    c.in_err-made.field-0.0 c.from_residual-in_err-made.result
    c.from_residual-in_err-made.ensures.1
    (memory_refused b under.ready.can p w.flows c.in_err-made.field-0.0 c.in_err-made.ensures.refused)

pub put_in_turn-requires-clause-unspent : goal.put_in_turn-requires-clause-unspent
put_in_turn-requires-clause-unspent g c =
    let h = c.requires.on in
    let w = c.in_ok-write.ensures h.0 h.2.0 h.1 h.2.1.ready.can h.2.1.ahead in
    ap (λ (f : Flow). f.output.spent) c.take_kept-input.ensures.stays
    ∙ ap (λ (o : ContentOutValue). o.spent) w.flows.owed

pub put_in_turn-requires-clause-some : goal.put_in_turn-requires-clause-some
put_in_turn-requires-clause-some g c =
    let h = c.requires.on in
    let w = c.in_ok-write.ensures h.0 h.2.0 h.1 h.2.1.ready.can h.2.1.ahead in
    omega (
      arith,
      ap (λ (f : Flow). f.output.channels) c.take_kept-input.ensures.stays,
      ap (λ (o : ContentOutValue). o.channels) w.flows.owed,
      h.2.1.ready.can.outputs,
    )

pub put_in_turn-requires-clause-room : goal.put_in_turn-requires-clause-room
put_in_turn-requires-clause-room g c =
    let h = c.requires.on in
    let w = c.in_ok-write.ensures h.0 h.2.0 h.1 h.2.1.ready.can h.2.1.ahead in
    let sound = c.take_kept-input.ensures.sound in
    let stays = c.take_kept-input.ensures.stays in
    let makes = last_made h.0 h.2.0 c.args.self.now h.2.1 c.write.new.self w c.requires.all c.missing-frames.result
    c.div_ceil-blocks.result c.missing-frames.ensures c.div_ceil-blocks.ensures _ refl refl
    (ap (λ (y : Sound). y.channels) sound) (ap (λ (y : Sound). y.samples) sound) _ _ c.in_ok-made.ensures.runs in
    can_put c.take_kept-input.new.self.output (io_rates_in h.0).outputs c.missing-frames.result
    c.in_ok-made.made.items c.deref.result.now
    (ap (λ (f : Flow). f.output.channels) stays ∙ ap (λ (z : ContentOutValue). z.channels) w.flows.owed)
    c.deref.ensures.value
    makes.whole (omega (arith, c.missing-frames.ensures, ap (λ (f : Flow). f.output.missing) stays))

pub returns : goal.returns
returns g c = λ b r on.
    let p = on.0 in
    let under = on.1 in
    let t = c.args.self.now in
    let blocks = c.div_ceil-blocks.result in
    let w = c.in_ok-write.ensures b p r under.ready.can under.ahead in
    let sound = c.take_kept-input.ensures.sound in
    let enough = just_enough b p t under c.write.new.self w c.requires.all c.missing-frames.result blocks
    c.missing-frames.ensures c.div_ceil-blocks.ensures in
    let makes = last_made b p t under c.write.new.self w c.requires.all c.missing-frames.result blocks
    c.missing-frames.ensures c.div_ceil-blocks.ensures _ refl refl
    (ap (λ (y : Sound). y.channels) sound) (ap (λ (y : Sound). y.samples) sound) _ _ c.in_ok-made.ensures.runs in
    ended b under.ready.can p w.flows (w.left ∙ c.requires.all) blocks enough.0 enough.1
    (items_of c.in_ok-made.made.items) (left_by c.run.new.self)
    (subst (λ m. Makes b.net b.period b.blocking (sound_read (reading_in b) p.samples) p.blocks blocks m p.bytes
    (items_of c.in_ok-made.made.items) (left_by c.run.new.self)) c.missing-frames.ensures makes)
    (g.W.Writer.state c.put_in_turn.new.writer) c.put_in_turn.result
    (subst (λ l. PutsBytes {X = Unit {0}} (g.W.Writer.state c.write.new.writer)
    (g.W.Writer.state c.put_in_turn.new.writer) (sample_bytes (in_turn (items_of l))) c.put_in_turn.result)
    c.deref.ensures.value c.put_in_turn.ensures.puts)
