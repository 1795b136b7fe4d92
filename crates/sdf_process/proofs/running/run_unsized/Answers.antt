use Rattle.std.proofs.Common.{ℕ, Err, sym, subst, rules}
use Rattle.std.specs.Io.KnownBytes.{Appends}
use Rattle.sdf_wav.specs.Device.{ReaderState}
use Rattle.sdf_process.specs.Output.{info_of, io_rates_of, AreIoRates, IsOutputSize}
use Rattle.sdf_process.specs.Run.{IsRun}
use Rattle.sdf_process.specs.Stages.{PutsBytes}
use Rattle.sdf_process.proofs.Finished.{answered}
use Rattle.sdf_process.proofs.Came.{allowed_lower}
use Rattle.sdf_process.proofs.Pieces.{stage_fails}
use Rattle.sdf_process.proofs.Taken.{heard_puts, unheard_sound}
use Rattle.sdf_process.proofs.Texts.{output_size_as, fault_as, header_as, owed_as}
use Rattle.sdf_process.proofs.Unsized.{content_failed_behind, refused_behind, header_failed_behind, heard_behind}
use Rattle.sdf_process.proofs.running.run_unsized.Goals as goal

pub returns-in_err-sound : goal.returns-in_err-sound
returns-in_err-sound g c =
    let q = c.args.planned.plan.now.period.repetitions in
    let same = c.of_net-io.ensures.value q c.requires.planned.suits.period.least in
    stage_fails c.in_err-sound.field-0.0 c.from_residual.result c.from_residual.ensures.1
    (λ r opened. content_failed_behind c.args.planned.net.now q
    (subst AreIoRates same c.of_net-io.ensures.limits) r (g.R.Reader.state c.args.reader.now) c.args.content
    opened c.requires.unknown (g.R.Reader.state c.read_content.new.reader) (g.W.Writer.state c.args.writer.now)
    c.in_err-sound.field-0.0 c.in_err-sound.ensures.reads)

pub returns-in_err-output_size : goal.returns-in_err-output_size
returns-in_err-output_size g c =
    let q = c.args.planned.plan.now.period.repetitions in
    let same = c.of_net-io.ensures.value q c.requires.planned.suits.period.least in
    stage_fails c.in_err-output_size.field-0.0 c.from_residual-in_err-output_size.result
    c.from_residual-in_err-output_size.ensures.1
    (λ r opened. refused_behind c.args.planned.net.now q (subst AreIoRates same c.of_net-io.ensures.limits) r
    (g.R.Reader.state c.args.reader.now) c.args.content opened c.requires.unknown
    (g.R.Reader.state c.read_content.new.reader) c.in_ok-sound.sound c.in_ok-sound.ensures.reads
    (g.W.Writer.state c.args.writer.now) c.in_err-output_size.field-0.0
    (fault_as same c.of_sound.ensures c.in_err-output_size.ensures))

pub returns-in_err-output : goal.returns-in_err-output
returns-in_err-output g c =
    let q = c.args.planned.plan.now.period.repetitions in
    let same = c.of_net-io.ensures.value q c.requires.planned.suits.period.least in
    let before = g.W.Writer.state c.args.writer.now in
    let opened_output = g.W.Writer.state c.write_header.new.writer in
    let f = c.in_err-output.field-0.0 in
    stage_fails f c.from_residual-in_err-output.result c.from_residual-in_err-output.ensures.1
    (λ r opened. header_failed_behind c.args.planned.net.now q
    (subst AreIoRates same c.of_net-io.ensures.limits) r (g.R.Reader.state c.args.reader.now) c.args.content
    opened c.requires.unknown (g.R.Reader.state c.read_content.new.reader) c.in_ok-sound.sound
    c.in_ok-sound.ensures.reads c.in_ok-output_size.output_size
    (output_size_as same c.of_sound.ensures c.in_ok-output_size.ensures) before
    opened_output f (subst (λ bytes. PutsBytes {X = Unit {0}} before opened_output bytes (Err f))
    (header_as c.in_ok-output_size.output_size same) c.in_err-output.ensures.puts))

pub run_by_plan-requires-clause-opened_output : goal.run_by_plan-requires-clause-opened_output
run_by_plan-requires-clause-opened_output g c κs within =
    let s = c.in_ok-sound.sound in
    let q = c.args.planned.plan.now.period.repetitions in
    let same = c.of_net-io.ensures.value q c.requires.planned.suits.period.least in
    record {
      unread_content = unheard_sound s c.frames.result (search rules) (search rules) (search rules)
          c.frames.ensures.whole
          c.in_ok-sound.ensures.few;
      output_size = c.in_ok-output_size.output_size;
      output_size_is = subst (λ (k : ℕ). IsOutputSize (io_rates_of c.args.planned.net.now q)
          (record { rate = s.rate; channels = s.channels; frames = k }) c.in_ok-output_size.output_size)
          (sym c.frames.ensures.value) (output_size_as same c.of_sound.ensures c.in_ok-output_size.ensures);
      owed = owed_as c.in_ok-output_size.output_size same c.in_ok-output.ensures.owed;
    }

pub returns : goal.returns
returns g c = λ r opened.
    let n = c.args.planned.net.now in
    let q = c.args.planned.plan.now.period.repetitions in
    let same = c.of_net-io.ensures.value q c.requires.planned.suits.period.least in
    let limits = subst AreIoRates same c.of_net-io.ensures.limits in
    let s = c.in_ok-sound.sound in
    let e = c.in_ok-output_size.output_size in
    let output_size = output_size_as same c.of_sound.ensures c.in_ok-output_size.ensures in
    let read = g.R.Reader.state c.read_content.new.reader in
    let after = g.R.Reader.state c.run_by_plan.new.reader in
    let before = g.W.Writer.state c.args.writer.now in
    let opened_output = g.W.Writer.state c.write_header.new.writer in
    let written = g.W.Writer.state c.run_by_plan.new.writer in
    let decodes = heard_behind n q limits r (g.R.Reader.state c.args.reader.now) c.args.content opened
    c.requires.unknown read s c.in_ok-sound.ensures.reads e output_size before opened_output c.in_ok-output.output
    (subst (Appends before.contents opened_output.contents) (header_as e same) c.in_ok-output.ensures.puts.0)
    c.in_ok-output.ensures.puts.1 (owed_as e same c.in_ok-output.ensures.owed) in
    let puts = heard_puts n q s (search rules)
    (allowed_lower (io_rates_of n q) (info_of s) output_size.is_allowed) limits.some_taken
    read after opened_output written c.run_by_plan.result c.run_by_plan.ensures in
    subst (λ (x : ReaderState). IsRun n q r x before written c.run_by_plan.result) (sym puts.1)
    (answered n q limits r read before opened_output written s e c.in_ok-output.output decodes
    c.run_by_plan.result puts.0)
