use Rattle.std.proofs.Common.{Err, refl, subst}
use Rattle.std.specs.Io.KnownBytes.{Appends}
use Rattle.sdf_process.specs.Output.{AreIoRates}
use Rattle.sdf_process.specs.Stages.{PutsBytes}
use Rattle.sdf_process.proofs.Opened.{announced_same, header_failed_ahead, refused_ahead, streamed}
use Rattle.sdf_process.proofs.Pieces.{stage_fails}
use Rattle.sdf_process.proofs.Texts.{output_size_as, fault_as, header_as, owed_as}
use Rattle.sdf_process.proofs.running.run_sized.Goals as goal

pub returns-in_err-output_size : goal.returns-in_err-output_size
returns-in_err-output_size g c =
    let content = c.args.unread_content.content in
    let frames = c.args.unread_content.frames in
    let q = c.args.planned.plan.now.period.repetitions in
    let same = c.of_net-io.ensures.value q c.requires.planned.suits.period.least in
    let told = announced_same c.rate.result c.channels.result frames content.rate content.channels frames
    c.rate.ensures.value c.channels.ensures.value refl in
    stage_fails c.in_err-output_size.field-0.0 c.from_residual.result c.from_residual.ensures.1
    (λ r opened. refused_ahead c.args.planned.net.now q (subst AreIoRates same c.of_net-io.ensures.limits) r
    (g.R.Reader.state c.args.reader.now) content opened frames c.requires.content
    (g.W.Writer.state c.args.writer.now) c.in_err-output_size.field-0.0
    (fault_as same told c.in_err-output_size.ensures))

pub returns-in_err-output : goal.returns-in_err-output
returns-in_err-output g c =
    let content = c.args.unread_content.content in
    let frames = c.args.unread_content.frames in
    let q = c.args.planned.plan.now.period.repetitions in
    let same = c.of_net-io.ensures.value q c.requires.planned.suits.period.least in
    let told = announced_same c.rate.result c.channels.result frames content.rate content.channels frames
    c.rate.ensures.value c.channels.ensures.value refl in
    let before = g.W.Writer.state c.args.writer.now in
    let opened_output = g.W.Writer.state c.write_header.new.writer in
    let f = c.in_err-output.field-0.0 in
    stage_fails f c.from_residual-in_err-output.result c.from_residual-in_err-output.ensures.1
    (λ r opened. header_failed_ahead c.args.planned.net.now q
    (subst AreIoRates same c.of_net-io.ensures.limits) r (g.R.Reader.state c.args.reader.now) content opened
    frames c.requires.content c.in_ok-output_size.output_size (output_size_as same told c.in_ok-output_size.ensures)
    before opened_output f
    (subst (λ bytes. PutsBytes {X = Unit {0}} before opened_output bytes (Err f))
    (header_as c.in_ok-output_size.output_size same)
    c.in_err-output.ensures.puts))

pub run_by_plan-requires-clause-opened_output : goal.run_by_plan-requires-clause-opened_output
run_by_plan-requires-clause-opened_output g c κs within =
    let content = c.args.unread_content.content in
    let frames = c.args.unread_content.frames in
    let same = c.of_net-io.ensures.value c.args.planned.plan.now.period.repetitions
    c.requires.planned.suits.period.least in
    let told = announced_same c.rate.result c.channels.result frames content.rate content.channels frames
    c.rate.ensures.value c.channels.ensures.value refl in
    record {
      unread_content = c.requires.content;
      output_size = c.in_ok-output_size.output_size;
      output_size_is = output_size_as same told c.in_ok-output_size.ensures;
      owed = owed_as c.in_ok-output_size.output_size same c.in_ok-output.ensures.owed;
    }

pub returns : goal.returns
returns g c = λ r opened.
    let content = c.args.unread_content.content in
    let frames = c.args.unread_content.frames in
    let q = c.args.planned.plan.now.period.repetitions in
    let same = c.of_net-io.ensures.value q c.requires.planned.suits.period.least in
    let told = announced_same c.rate.result c.channels.result frames content.rate content.channels frames
    c.rate.ensures.value c.channels.ensures.value refl in
    let before = g.W.Writer.state c.args.writer.now in
    let opened_output = g.W.Writer.state c.write_header.new.writer in
    let e = c.in_ok-output_size.output_size in
    streamed c.args.planned.net.now q (subst AreIoRates same c.of_net-io.ensures.limits) r
    (g.R.Reader.state c.args.reader.now) content opened frames c.requires.content e
    (output_size_as same told c.in_ok-output_size.ensures) (g.R.Reader.state c.run_by_plan.new.reader)
    before opened_output
    (g.W.Writer.state c.run_by_plan.new.writer)
    (subst (Appends before.contents opened_output.contents) (header_as e same) c.in_ok-output.ensures.puts.0)
    c.in_ok-output.ensures.puts.1 c.in_ok-output.output (owed_as e same c.in_ok-output.ensures.owed)
    c.run_by_plan.result c.run_by_plan.ensures
