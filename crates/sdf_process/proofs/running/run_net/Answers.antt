use Rattle.std.proofs.Common.{Result}
use Rattle.sdf_faults.specs.Faults.{of_wav}
use Rattle.sdf_faults.specs.declared.fault.Fault.{Fault}
use Rattle.sdf_process.specs.Run.{IsRun}
use Rattle.sdf_process.proofs.Pieces.{run_fails}
use Rattle.sdf_process.proofs.Refusals.{unopened}
use Rattle.sdf_process.proofs.running.run_net.Goals as goal

pub returns-in_err-content : goal.returns-in_err-content
returns-in_err-content g c =
    run_fails (λ (x : Result (Unit {0}) Fault). IsRun c.args.planned.net.now c.args.planned.plan.now.period.repetitions
    (g.R.Reader.state c.args.reader.now) (g.R.Reader.state c.open.new.reader)
    (g.W.Writer.state c.args.writer.now) (g.W.Writer.state c.args.writer.now) x)
    (of_wav c.in_err-content.field-0.0) c.from_residual.result c.from_residual.ensures.1
    (unopened c.args.planned.net.now c.args.planned.plan.now.period.repetitions
    (g.R.Reader.state c.args.reader.now) (g.R.Reader.state c.open.new.reader)
    (g.W.Writer.state c.args.writer.now) c.in_err-content.field-0.0 c.in_err-content.ensures.answers
    c.in_err-content.ensures.counted)

pub returns-in-Some : goal.returns-in-Some
returns-in-Some g c = c.run_sized.ensures (g.R.Reader.state c.args.reader.now) (record {
  answers = c.in_ok-content.ensures.answers;
  only = c.in_ok-content.ensures.accepts;
  counted = c.in_ok-content.ensures.counted;
})

pub returns-in-None : goal.returns-in-None
returns-in-None g c = c.run_unsized.ensures (g.R.Reader.state c.args.reader.now) (record {
  answers = c.in_ok-content.ensures.answers;
  only = c.in_ok-content.ensures.accepts;
  counted = c.in_ok-content.ensures.counted;
})
