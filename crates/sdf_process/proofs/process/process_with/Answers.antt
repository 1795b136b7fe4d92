use Rattle.std.proofs.Common.{subst}
use Rattle.sdf_process.specs.Run.{IsRun}
use Rattle.sdf_process.proofs.process.process_with.Goals as goal

pub returns : goal.returns
returns g c =
    subst (λ n. IsRun n c.args.plan.now.period.repetitions (g.R.Reader.state c.args.reader.now)
    (g.R.Reader.state c.run_net.new.reader) (g.W.Writer.state c.args.writer.now)
    (g.W.Writer.state c.run_net.new.writer) c.run_net.result) c.net.ensures.value c.run_net.ensures
