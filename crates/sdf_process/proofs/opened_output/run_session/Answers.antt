use Rattle.std.proofs.Common.{Result, refl, arith, rules}
use Rattle.sdf_faults.specs.declared.fault.Fault.{Fault}
use Rattle.sdf_process.specs.Streams.{Streams}
use Rattle.sdf_process.proofs.Came.{unopened}
use Rattle.sdf_process.proofs.Pieces.{run_fails}
use Rattle.sdf_process.proofs.Executions.{session_goes}
use Rattle.sdf_process.proofs.opened_output.run_session.Goals as goal

pub returns-in_err-session : goal.returns-in_err-session
returns-in_err-session g c =
    let n = c.args.terms.net.now in
    let q = c.args.terms.table.now.period.repetitions in
    run_fails (λ (r : Result (Unit {0}) Fault). Streams n q c.args.opened_output.source
    (g.R.Reader.state c.args.reader.now) (g.R.Reader.state c.args.reader.now) (g.W.Writer.state c.args.writer.now)
    (g.W.Writer.state c.args.writer.now) r)
    c.in_err-session.field-0.0 c.from_residual.result c.from_residual.ensures.1
    (unopened n q c.args.opened_output.source (g.R.Reader.state c.args.reader.now) (g.W.Writer.state c.args.writer.now)
    c.in_err-session.field-0.0 c.in_err-session.field-0.0
    c.in_err-session.ensures.stands refl)

pub run_stream-requires-clause-opened : goal.run_stream-requires-clause-opened
run_stream-requires-clause-opened g c κs within =
    let t = c.args.terms in
    record {
      period = c.requires.terms.table.period;
      inputs = c.requires.terms.inputs;
      outputs = c.requires.terms.outputs;
      goes = session_goes t.net.now t.table.now.period t.table.now.blocking c.in_ok-session.session
          c.in_ok-session.ensures.is c.in_ok-session.ensures.stands;
      stands = c.in_ok-session.ensures.stands;
      some = omega (arith, c.requires.terms.table.table.some);
      fits = c.requires.terms.table.table.short;
      first = search rules;
      piece = search rules;
    }
