use Rattle.std.proofs.Common.{◌<◌, Result, ap, refl, subst, rules}
use Rattle.sdf_faults.specs.declared.fault.Fault.{Fault}
use Rattle.sdf_process.specs.declared.io_rates.IoRates.{IoRates}
use Rattle.sdf_process.specs.Streams.{Streams}
use Rattle.sdf_process.proofs.Came.{unopened}
use Rattle.sdf_process.proofs.Pieces.{run_fails}
use Rattle.sdf_process.proofs.Executions.{one_short}
use Rattle.sdf_process.proofs.opened_output.play.Goals as goal

pub returns-in_err-player : goal.returns-in_err-player
returns-in_err-player g c =
    let n = c.args.player_plan.net.now in
    let q = c.args.player_plan.period.now.repetitions in
    run_fails (λ (r : Result (Unit {0}) Fault). Streams n q c.args.opened_output.source
    (g.R.Reader.state c.args.reader.now) (g.R.Reader.state c.args.reader.now) (g.W.Writer.state c.args.writer.now)
    (g.W.Writer.state c.args.writer.now) r)
    c.in_err-player.field-0.0 c.from_residual.result c.from_residual.ensures.1
    (unopened n q c.args.opened_output.source (g.R.Reader.state c.args.reader.now) (g.W.Writer.state c.args.writer.now)
    c.in_err-player.field-0.0 c.in_err-player.field-0.0
    c.in_err-player.ensures.player refl)

pub open-requires-clause-taken : goal.open-requires-clause-taken
open-requires-clause-taken g c =
    subst (λ (x : IoRates). 0 < x.taken)
    (c.of_net-io.ensures.value c.args.player_plan.period.now.repetitions c.requires.player_plan.least)
    c.of_net-io.ensures.limits.some_taken

pub run_stream-requires-clause-opened : goal.run_stream-requires-clause-opened
run_stream-requires-clause-opened g c κs within =
    let v = c.in_ok-player.player in
    let is = c.in_ok-player.ensures.player in
    record {
      period = c.requires.player_plan;
      inputs = c.requires.inputs;
      outputs = c.requires.outputs;
      goes = record { player = is.0; net = ap (λ r. r.now) is.1; period = ap (λ r. r.now) is.2; single = refl };
      stands = c.in_ok-player.ensures.stands;
      some = search rules;
      fits = one_short c.args.player_plan c.requires.player_plan c.of_net-io.ensures.accepted;
      first = c.piece-first.ensures;
      piece = c.piece-frames.ensures;
    }
