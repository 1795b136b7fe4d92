use Rattle.std.proofs.Common.{Result, refl, rules}
use Rattle.sdf_faults.specs.declared.fault.Fault.{Fault}
use Rattle.sdf_process.specs.Streams.{Streams}
use Rattle.sdf_process.proofs.Came.{untaken}
use Rattle.sdf_process.proofs.Pieces.{run_fails}
use Rattle.sdf_process.proofs.Executions.{heard_begun, heard_streams}
use Rattle.sdf_process.proofs.opened_output.read_then_play.Goals as goal

pub returns-in_err-sound : goal.returns-in_err-sound
returns-in_err-sound g c =
    let n = c.args.player_plan.net.now in
    let q = c.args.player_plan.period.now.repetitions in
    run_fails (λ (r : Result (Unit {0}) Fault). Streams n q c.args.opened_output.source
    (g.R.Reader.state c.args.reader.now) (g.R.Reader.state c.take_all.new.reader) (g.W.Writer.state c.args.writer.now)
    (g.W.Writer.state c.args.writer.now) r)
    c.in_err-sound.field-0.0 c.from_residual.result c.from_residual.ensures.1
    (untaken n q c.args.opened_output.source (g.R.Reader.state c.args.reader.now)
    (g.R.Reader.state c.take_all.new.reader)
    (g.W.Writer.state c.args.writer.now) c.in_err-sound.field-0.0 c.in_err-sound.field-0.0 refl
    c.in_err-sound.ensures)

pub play-requires-clause-opened_output : goal.play-requires-clause-opened_output
play-requires-clause-opened_output g c κs within =
    heard_begun c.args.player_plan.net.now c.args.player_plan.period.now.repetitions c.args.opened_output
    c.requires.opened_output
    (g.R.Reader.state c.args.reader.now) (g.R.Reader.state c.take_all.new.reader) c.in_ok-sound.sound
    c.in_ok-sound.ensures

pub returns : goal.returns
returns g c =
    heard_streams c.args.player_plan.net.now c.args.player_plan.period.now.repetitions c.args.opened_output
    c.requires.opened_output
    (g.R.Reader.state c.args.reader.now) (g.R.Reader.state c.take_all.new.reader) c.in_ok-sound.sound
    c.in_ok-sound.ensures (search rules) (g.R.Reader.state c.play.new.reader) (g.W.Writer.state c.args.writer.now)
    (g.W.Writer.state c.play.new.writer) c.play.result c.play.ensures
