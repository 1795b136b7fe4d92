use Rattle.std.proofs.Common.{Result}
use Rattle.sdf_faults.specs.declared.fault.Fault.{Fault}
use Rattle.sdf_process.specs.Flows.{StreamsFrom, start_of}
use Rattle.sdf_process.proofs.Pieces.{run_fails}
use Rattle.sdf_process.proofs.Steps.{goes_by_pieces}
use Rattle.sdf_process.proofs.streaming.run_stream.Goals as goal

pub run_blocks-requires-clause-on : goal.run_blocks-requires-clause-on
run_blocks-requires-clause-on g c κs within = (
  start_of c.args.opened c.args.opened_output (g.R.Reader.state c.args.reader.now) (g.W.Writer.state c.args.writer.now),
  c.open-stream.ensures (g.R.Reader.state c.args.reader.now) (g.W.Writer.state c.args.writer.now),
)

pub returns-in_err-run_blocks : goal.returns-in_err-run_blocks
returns-in_err-run_blocks g c =
    let s = start_of c.args.opened c.args.opened_output (g.R.Reader.state c.args.reader.now)
    (g.W.Writer.state c.args.writer.now) in
    run_fails (λ (z : Result (Unit {0}) Fault). StreamsFrom s (g.R.Reader.state c.run_blocks.new.reader)
    (g.W.Writer.state c.run_blocks.new.writer) z) c.in_err-run_blocks.field-0.0 c.from_residual.result
    c.from_residual.ensures.1
    (c.in_err-run_blocks.ensures.goes s (c.open-stream.ensures (g.R.Reader.state c.args.reader.now)
    (g.W.Writer.state c.args.writer.now)))

pub loop-stream-init : goal.loop-stream-init
loop-stream-init g c =
    let s = start_of c.args.opened c.args.opened_output (g.R.Reader.state c.args.reader.now)
    (g.W.Writer.state c.args.writer.now) in
    goes_by_pieces s c.run_blocks.new.self c.args.opened.frames c.requires.opened.piece
    (c.in_ok-run_blocks.ensures.goes s
    (c.open-stream.ensures (g.R.Reader.state c.args.reader.now) (g.W.Writer.state c.args.writer.now)))

pub returns-in_err-run_blocks-2 : goal.returns-in_err-run_blocks-2
returns-in_err-run_blocks-2 g c =
    let s = start_of c.args.opened c.args.opened_output (g.R.Reader.state c.args.reader.now)
    (g.W.Writer.state c.args.writer.now) in
    run_fails (λ (z : Result (Unit {0}) Fault). StreamsFrom s (g.R.Reader.state c.run_blocks-in-loop-stream.new.reader)
    (g.W.Writer.state c.run_blocks-in-loop-stream.new.writer) z) c.in_err-run_blocks-2.field-0.0
    c.from_residual-in_err-run_blocks-2.result c.from_residual-in_err-run_blocks-2.ensures.1
    (c.in_err-run_blocks-2.ensures.goes s c.loop-stream.invariant)

pub loop-stream-preserved : goal.loop-stream-preserved
loop-stream-preserved g c = c.in_ok-run_blocks-2.ensures.goes
    (start_of c.args.opened c.args.opened_output (g.R.Reader.state c.args.reader.now)
    (g.W.Writer.state c.args.writer.now))
    c.loop-stream.invariant

pub returns-in_err-run_blocks-3 : goal.returns-in_err-run_blocks-3
returns-in_err-run_blocks-3 g c =
    let s = start_of c.args.opened c.args.opened_output (g.R.Reader.state c.args.reader.now)
    (g.W.Writer.state c.args.writer.now) in
    run_fails (λ (z : Result (Unit {0}) Fault). StreamsFrom s (g.R.Reader.state c.run_blocks-2.new.reader)
    (g.W.Writer.state c.run_blocks-2.new.writer) z) c.in_err-run_blocks-3.field-0.0
    c.from_residual-in_err-run_blocks-3.result
    c.from_residual-in_err-run_blocks-3.ensures.1
    (c.in_err-run_blocks-3.ensures.goes s c.loop-stream.invariant)

pub finish-requires-clause-on : goal.finish-requires-clause-on
finish-requires-clause-on g c κs within =
    let s = start_of c.args.opened c.args.opened_output (g.R.Reader.state c.args.reader.now)
    (g.W.Writer.state c.args.writer.now) in (
      s,
      g.R.Reader.state c.run_blocks-2.new.reader,
      c.in_ok-run_blocks-3.ensures.goes s c.loop-stream.invariant,
    )

pub returns : goal.returns
returns g c =
    let s = start_of c.args.opened c.args.opened_output (g.R.Reader.state c.args.reader.now)
    (g.W.Writer.state c.args.writer.now) in
    c.finish.ensures s (g.R.Reader.state c.run_blocks-2.new.reader)
    (c.in_ok-run_blocks-3.ensures.goes s c.loop-stream.invariant)
