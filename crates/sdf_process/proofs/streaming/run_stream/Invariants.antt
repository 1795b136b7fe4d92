use Rattle.sdf_process.specs.Flows.{GoesOn, start_of}
use Rattle.sdf_process.proofs.streaming.run_stream.Given as goal

abbrev pub invariant-loop-stream : goal.invariant-loop-stream
invariant-loop-stream g l =
    GoesOn (start_of l.fn.opened l.fn.opened_output (g.R.Reader.state l.fn.reader) (g.W.Writer.state l.fn.writer))
    l.stream (g.R.Reader.state l.reader) (g.W.Writer.state l.writer)

abbrev pub decreases-loop-stream : goal.decreases-loop-stream
decreases-loop-stream g l = l.stream.flow.left
