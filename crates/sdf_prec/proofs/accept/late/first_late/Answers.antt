use Rattle.std.proofs.Common.{arith}
use Rattle.sdf_graph.specs.Rates.{rates}
use Rattle.sdf_prec.specs.Seen.{IsMarkedBy}
use Rattle.sdf_prec.proofs.Lateness.{in_time_none, late_first}
use Rattle.sdf_prec.proofs.accept.late.first_late.Goals as goal

pub returns-in-Some-late_source : goal.returns-in-Some-late_source
returns-in-Some-late_source c =
    late_first (rates c.args.graph.now) (IsMarkedBy c.args.marks.now c.args.row) c.args.firing
    c.incoming-channel-items.result.now c.incoming-channel-items.ensures.channels
    c.in_default.ensures c.loop-channel.channel-index (omega (arith, c.loop-channel-test.true)) c.loop-channel.invariant
    c.in-Some-late_source.last c.in-Some-late_source.ensures.0 c.in-Some-late_source.ensures.1

pub returns : goal.returns
returns c =
    in_time_none (rates c.args.graph.now) (IsMarkedBy c.args.marks.now c.args.row) c.args.firing
    c.incoming-channel-items.result.now c.incoming-channel-items.ensures.channels
    c.in_default.ensures c.loop-channel.channel-index (omega (arith, c.loop-channel-test.false))
    c.loop-channel.invariant
