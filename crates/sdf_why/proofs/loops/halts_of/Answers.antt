use Rattle.std.proofs.Common.{rules}
use Rattle.sdf_why.proofs.Rounds.{fed_all}
use Rattle.sdf_why.proofs.loops.halts_of.Goals as goal

pub returns : goal.returns
returns c = fed_all c.args.graph.now c.loop-actor.halts.items c.args.kept.now (search rules) (search rules)
