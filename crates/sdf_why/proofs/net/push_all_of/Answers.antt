use Rattle.std.proofs.Common.{string_bytes}
use Rattle.toml.specs.View.{view}
use Rattle.sdf_why.specs.Nets.{one_of}
use Rattle.sdf_why.proofs.Lines.{line_added}
use Rattle.sdf_why.proofs.net.push_all_of.Goals as goal

pub loop-actor-preserved : goal.loop-actor-preserved
loop-actor-preserved c =
    line_added (one_of c.args.kind.now c.args.key.now (view c.args.graph.now))
    c.loop-actor.actor (string_bytes c.args.text.now) (string_bytes c.loop-actor.text)
    _ c.loop-actor.invariant c.in_ok-push_one_of.ensures
