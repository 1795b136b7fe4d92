use Rattle.std.proofs.Common.{map, []}
use Rattle.toml.specs.View.{view}
use Rattle.sdf_why.specs.Near.{name_in}
use Rattle.sdf_why.proofs.Lines.{line_added}
use Rattle.sdf_why.proofs.near.actor_names.Goals as goal

pub loop-actor-preserved : goal.loop-actor-preserved
loop-actor-preserved c =
    line_added (name_in (view c.args.graph.now)) c.loop-actor.actor []
    (map (λ name. name.now) c.loop-actor.names.items) _ c.loop-actor.invariant c.in_ok-push_name_of.ensures
