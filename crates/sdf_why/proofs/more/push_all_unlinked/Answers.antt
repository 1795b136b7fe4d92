use Rattle.std.proofs.Common.{string_bytes}
use Rattle.toml.specs.View.{view}
use Rattle.sdf_why.specs.More.{unlinked_told}
use Rattle.sdf_why.proofs.Lines.{line_added}
use Rattle.sdf_why.proofs.more.push_all_unlinked.Goals as goal

pub loop-actor-preserved : goal.loop-actor-preserved
loop-actor-preserved c =
    line_added (unlinked_told (view c.args.tables.now) c.args.marked.now)
    c.loop-actor.actor (string_bytes c.args.text.now) (string_bytes c.loop-actor.text)
    _ c.loop-actor.invariant c.in_ok-push_unlinked.ensures
