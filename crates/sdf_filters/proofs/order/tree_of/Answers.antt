use Rattle.std.proofs.Common.{◌<◌, refl}
use Rattle.std.proofs.lemmas.List.Elements.{All-replicate}
use Rattle.sdf_filters.proofs.order.tree_of.Goals as goal

pub loop-turn-init : goal.loop-turn-init
loop-turn-init c = (refl, All-replicate (λ turn. turn < c.args.way.turns) 2048 0 c.requires.some)
