use Rattle.sdf_graph.specs.Rates.{rates}
use Rattle.sdf_draw.proofs.Deep.{IsDeepSoFar}
use Rattle.sdf_draw.proofs.depths.depths.Given as goal

abbrev pub invariant-loop-actor : goal.invariant-loop-actor
invariant-loop-actor l = IsDeepSoFar (rates l.graph) l.order l.actor-index l.depths.items
