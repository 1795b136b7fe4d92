use Rattle.std.proofs.Common.{◌≡◌, ◌≤◌, length, take, drop}
use Rattle.sdf_profile.specs.Places.{behind, written_from}
use Rattle.sdf_profile.specs.Written.{DifferInCosts}
use Rattle.sdf_profile.proofs.replaced.text_with.Given as goal

abbrev pub invariant-loop-actor : goal.invariant-loop-actor
invariant-loop-actor l = record {
  within : l.read ≤ length l.graph;
  made : DifferInCosts (take l.actor l.costs) (take l.read l.graph) l.text.items;
  same : behind l.text.items (written_from l.graph l.read l.actor (drop l.actor l.places) (drop l.actor l.costs))
      ≡ written_from l.graph 0 0 l.places l.costs;
}
