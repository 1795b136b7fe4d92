use Rattle.std.proofs.Common.{◌≡◌, ℕ, ◌<◌, ◌≤◌, length}
use Rattle.std.specs.Prelude.{slice_index}
use Rattle.sdf_actor.specs.Nets.{wire}
use Rattle.sdf_draw.specs.Layouts.{IsRoute, IsWithin, route}
use Rattle.sdf_draw.proofs.layout.routes_of.Given as goal

abbrev pub invariant-loop-link : goal.invariant-loop-link
invariant-loop-link l = record {
  all : length l.routes.items ≡ l.link;
  each : (c : ℕ) → c < l.link → IsRoute (slice_index l.depths (wire l.design.net c).from.0)
      (slice_index l.depths (wire l.design.net c).to.0) (route l.routes.items c);
  within : (c : ℕ) → c < l.link → IsWithin l.lanes.above l.lanes.below (route l.routes.items c);
  above : l.lanes.above ≤ l.link;
  below : l.lanes.below ≤ l.link;
}
