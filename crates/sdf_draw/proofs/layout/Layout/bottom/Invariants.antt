use Rattle.std.proofs.Common.{◌≡◌, ◌<◌, take}
use Rattle.sdf_draw.specs.Layouts.{lowest}
use Rattle.sdf_draw.proofs.layout.Layout.bottom.Given as goal

abbrev pub invariant-loop-place : goal.invariant-loop-place
invariant-loop-place l = record {
  is : l.most ≡ lowest (take l.place-index l.self.places.items);
  small : l.most < 1000000000000;
}
