use Rattle.std.proofs.Common.{◌≡◌, ◌<◌, take}
use Rattle.sdf_draw.specs.Layouts.{rightmost}
use Rattle.sdf_draw.proofs.layout.Layout.right.Given as goal

abbrev pub invariant-loop-place : goal.invariant-loop-place
invariant-loop-place l = record {
  is : l.most ≡ rightmost (take l.place-index l.self.places.items);
  small : l.most < 2000000000000;
}
