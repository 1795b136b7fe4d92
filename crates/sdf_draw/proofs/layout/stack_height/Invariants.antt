use Rattle.std.proofs.Common.{◌≡◌, ◌*◌, ◌≤◌, take}
use Rattle.sdf_draw.specs.Layouts.{stack_height}
use Rattle.sdf_draw.proofs.layout.stack_height.Given as goal

abbrev pub invariant-loop-place : goal.invariant-loop-place
invariant-loop-place l = record {
  is : l.room ≡ stack_height (take l.place-index l.places) l.depth;
  small : l.room ≤ 100000 * l.place-index;
}
