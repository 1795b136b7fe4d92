use Rattle.std.proofs.Common.{◌≡◌, ◌-◌, ◌^◌, Some, None, true, false}
use Rattle.sdf_prec.specs.Floor.{IsNextEnd}
use Rattle.sdf_prec.proofs.hu.floor.next_end.Given as goal

abbrev pub invariant-loop-end : goal.invariant-loop-end
invariant-loop-end l = record {
  some : l.some ≡ true → IsNextEnd l.until l.now l.end-index (Some l.next);
  none : l.some ≡ false → IsNextEnd l.until l.now l.end-index None;
  most : l.some ≡ false → l.next ≡ 2 ^ 64 - 1;
}
