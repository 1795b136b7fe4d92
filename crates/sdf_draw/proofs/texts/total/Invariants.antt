use Rattle.std.proofs.Common.{◌≡◌, ◌*◌, ◌≤◌, sum, take}
use Rattle.sdf_draw.proofs.texts.total.Given as goal

abbrev pub invariant-loop-rate : goal.invariant-loop-rate
invariant-loop-rate l = record {
  is : l.total ≡ sum (take l.rate-index l.rates);
  small : l.total ≤ 4294967296 * l.rate-index;
}
