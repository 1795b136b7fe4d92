use Rattle.std.proofs.Common.{◌≡◌, arith}
use Rattle.std.proofs.lemmas.Nat.Gcd.{IsGcd-from_mod, IsGcd-from_zero}
use Rattle.sdf_filters.proofs.ratio.gcd.Goals as goal

pub loop-y-preserved : goal.loop-y-preserved
loop-y-preserved c = (omega arith, λ g h. c.loop-y.invariant.1 g (IsGcd-from_mod _ _ g h))

pub returns : goal.returns
returns c = record {
  some = omega arith;
  is = c.loop-y.invariant.1 _ (IsGcd-from_zero _ _ (let z : c.loop-y.y ≡ 0 = omega arith in z));
}
