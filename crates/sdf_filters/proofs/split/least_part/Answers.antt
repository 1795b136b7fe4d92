use Rattle.std.proofs.Common.{inl, inr, arith}
use Rattle.std.proofs.Math.Nat.{mod-one, mod_self}
use Rattle.sdf_filters.proofs.Splits.{over_limit}
use Rattle.sdf_filters.proofs.split.least_part.Goals as goal

pub returns-in-Some : goal.returns-in-Some
returns-in-Some c = record {
  up_divides = c.in-Some.ensures.divides;
  down_divides = mod-one _;
  some = omega (arith, c.in-Some.ensures.more);
}

pub returns-in-Some-least_factor : goal.returns-in-Some-least_factor
returns-in-Some-least_factor c = record {
  up_divides = mod-one _;
  down_divides = c.in-Some-least_factor.ensures.divides;
  some = omega (arith, c.in-Some-least_factor.ensures.more);
}

pub returns-then-left-gt1 : goal.returns-then-left-gt1
returns-then-left-gt1 c = record {
  large = over_limit c.args.left.up (omega arith) c.in_default.ensures;
  of = inl (mod_self c.args.left.up);
  none = c.in_default.ensures;
}

pub returns : goal.returns
returns c = record {
  large = over_limit c.args.left.down (omega arith) c.in_default-least_factor.ensures;
  of = inr (mod_self c.args.left.down);
  none = c.in_default-least_factor.ensures;
}
