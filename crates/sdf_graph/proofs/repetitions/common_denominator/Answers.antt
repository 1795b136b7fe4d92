use Rattle.std.proofs.Common.{◌≤◌, ◌*◌, arith}
use Rattle.sdf_graph.proofs.RatioLaws.{common_more, no_greater}
use Rattle.sdf_graph.proofs.repetitions.common_denominator.Goals as goal

pub loop-part-init : goal.loop-part-init
loop-part-init c = (
  omega arith,
  record {
    some = omega arith;
    each = λ a h. absurd (omega arith);
    least = λ x all. (x, omega arith);
  },
)

pub returns-then-all-gt-MAX_PERIOD : goal.returns-then-all-gt-MAX_PERIOD
returns-then-all-gt-MAX_PERIOD c n some all =
    let more = common_more _ c.loop-part.part-index _ _ _ c.loop-part.invariant.1
    (c.requires c.loop-part.part-index (omega arith)).0 c.lowest_terms-rest.ensures in
    let all' : c.loop-part.all * c.lowest_terms-rest.result.den ≤ n =
    no_greater _ n some (more.least n (λ a h. all a (omega arith))) in
    omega arith

pub loop-part-preserved : goal.loop-part-preserved
loop-part-preserved c = (
  omega arith,
  common_more _ c.loop-part.part-index _ _ _ c.loop-part.invariant.1
      (c.requires c.loop-part.part-index (omega arith)).0 c.lowest_terms-rest.ensures,
)
