use Rattle.std.proofs.Common.{arith}
use Rattle.sdf_graph.proofs.Meets.{reduced_small, product_small}
use Rattle.sdf_graph.proofs.RatioLaws.{some_product}
use Rattle.sdf_graph.proofs.balance.cycle_ratio.Goals as goal

pub lowest_terms-requires-clause-top : goal.lowest_terms-requires-clause-top
lowest_terms-requires-clause-top c = some_product _ _ c.requires.from_some.0 c.requires.to_some.1

pub lowest_terms-requires-clause-bottom : goal.lowest_terms-requires-clause-bottom
lowest_terms-requires-clause-bottom c = some_product _ _ c.requires.to_some.0 c.requires.from_some.1

pub returns-clause-top_small : goal.returns-clause-top_small
returns-clause-top_small c = omega (
  arith,
  (reduced_small _ _ _ _ (some_product _ _ c.requires.from_some.0 c.requires.to_some.1)
      (some_product _ _ c.requires.to_some.0 c.requires.from_some.1) c.lowest_terms.ensures).0,
  product_small c.args.from.num c.args.to.den c.requires.from_small.top c.requires.to_small.bottom,
)

pub returns-clause-bottom_small : goal.returns-clause-bottom_small
returns-clause-bottom_small c = omega (
  arith,
  (reduced_small _ _ _ _ (some_product _ _ c.requires.from_some.0 c.requires.to_some.1)
      (some_product _ _ c.requires.to_some.0 c.requires.from_some.1) c.lowest_terms.ensures).1,
  product_small c.args.to.num c.args.from.den c.requires.to_small.top c.requires.from_small.bottom,
)
