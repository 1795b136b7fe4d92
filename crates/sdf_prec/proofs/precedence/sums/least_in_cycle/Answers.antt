use Rattle.std.proofs.Common.{ℕ, arith}
use Rattle.sdf_limits.specs.declared.TheConstants.{MAX_RATE}
use Rattle.sdf_graph.specs.Rates.{rate_at}
use Rattle.sdf_graph.proofs.Theorems.{sums_are_small}
use Rattle.sdf_prec.proofs.Cyclic.{one_more, still_in, below_more, least_is}
use Rattle.sdf_prec.proofs.precedence.sums.least_in_cycle.Goals as goal

pub overflow_add-moved : goal.overflow_add-moved
overflow_add-moved c =
    let v = c.loop-moved.invariant in
    let rates = c.requires.cycle in
    omega (
      arith,
      c.from-moved.ensures,
      rates.small c.loop-moved.firings,
      rates.short,
      v.is,
      v.within,
      sums_are_small (rate_at c.args.rates.now) MAX_RATE (λ i. rates.small _) c.loop-moved.firings,
    )

pub loop-moved-preserved : goal.loop-moved-preserved
loop-moved-preserved c =
    let v = c.loop-moved.invariant in
    let xs = c.args.rates.now in
    let i : ℕ = c.loop-moved.firings in
    let within = still_in xs c.args.amount c.loop-moved.moved i v.within v.is c.loop-moved-test.true
    c.requires.within in
    record {
      is = omega (arith, v.is, c.from-moved.ensures, one_more xs i within);
      within = omega (arith, within);
      below = below_more xs c.args.amount c.loop-moved.moved i v.is c.loop-moved-test.true;
    }

pub returns-clause-least : goal.returns-clause-least
returns-clause-least c =
    least_is c.args.rates.now c.args.amount c.loop-moved.moved c.loop-moved.firings c.loop-moved.invariant.is
    (omega (arith, c.loop-moved-test.false)) c.loop-moved.invariant.below
