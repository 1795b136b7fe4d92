use Rattle.std.proofs.Common.{◌≤◌, ◌/◌, ◌-◌, ◌^◌, length, arith}
use Rattle.std.proofs.Math.Nat.{div-le_self}
use Rattle.sdf_limits.specs.declared.TheConstants.{MAX_CYCLE}
use Rattle.sdf_prec.proofs.Cyclic.{whole_some, quotient_less, least_over, steady_least, product_small}
use Rattle.sdf_prec.proofs.precedence.sums.least_for.Goals as goal

pub nonzero_div-cycles : goal.nonzero_div-cycles
nonzero_div-cycles c = omega (
  arith,
  c.moved_by-whole.ensures.value,
  whole_some c.args.rates.now c.requires.cycle,
)

pub least_in_cycle-requires-clause-within : goal.least_in_cycle-requires-clause-within
least_in_cycle-requires-clause-within c =
    let is = c.moved_by-whole.ensures.value in
    omega (
      arith,
      is,
      (quotient_less c.args.amount c.moved_by-whole.result
          (omega (arith, is, whole_some c.args.rates.now c.requires.cycle))
          (omega (arith, c.if-amount-eq0.false))).1,
    )

pub returns : goal.returns
returns c =
    let is = c.moved_by-whole.ensures.value in
    least_over c.args.rates.now c.requires.cycle c.args.amount
    c.moved_by-whole.result ((c.args.amount - 1) / c.moved_by-whole.result) c.least_in_cycle.result is
    ((quotient_less c.args.amount c.moved_by-whole.result
    (omega (arith, is, whole_some c.args.rates.now c.requires.cycle))
    (omega (arith, c.if-amount-eq0.false))).0)
    c.least_in_cycle.ensures.least

pub returns-then-rates-eq1 : goal.returns-then-rates-eq1
returns-then-rates-eq1 c = rw (c.div_ceil.ensures, c.from.ensures)
    (steady_least c.args.rates.now c.if-rates-eq1.true c.requires.cycle c.args.amount)

pub overflow_add-result : goal.overflow_add-result
overflow_add-result c =
    let whole = c.moved_by-whole.result in
    let few : (c.args.amount - 1) / whole ≤ 2 ^ 50 =
    omega (arith, div-le_self (c.args.amount - 1) whole, c.requires.few) in
    omega (
      arith,
      product_small ((c.args.amount - 1) / whole) (length c.args.rates.now) (2 ^ 50) MAX_CYCLE few
          c.requires.cycle.short,
      c.least_in_cycle.ensures.within,
      c.requires.cycle.short,
    )
