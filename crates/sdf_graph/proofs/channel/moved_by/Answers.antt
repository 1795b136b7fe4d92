use Rattle.std.proofs.Common.{◌≡◌, ◌*◌, ◌/◌, length, ap, sym, ◌∙◌, arith}
use Rattle.sdf_graph.specs.Rates.{rate_at, sum_to}
use Rattle.sdf_graph.proofs.Cycles.{sum_to_parts, sum_to_steady, few_moved}
use Rattle.sdf_graph.proofs.channel.moved_by.Goals as goal
use Rattle.sdf_graph.proofs.channel.moved_by.Goals.{After-moved_in_cycle-whole}

-- what the whole cycles move
whole : (c : After-moved_in_cycle-whole) →
    c.args.firings / length c.args.rates.now * c.moved_in_cycle-whole.result
    ≡ c.args.firings / length c.args.rates.now * sum_to (rate_at c.args.rates.now) (length c.args.rates.now)
whole c = ap (λ x. c.args.firings / length c.args.rates.now * x) c.moved_in_cycle-whole.ensures.value

pub overflow_mul-result-2 : goal.overflow_mul-result-2
overflow_mul-result-2 c =
    let xs = c.args.rates.now in
    omega (
      arith,
      whole (goal.at.overflow_mul-result-2 c).After-moved_in_cycle-whole,
      sum_to_parts xs c.requires.some c.args.firings,
      few_moved xs c.requires.small c.args.firings,
      c.requires.few,
    )

pub overflow_add-result : goal.overflow_add-result
overflow_add-result c =
    let xs = c.args.rates.now in
    omega (
      arith,
      whole (goal.at.overflow_add-result c).After-moved_in_cycle-whole,
      c.moved_in_cycle-2.ensures.value,
      sum_to_parts xs c.requires.some c.args.firings,
      few_moved xs c.requires.small c.args.firings,
      c.requires.few,
    )

pub returns-clause-value : goal.returns-clause-value
returns-clause-value c = omega (
  arith,
  whole (goal.at.returns-clause-value c).After-moved_in_cycle-whole,
  c.moved_in_cycle-2.ensures.value,
  sum_to_parts c.args.rates.now c.requires.some c.args.firings,
)

pub returns-clause-small : goal.returns-clause-small
returns-clause-small c =
    let xs = c.args.rates.now in
    omega (
      arith,
      whole (goal.at.returns-clause-small c).After-moved_in_cycle-whole,
      c.moved_in_cycle-2.ensures.value,
      sum_to_parts xs c.requires.some c.args.firings,
      few_moved xs c.requires.small c.args.firings,
    )

pub returns-then-rates-eq1-clause-value : goal.returns-then-rates-eq1-clause-value
returns-then-rates-eq1-clause-value c = ap (λ x. c.args.firings * x) c.from.ensures
    ∙ sym (sum_to_steady c.args.rates.now c.if-rates-eq1.true c.args.firings)
