use Rattle.std.proofs.Common.{◌≡◌, ◌≤◌, length, get_or, sum, arith, sym, ap, ◌∙◌, subst}
use Rattle.sdf_limits.specs.declared.TheConstants.{MAX_BLOCK}
use Rattle.sdf_graph.specs.Rates.{rates}
use Rattle.sdf_graph.specs.Sequences.{IsPass, repeated}
use Rattle.sdf_prec.specs.Blocks.{IsShort, block}
use Rattle.sdf_prec.specs.Costs.{AreCosts}
use Rattle.sdf_prec.proofs.Periods.{block_sum, block_length, block_pass}
use Rattle.sdf_prec.proofs.hu.hu.Goals.{In_ok-firings}
use Rattle.sdf_prec.proofs.hu.hu.Goals as goal

firings_is : (c : In_ok-firings) → c.in_ok-firings.firings.items ≡ block c.args.blocking c.args.period.now.repetitions
firings_is c = c.in_ok-firings.ensures ∙ ap (block c.args.blocking) c.repetitions-2.ensures

all : (c : In_ok-firings) → length c.in_ok-firings.firings.items ≡ c.args.graph.now.actors
all c = ap length (firings_is c) ∙ (block_length c.args.blocking c.args.period.now.repetitions
    ∙ c.requires.period.least.is.all)

short : (c : In_ok-firings) → IsShort c.args.blocking c.args.period.now.repetitions
short c = subst (IsShort c.args.blocking) c.repetitions.ensures c.in_default.ensures.2

few : (c : In_ok-firings) → sum c.in_ok-firings.firings.items ≤ MAX_BLOCK
few c = omega (arith, ap sum (firings_is c), block_sum c.args.blocking c.args.period.now.repetitions, short c)

pub weights_of-requires : goal.weights_of-requires
weights_of-requires c =
    let here = (goal.at.weights_of-requires c).In_ok-firings in
    rw c.deref.ensures.value (record {
      costs = subst (λ k. AreCosts k c.args.costs.now) (sym (all here))
          c.requires.costs;
    })

pub table_for-requires-clause-inputs : goal.table_for-requires-clause-inputs
table_for-requires-clause-inputs c =
    let here = (goal.at.table_for-requires-clause-inputs c).In_ok-firings in
    rw (c.deref-2.ensures.value, c.deref-3.ensures.value) (record {
      actors_few = c.channels.ensures.shape.few;
      firings_all = all here;
      few = few here;
      levels_of = c.in_ok-by_level.ensures.2.firings ∙ sym (firings_is here);
      costs_are = c.requires.costs;
      weights_all = c.in_ok-weights.ensures.all ∙ (ap length c.deref.ensures.value ∙ all here);
      weights_are = rw c.deref.ensures.value at c.in_ok-weights.ensures.each;
    })

pub table_for-requires-clause-pass : goal.table_for-requires-clause-pass
table_for-requires-clause-pass c =
    let g = c.args.graph.now in
    let p = c.args.period.now in
    let here = (goal.at.table_for-requires-clause-pass c).In_ok-firings in
    let pass = subst (λ n. IsPass (rates g) (λ a. get_or n a 0) (repeated c.args.blocking p.order))
    (sym (firings_is here))
    (block_pass g c.channels.ensures.shape p c.requires.period c.args.blocking) in
    rw c.deref-2.ensures.value (repeated c.args.blocking p.order, pass)

pub table_for-requires-clause-levels : goal.table_for-requires-clause-levels
table_for-requires-clause-levels c =
    let here = (goal.at.table_for-requires-clause-levels c).In_ok-firings in
    rw (c.deref-2.ensures.value, firings_is here) c.in_ok-by_level.ensures.2

pub returns : goal.returns
returns c =
    let here = (goal.at.returns c).In_ok-firings in (
      record { blocking = c.in_default.ensures.0; workers = c.in_default.ensures.1; short = short here },
      rw (c.deref-2.ensures.value, firings_is here) at c.in_ok-table.ensures,
    )
