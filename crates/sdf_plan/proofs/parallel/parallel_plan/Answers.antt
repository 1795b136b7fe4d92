use Rattle.std.proofs.Common.{◌≤◌, ℕ, List, IfNone, IfSome, subst, sym}
use Rattle.sdf_graph.specs.Periods.{IsLeastPeriod}
use Rattle.sdf_graph.specs.Rates.{rates}
use Rattle.sdf_actor.specs.Graphs.{graph_of}
use Rattle.sdf_kit.specs.Kit.{kit_steps}
use Rattle.sdf_warm_up.specs.Warm.{IsLeast}
use Rattle.sdf_warm_up.specs.WarmUps.{IsLasting, WarmsIn}
use Rattle.sdf_plan.proofs.Alone.{is_alone}
use Rattle.sdf_plan.proofs.parallel.parallel_plan.Goals as goal

pub by_parts-requires-clause-warm_up : goal.by_parts-requires-clause-warm_up
by_parts-requires-clause-warm_up c =
    let q = c.in_ok-period.period.repetitions in
    let n = c.net.result.now in
    let period : IsLeastPeriod (rates (graph_of kit_steps n)) q =
    subst (λ m. IsLeastPeriod (rates (graph_of kit_steps m)) q) (sym c.net.ensures.value)
    c.in_ok-period.ensures.period.least in
    subst (λ m. IsLeast (WarmsIn kit_steps m q) c.in-Some.periods) c.net.ensures.value
    (record {
      is = subst (λ o. IfSome o (λ periods. (r : List ℕ) → IsLeastPeriod (rates (graph_of kit_steps n)) r →
          WarmsIn kit_steps n r periods)) c.in-Some.is c.in_ok-periods.ensures.warms q period;
      least = λ fewer warms. subst (λ o. IfSome o (λ periods. (r : List ℕ) (k : ℕ) →
          IsLeastPeriod (rates (graph_of kit_steps n)) r → WarmsIn kit_steps n r k → periods ≤ k)) c.in-Some.is
          c.in_ok-periods.ensures.least q fewer period warms;
    })

pub returns-in-None-clause-answers : goal.returns-in-None-clause-answers
returns-in-None-clause-answers c = (
  is_alone c.args.design.now c.in_ok-period.period c.in_ok-period.ensures c.on_one_thread-in-None.result
      c.on_one_thread-in-None.ensures,
  c.if-workers-eq1.false,
  subst (IsLasting kit_steps) c.net.ensures.value
      (subst (λ o. IfNone o (IsLasting kit_steps c.net.result.now)) c.in-None.is c.in_ok-periods.ensures.lasts),
)
