use Rattle.std.proofs.Common.{◌≡◌, suc, ◌+◌, get_or, below_more, subst, ap, ◌∙◌, arith}
use Rattle.sdf_graph.proofs.Theorems.{sums_grow}
use Rattle.sdf_prec.specs.declared.firing.Firing.{Firing}
use Rattle.sdf_prec.specs.Blocks.{block}
use Rattle.sdf_times.specs.Checks.{plan_of}
use Rattle.sdf_times.specs.Rounds.{IsStep, before_step, step_at, wait_of}
use Rattle.sdf_times.proofs.round.is_round.Goals as goal

pub overflow_add-blocks : goal.overflow_add-blocks
overflow_add-blocks c =
    omega (arith, c.loop-i.invariant.blocks_small, c.widen-blocks.ensures.small, c.if-steps.false, c.loop-i-test.true)

pub loop-i-preserved : goal.loop-i-preserved
loop-i-preserved c =
    let next : suc c.loop-i.i ≡ c.loop-i.i + 1 = omega arith in
    let here = c.loop-i.invariant.before in
    let wait_is : c.wait_of-time.result ≡ wait_of (λ a. get_or c.args.costs.now a 0)
    (before_step c.args.steps.now c.loop-i.i) (step_at c.args.steps.now c.loop-i.i).hold =
    c.wait_of-time.ensures.is ∙ ap (λ (f : Firing). wait_of (λ a. get_or c.args.costs.now a 0) f
    (step_at c.args.steps.now c.loop-i.i).hold) here in
    record {
      before = ap (before_step c.args.steps.now) next;
      time = omega (
        arith,
        c.loop-i.invariant.time,
        wait_is,
        sums_grow (λ i. wait_of (λ a. get_or c.args.costs.now a 0)
            (before_step c.args.steps.now i) (step_at c.args.steps.now i).hold) c.loop-i.i,
      );
      blocks = omega (
        arith,
        c.loop-i.invariant.blocks,
        c.widen-blocks.ensures.is,
        sums_grow (λ i. (step_at c.args.steps.now i).blocks) c.loop-i.i,
      );
      time_small = omega (arith, c.loop-i.invariant.time_small, c.wait_of-time.ensures.small);
      blocks_small = omega (arith, c.loop-i.invariant.blocks_small, c.widen-blocks.ensures.small);
      each = below_more (λ k. IsStep (plan_of c.args.graph.now (block c.args.j c.args.reps.now) c.args.table.now
          c.args.costs.now) (before_step c.args.steps.now k) (step_at c.args.steps.now k)) c.loop-i.i
          c.loop-i.invariant.each
          (subst (λ f. IsStep (plan_of c.args.graph.now (block c.args.j c.args.reps.now) c.args.table.now
          c.args.costs.now) f (step_at c.args.steps.now c.loop-i.i)) here
          (c.is_step.ensures.0 c.if-not-is_step.false));
    }
