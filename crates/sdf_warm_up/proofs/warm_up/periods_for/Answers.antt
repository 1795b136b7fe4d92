use Rattle.std.proofs.Common.{◌+◌, ◌*◌, ◌≤◌, ℕ, get_or, arith, below_more}
use Rattle.std.proofs.Math.Nat.{mul-le-mul_right}
use Rattle.sdf_warm_up.proofs.warm_up.periods_for.Goals as goal

pub loop-a-preserved : goal.loop-a-preserved
loop-a-preserved c =
    let since = c.args.since.now in
    let memory = c.args.memory.now in
    let q = c.args.repetitions.now in
    let a : ℕ = c.loop-a.a in
    let next = c.periods_with-periods.result in
    record {
      enough = below_more (λ i. get_or since i 0 + get_or memory i 0 ≤ next * get_or q i 0) a
          (λ i h. let more : c.loop-a.periods * get_or q i 0 ≤ next * get_or q i 0 =
          mul-le-mul_right (get_or q i 0) c.periods_with-periods.ensures.rises in
          omega (arith, c.loop-a.invariant.enough i h))
          c.periods_with-periods.ensures.enough;
      least = λ p within. c.periods_with-periods.ensures.least p (c.loop-a.invariant.least p within)
          (within a c.loop-a-test.true);
      few = c.periods_with-periods.ensures.few c.loop-a.invariant.few
          (omega (arith, c.requires.since.few a c.loop-a-test.true, c.requires.memory.few a c.loop-a-test.true));
    }
