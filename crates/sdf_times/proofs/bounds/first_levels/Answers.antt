use Rattle.std.proofs.Common.{◌≡◌, ℕ, ◌+◌, ◌*◌, length, get_or, sym, ap, subst, refl, arith}
use Rattle.sdf_times.specs.Times.{IsGreatest}
use Rattle.sdf_times.proofs.Spans.{FirstLevel, block_length, count_is, first_more, first_skip, first_all}
use Rattle.sdf_times.proofs.bounds.first_levels.Goals.{then-count-gt0, else-count-gt0}
use Rattle.sdf_times.proofs.bounds.first_levels.Goals as goal

pub loop-actor-preserved : goal.loop-actor-preserved
loop-actor-preserved c =
    let s = c.args.of.now in
    let i : ℕ = c.loop-actor.actor in
    let count : get_or s.firings i 0 ≡ c.from.result * c.from-in-loop-actor.result =
    count_is c.args.blocking c.args.reps.now s.firings i c.from.result c.from-in-loop-actor.result
    (c.from.result * c.from-in-loop-actor.result) c.requires c.from.ensures c.from-in-loop-actor.ensures refl in
    elim c.if-count-gt0.branch [
      | then-count-gt0 w ↦
          rw (w.most-is)
          (subst (IsGreatest (FirstLevel s (i + 1))) (sym w.max-most.ensures)
          (first_more s i c.loop-actor.most w.of.result (omega (arith, count, w.if-count-gt0.true))
          w.of.ensures c.loop-actor.invariant))
      | else-count-gt0 w ↦ rw (w.most-is) (first_skip s i c.loop-actor.most
          (λ h. omega (arith, count, h, w.if-count-gt0.false)) c.loop-actor.invariant)
    ]

pub returns : goal.returns
returns c = first_all c.args.of.now c.loop-actor.actor c.loop-actor.most
    (omega (arith, c.loop-actor-test.false, ap length c.requires, block_length c.args.blocking c.args.reps.now))
    c.loop-actor.invariant
