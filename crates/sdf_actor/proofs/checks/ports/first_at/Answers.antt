use Rattle.std.proofs.Common.{arith, below_more, length, sym, ap, ◌∙◌}
use Rattle.sdf_actor.proofs.Readings.{wire_read, first_at_is, is_here}
use Rattle.sdf_actor.proofs.checks.ports.first_at.Goals as goal

pub returns-then-is_at : goal.returns-then-is_at
returns-then-is_at g c =
    let read = wire_read c.args.links.now c.loop-c.c c.index-links-c.result c.loop-c-test.true c.index-links-c.is in (
      first_at_is c.args.links.now c.args.side c.args.node c.args.port c.loop-c.c (omega arith) c.loop-c.invariant
          (λ h. ap (is_here c.args.side c.args.node c.args.port) read ∙ (sym c.is_at.ensures ∙ c.if-is_at.true)),
      c.loop-c-test.true,
    )

pub loop-c-preserved : goal.loop-c-preserved
loop-c-preserved g c =
    let read = wire_read c.args.links.now c.loop-c.c c.index-links-c.result c.loop-c-test.true c.index-links-c.is in
    below_more _ _ c.loop-c.invariant
    (ap (is_here c.args.side c.args.node c.args.port) read ∙ (sym c.is_at.ensures ∙ c.if-is_at.false))

pub returns : goal.returns
returns g c =
    sym (first_at_is c.args.links.now c.args.side c.args.node c.args.port (length c.args.links.now) (omega arith)
    (λ k h. c.loop-c.invariant k (omega arith)) (λ h. absurd (omega arith)))
