use Rattle.std.proofs.Common.{true, false, sym, ap, ◌∙◌, arith, below_more}
use Rattle.std.proofs.lemmas.Bool.{both_ways, ltb-true, ltb-false}
use Rattle.sdf_actor.proofs.Numbers.{too_large, some_moved, none_moves}
use Rattle.sdf_actor.proofs.node.Node.has_rates.Goals.{then-moves, else-moves}
use Rattle.sdf_actor.proofs.node.Node.has_rates.Goals as goal

pub returns-then-rate-gt-MAX_RATE : goal.returns-then-rate-gt-MAX_RATE
returns-then-rate-gt-MAX_RATE g c =
    sym (too_large g.A.Actor.steps c.args.side c.args.self.now c.args.port c.loop-phase.phase
    (omega (arith, c.cycle-cycle.ensures)) (omega (arith, c.rate-rate.ensures)))

pub loop-phase-preserved : goal.loop-phase-preserved
loop-phase-preserved g c =
    let rate = c.rate-rate.ensures in
    elim c.if-moves.branch [
      | then-moves w ↦ record {
        small = below_more _ _ c.loop-phase.invariant.small (omega arith);
        still = λ e. absurd (both_ways c.if-moves.moves e (w.moves-is ∙ w.if-moves.true));
        some = λ e. let r = c.loop-phase.invariant.some w.if-moves.true in (r.0, omega (arith, r.1), r.2);
      }
      | else-moves w ↦ record {
        small = below_more _ _ c.loop-phase.invariant.small (omega arith);
        still = λ e. below_more _ _ (c.loop-phase.invariant.still w.if-moves.false)
            (omega (arith, ltb-false 0 c.rate-rate.result (sym w.moves-is ∙ e)));
        some = λ e. (
          c.loop-phase.phase,
          omega arith,
          omega (arith, ltb-true 0 c.rate-rate.result (sym w.moves-is ∙ e)),
        );
      }
    ]

pub returns-then-moves-2 : goal.returns-then-moves-2
returns-then-moves-2 g c =
    let all = c.cycle-cycle.ensures in
    let r = c.loop-phase.invariant.some c.if-moves-2.true in
    c.if-moves-2.true ∙
    sym (some_moved g.A.Actor.steps c.args.side c.args.self.now c.args.port
    (λ i l. c.loop-phase.invariant.small i (omega arith)) r.0 (omega (arith, r.1)) r.2)

pub returns-else-moves-2 : goal.returns-else-moves-2
returns-else-moves-2 g c =
    let all = c.cycle-cycle.ensures in
    ap (λ n. Rattle.std.proofs.Common.eqb n 0) all ∙
    sym (none_moves g.A.Actor.steps c.args.side c.args.self.now c.args.port
    (λ i l. c.loop-phase.invariant.still c.if-moves-2.false i (omega arith)))
