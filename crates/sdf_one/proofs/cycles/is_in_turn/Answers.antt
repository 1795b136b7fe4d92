use Rattle.std.proofs.Common.{length, ap, arith}
use Rattle.sdf_queues.specs.Sizes.{rows_on}
use Rattle.sdf_one.proofs.WholeCycles.{turn_more}
use Rattle.sdf_one.proofs.cycles.is_in_turn.Goals as goal

pub loop-phase-init : goal.loop-phase-init
loop-phase-init c = record {
  turn = λ m n p q l h. absurd (omega arith);
  still = λ m p l. absurd (omega arith);
}

pub on-row-requires : goal.on-row-requires
on-row-requires c = (c.requires c.loop-phase.phase c.loop-phase-test.true).0

pub is_still-requires : goal.is_still-requires
is_still-requires c = λ p l. omega (
  arith,
  (c.requires c.loop-phase.phase c.loop-phase-test.true).1 p l,
  ap length c.on-row.ensures,
)

pub last_port-last-requires : goal.last_port-last-requires
last_port-last-requires c = λ p l. omega (
  arith,
  (c.requires c.loop-phase.phase c.loop-phase-test.true).1 p l,
  ap length c.on-row.ensures,
)

pub loop-phase-preserved : goal.loop-phase-preserved
loop-phase-preserved c =
    let next = turn_more c.args.ports.now (rows_on c.args.side c.args.sizes.now) c.loop-phase.phase c.loop-phase.last
    c.last_port-last.result c.on-row.result.now c.on-row.ensures c.loop-phase.invariant.turn
    c.loop-phase.invariant.still (c.is_still.ensures c.if-not-is_still.false) c.last_port-last.ensures.from
    c.last_port-last.ensures.still in
    record { turn = next.0; still = next.1 }
