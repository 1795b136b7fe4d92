use Rattle.std.proofs.Common.{refl, ◌∙◌, arith}
use Rattle.sdf_rings.proofs.Looking.{moved_none, moved_join, can_kept}
use Rattle.sdf_rings.proofs.seat.spin_until_ready.Goals as goal

pub loop-tries-init : goal.loop-tries-init
loop-tries-init g c = record {
  ring_node = c.requires;
  moved = moved_none;
  done = refl;
  tries = omega arith;
  at_once = λ can. refl;
}

pub returns-then-is_ready-clause-moved : goal.returns-then-is_ready-clause-moved
returns-then-is_ready-clause-moved g c =
    moved_join c.loop-tries.invariant.moved c.is_ready.ensures.moved

pub loop-tries-preserved : goal.loop-tries-preserved
loop-tries-preserved g c = record {
  ring_node = c.is_ready.ensures.ring_node;
  moved = moved_join c.loop-tries.invariant.moved c.is_ready.ensures.moved;
  done = c.is_ready.ensures.done ∙ c.loop-tries.invariant.done;
  tries = omega (arith, c.loop-tries.invariant.tries);
  at_once = λ can. absurd (c.is_ready.ensures.no c.if-is_ready.false
      (can_kept (moved_join c.loop-tries.invariant.moved c.is_ready.ensures.moved)
      (c.is_ready.ensures.done ∙ c.loop-tries.invariant.done) can));
}

pub returns-clause-moved : goal.returns-clause-moved
returns-clause-moved g c =
    moved_join c.loop-tries.invariant.moved c.is_ready-2.ensures.moved
