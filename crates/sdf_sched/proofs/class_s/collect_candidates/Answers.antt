use Rattle.std.proofs.Common.{refl, ◌∙◌, arith}
use Rattle.sdf_sched.proofs.Runnable.{collected_none, collected_more, collected_all}
use Rattle.sdf_sched.proofs.class_s.collect_candidates.Goals as goal

pub admit-requires-clause-below : goal.admit-requires-clause-below
admit-requires-clause-below c = λ a h. omega (arith, c.loop-actor.invariant.list.early a h)

pub admit-requires-clause-listed : goal.admit-requires-clause-listed
admit-requires-clause-listed c = c.loop-actor.invariant.list.each c.loop-actor.actor

pub loop-actor-init : goal.loop-actor-init
loop-actor-init c = record {
  list = collected_none _ _ _ _ _ c.requires.empty (c.requires.each ∙ c.requires.all);
  capacity = refl;
}

pub loop-actor-preserved : goal.loop-actor-preserved
loop-actor-preserved c = record {
  list = collected_more _ _ _ _ _ _ _ _ c.loop-actor.invariant.list c.admit.ensures.tested;
  capacity = c.admit.ensures.capacity ∙ c.loop-actor.invariant.capacity;
}

pub returns-clause-list : goal.returns-clause-list
returns-clause-list c = collected_all _ _ _ c.loop-actor.actor _ _ (omega arith) c.loop-actor.invariant.list
