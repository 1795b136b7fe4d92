-- The steps of actors that begin in a state.
use Rattle.sdf_actor.specs.declared.actor.Actor.{Ghosts}
use Rattle.sdf_actor.specs.declared.resumed_actor.ResumedActor.{ResumedActor}
use Rattle.sdf_actor.specs.Steps.{Steps}

-- the steps of the actors, except that each begins in its state
abbrev pub resumed_steps : {A T S : Type 0} (g : Ghosts A T S) → Steps (ResumedActor A T S g) S T
resumed_steps g = record {
  inputs = λ b. g.steps.inputs b.actor.now;
  outputs = λ b. g.steps.outputs b.actor.now;
  cycle = λ b. g.steps.cycle b.actor.now;
  take = λ b. g.steps.take b.actor.now;
  put = λ b. g.steps.put b.actor.now;
  start = λ b. b.state;
  next = λ b. g.steps.next b.actor.now;
  puts = λ b. g.steps.puts b.actor.now;
}
