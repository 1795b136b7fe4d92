use Rattle.std.proofs.Common.{◌≡◌, ◌+◌, length, take}
use Rattle.sdf_actor.specs.Steps.{phase, sum_in, sum_out, state_at, puts_to}
use Rattle.sdf_actor.proofs.actor.Actor.fire_many.Given as goal

abbrev pub invariant-loop : goal.invariant-loop
invariant-loop g l = record {
  now : l.now ≡ phase g.Self.Actor.steps l.self (l.phase + l.counter);
  read : l.read ≡ sum_in g.Self.Actor.steps l.self l.phase l.counter;
  written : l.written ≡ sum_out g.Self.Actor.steps l.self l.phase l.counter;
  long : length l.put ≡ length l.fn.put;
  state : l.state ≡ state_at g.Self.Actor.steps l.self l.phase l.fn.state l.taken l.counter;
  put : take l.written l.put ≡ puts_to g.Self.Actor.steps l.self l.phase l.fn.state l.taken l.counter;
}
