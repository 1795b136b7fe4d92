-- What an actor does: its ports and rates, its firings, and all that they put.
use Rattle.std.specs.Prelude.{ℕ, ℤ, pos, List, replicate}
use Rattle.sdf_actor.specs.Steps.{Steps}
use Rattle.sdf_kit.specs.Ports.{count, moved}
use Rattle.sdf_kit.specs.declared.ports.Ports.{Ports}

pub record Behaviour : Type 0 where
  pub ports : Ports
  -- the number of samples kept from one firing to the next, zeros at the start
  pub kept : ℕ
  -- what it keeps after a firing, by the samples kept and those taken at all ports, port after port
  pub next : List ℤ → List ℤ → List ℤ
  -- what a firing puts, port after port, by its phase, the samples kept and those taken
  pub puts : ℕ → List ℤ → List ℤ → List ℤ
  -- formula x p n: sample n of all that it puts at output port p, if x q is all that it takes at input port q
  pub formula : (ℕ → List ℤ) → ℕ → ℕ → ℤ

-- the ports, rates and steps of actors, by their behaviours
abbrev pub steps_of : {A : Type 0} → (A → Behaviour) → Steps A (List ℤ) ℤ
steps_of of = record {
  inputs = λ x. count (of x).ports.inputs;
  outputs = λ x. count (of x).ports.outputs;
  cycle = λ x. (of x).ports.cycle;
  take = λ x p j. moved (of x).ports.inputs p j;
  put = λ x p j. moved (of x).ports.outputs p j;
  start = λ x. replicate (of x).kept (pos 0);
  next = λ x j kept taken. (of x).next kept taken;
  puts = λ x j kept taken. (of x).puts j kept taken;
}
