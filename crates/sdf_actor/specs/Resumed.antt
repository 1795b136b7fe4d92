-- Actors that begin in a state.
use Rattle.std.specs.Prelude.{◌≡◌, Option, Some}
use Rattle.sdf_actor.specs.declared.node.Node.{Node}
use Rattle.sdf_actor.specs.declared.node.Node.TheVariants.{Source, Sink, Inner}
use Rattle.sdf_actor.specs.Steps.{Steps, PutsFit}

-- the steps of actors that begin in a given state
abbrev pub steps_from : {A S T : Type 0} → Steps A S T → S → Steps A S T
steps_from s state = record {
  inputs = s.inputs;
  outputs = s.outputs;
  cycle = s.cycle;
  take = s.take;
  put = s.put;
  start = λ _. state;
  next = s.next;
  puts = s.puts;
}

-- y is actor x, except that it begins in the given state
pub record BeginsIn {A B S T : Type 0} (s : Steps A S T) (r : Steps B S T) (x : A) (state : S) (y : B) : Type 0 where
  pub inputs : r.inputs y ≡ s.inputs x
  pub outputs : r.outputs y ≡ s.outputs x
  pub cycle : r.cycle y ≡ s.cycle x
  pub take : r.take y ≡ s.take x
  pub put : r.put y ≡ s.put x
  pub start : r.start y ≡ state
  pub next : r.next y ≡ s.next x
  pub puts : r.puts y ≡ s.puts x

-- a node may begin in a state: an actor has one, and what it puts from there on has its length
abbrev pub MayBegin : {A S T : Type 0} → Steps A S T → Option S → Node A → Type 0
MayBegin s state (Source ext block) = Unit {0}
MayBegin s state (Sink ext block) = Unit {0}
MayBegin {A} {S} s state (Inner x) = (now : S) × (state ≡ Some now) × PutsFit (steps_from s now) x
