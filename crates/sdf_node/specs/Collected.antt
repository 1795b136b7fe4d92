-- The lists that sinks make.
use Rattle.std.specs.Prelude.{◌≡◌, ℕ, List, [], length, slice_index_or}
use Rattle.std.specs.List.{flat_map}
use Rattle.std.specs.Global.{Global}
use Rattle.std.specs.declared.vec.Vec.{Vec}
use Rattle.sdf_actor.specs.declared.node.Node.{Node}
use Rattle.sdf_actor.specs.declared.node.Node.TheVariants as node
use Rattle.sdf_actor.specs.Steps.{Steps}
use Rattle.sdf_actor.specs.Wires.{lists}
use Rattle.sdf_node.specs.declared.node.NodeState.{NodeState}
use Rattle.sdf_node.specs.declared.node.NodeState.TheVariants.{Sink}
use Rattle.sdf_node.specs.Nodes.{IsAt}

-- if node x is a sink, `outputs'` has at its number the list that it made; the other lists are as in `outputs`
pub record IsCollected {A S T : Type 0} (x : Node A) (w : NodeState T S)
    (outputs outputs' : List (Vec T Global)) : Type 0 where
  pub all : length outputs' ≡ length outputs
  pub own : (ext block : ℕ) (made : Vec T Global) → x ≡ node.Sink ext block → w ≡ Sink made →
      slice_index_or (lists outputs') ext [] ≡ made.items
  pub others : (e : ℕ) → ((block : ℕ) → x ≡ node.Sink e block → ⊥) →
      slice_index_or (lists outputs') e [] ≡ slice_index_or (lists outputs) e []

-- no state but that of a sink changes
abbrev pub KeepsOthers : {A S T : Type 0} → Node A → NodeState T S → NodeState T S → Type 0
KeepsOthers (node.Source ext block) w w' = w' ≡ w
KeepsOthers (node.Sink ext block) w w' = Unit {0}
KeepsOthers (node.Inner x) w w' = w' ≡ w

-- a sink has a list of all that it took
abbrev pub SinksHoldLists : {A S T : Type 0} → Steps A S T → Type 0
SinksHoldLists {A} {S} {T} s =
    (inputs : List (List T)) (many ext block : ℕ) (past : List (List T)) (w : NodeState T S) →
    IsAt s inputs many (node.Sink ext block) past w →
    (made : Vec T Global) × (w ≡ Sink made) × (made.items ≡ flat_map (λ b. b) past)
