-- When a node can do its next firing, and at which phase.
use Rattle.std.proofs.Common.{◌≡◌, ℕ, ◌+◌, ◌*◌, ◌%◌, ◌≤◌, ◌<◌, List, length, sym, refl, arith}
use Rattle.std.proofs.Math.Nat.{mul-le-mul_left, mod-one}
use Rattle.std.proofs.lemmas.Nat.{mod_below}
use Rattle.sdf_actor.specs.Steps.{Steps, phase}
use Rattle.sdf_actor.specs.Nets.{cycle_of}
use Rattle.sdf_actor.specs.declared.node.Node.{Node}
use Rattle.sdf_actor.specs.declared.node.Node.TheVariants as node
use Rattle.sdf_node.specs.declared.node.NodeState.{NodeState}
use Rattle.sdf_node.specs.declared.node.NodeState.TheVariants.{Source, Sink, Inner}
use Rattle.sdf_node.specs.Nodes.{phase_at, takes_of, puts_of, CanStep, IsAt}

module _ {A S T : Type 0} (s : Steps A S T) (inputs : List (List T)) where
  pub keeps_phase : (x : Node A) (many : ℕ) (past : List (List T)) (w : NodeState T S) → IsAt s inputs many x past w →
      phase_at w ≡ length past % cycle_of s x
  keeps_phase (node.Source ext block) many past (Source next) is = sym (mod-one (length past))
  keeps_phase (node.Sink ext block) many past (Sink list) is = sym (mod-one (length past))
  keeps_phase (node.Inner x) many past (Inner j state) is = is.0
  keeps_phase (node.Source ext block) many past (Sink list) is = absurd is
  keeps_phase (node.Source ext block) many past (Inner j state) is = absurd is
  keeps_phase (node.Sink ext block) many past (Source next) is = absurd is
  keeps_phase (node.Sink ext block) many past (Inner j state) is = absurd is
  keeps_phase (node.Inner x) many past (Source next) is = absurd is
  keeps_phase (node.Inner x) many past (Sink list) is = absurd is

  pub can_step : (x : Node A) (many : ℕ) (past : List (List T)) (w : NodeState T S) → IsAt s inputs many x past w →
      0 < cycle_of s x → length past < many →
      CanStep s inputs x w (takes_of s x (phase_at w)) (puts_of s x (phase_at w))
  can_step (node.Source ext block) many past (Source next) is some left =
      let within : block * (length past + 1) ≤ block * many = mul-le-mul_left block (omega arith) in
      (is.1, omega (arith, is.0, is.2), refl)
  can_step (node.Sink ext block) many past (Sink list) is some left =
      let within : block * (length past + 1) ≤ block * many = mul-le-mul_left block (omega arith) in
      (omega (arith, is.1, is.2), refl, refl)
  can_step (node.Inner x) many past (Inner j state) is some left =
      let below : phase s x (length past) < s.cycle x = mod_below (length past) (s.cycle x) some in
      (omega (arith, is.0, below), refl, refl)
  can_step (node.Source ext block) many past (Sink list) is some left = absurd is
  can_step (node.Source ext block) many past (Inner j state) is some left = absurd is
  can_step (node.Sink ext block) many past (Source next) is some left = absurd is
  can_step (node.Sink ext block) many past (Inner j state) is some left = absurd is
  can_step (node.Inner x) many past (Source next) is some left = absurd is
  can_step (node.Inner x) many past (Sink list) is some left = absurd is
