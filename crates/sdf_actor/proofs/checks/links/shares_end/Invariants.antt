use Rattle.std.proofs.Common.{◌≡◌, ◌<◌, ℕ, get_or}
use Rattle.sdf_actor.specs.Nets.{no_wire}
use Rattle.sdf_actor.specs.Wires.{wire_of, wires}
use Rattle.sdf_actor.proofs.checks.links.shares_end.Given as goal

abbrev pub invariant-loop-d : goal.invariant-loop-d
invariant-loop-d g l = record {
  here : wire_of l.link ≡ get_or (wires l.links) l.c no_wire;
  from : (d : ℕ) → d < l.d → (get_or (wires l.links) d no_wire).from ≡ (get_or (wires l.links) l.c no_wire).from → ⊥;
  to : (d : ℕ) → d < l.d → (get_or (wires l.links) d no_wire).to ≡ (get_or (wires l.links) l.c no_wire).to → ⊥;
}
