use Rattle.std.proofs.Common.{◌≡◌, ◌<◌, ◌&&◌, ℕ, [], eqb, false}
use Rattle.sdf_actor.specs.Nets.{wire}
use Rattle.sdf_actor.specs.Sides.{end_of}
use Rattle.sdf_actor.specs.Wires.{netlist}
use Rattle.sdf_actor.proofs.checks.ports.first_at.Given as goal

abbrev pub invariant-loop-c : goal.invariant-loop-c
invariant-loop-c g l =
    (k : ℕ) → k < l.c →
    (eqb (end_of l.side (wire (netlist {A = ℕ} [] l.links) k)).0 l.node
    && eqb (end_of l.side (wire (netlist {A = ℕ} [] l.links) k)).1 l.port) ≡ false
