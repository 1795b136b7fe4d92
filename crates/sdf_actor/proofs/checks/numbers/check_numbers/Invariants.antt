use Rattle.std.proofs.Common.{◌≡◌, ℕ, ◌<◌, None}
use Rattle.sdf_actor.specs.Nets.{wire}
use Rattle.sdf_actor.specs.Graphs.{channel_of}
use Rattle.sdf_actor.specs.Wires.{netlist}
use Rattle.sdf_actor.proofs.Numbers.{own_fault}
use Rattle.sdf_actor.proofs.checks.numbers.check_numbers.Given as goal

abbrev pub invariant-loop-c : goal.invariant-loop-c
invariant-loop-c g l =
    (k : ℕ) → k < l.c → own_fault k (channel_of g.A.Actor.steps l.nodes (wire (netlist l.nodes l.links) k)) ≡ None
