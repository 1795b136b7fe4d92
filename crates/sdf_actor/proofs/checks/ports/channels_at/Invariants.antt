use Rattle.std.proofs.Common.{◌≡◌, ℕ, [], map}
use Rattle.std.specs.List.{range_with_len}
use Rattle.sdf_actor.specs.Sides.{channel_at}
use Rattle.sdf_actor.specs.Wires.{netlist}
use Rattle.sdf_actor.specs.NetFaults.{HasChannels}
use Rattle.sdf_actor.proofs.checks.ports.channels_at.Given as goal

abbrev pub invariant-loop-port : goal.invariant-loop-port
invariant-loop-port g l = record {
  made : l.channels.items ≡ map (channel_at (netlist {A = ℕ} [] l.links) l.side l.node) (range_with_len 0 l.port);
  joined : HasChannels (netlist {A = ℕ} [] l.links) l.node l.side l.port;
}
