use Rattle.std.proofs.Common.{◌≡◌, ℕ, ◌<◌, [], length, get_or}
use Rattle.sdf_actor.specs.Nets.{no_wire}
use Rattle.sdf_actor.specs.Wires.{lists, wires}
use Rattle.sdf_actor.proofs.resumed_nets.resumed_links.Given as goal

abbrev pub invariant-loop-c : goal.invariant-loop-c
invariant-loop-c g l = record {
  all : length l.begun.items ≡ l.c;
  each : (d : ℕ) → d < l.c → get_or (wires l.begun.items) d no_wire ≡
      record {
        from = (get_or (wires l.links) d no_wire).from;
        to = (get_or (wires l.links) d no_wire).to;
        initial = get_or (lists l.held) d [];
      };
}
