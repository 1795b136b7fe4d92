-- The links of a design, with what firings move.
use Rattle.std.specs.Prelude.{ℕ}
use Rattle.sdf_graph.specs.Rates.{ChannelValue, channel}
use Rattle.sdf_actor.specs.Graphs.{graph_of}
use Rattle.sdf_actor.specs.Nets.{node, wire, inputs_of, outputs_of}
use Rattle.sdf_kit.specs.Kit.{kit_steps}
use Rattle.sdf_file.specs.Designs.{DesignValue}
use Rattle.sdf_draw.specs.declared.ports.End.{End}

-- link c: its actors, what firings put on it and take from it, and how many samples it begins with
abbrev pub edge : DesignValue → ℕ → ChannelValue
edge d c = channel (graph_of kit_steps d.net) c

-- the ends of link c: each an actor and its port, beside how many ports the actor has on that side
abbrev pub from_end : DesignValue → ℕ → End
from_end d c = record {
  actor = (wire d.net c).from.0;
  port = (wire d.net c).from.1;
  ports = outputs_of kit_steps (node d.net (wire d.net c).from.0);
}

abbrev pub to_end : DesignValue → ℕ → End
to_end d c = record {
  actor = (wire d.net c).to.0;
  port = (wire d.net c).to.1;
  ports = inputs_of kit_steps (node d.net (wire d.net c).to.0);
}
