-- The graph that the actors and links of a document make.
use Rattle.std.specs.Prelude.{◌≡◌, ℕ, List, map}
use Rattle.sdf_graph.specs.Rates.{GraphValue}
use Rattle.sdf_actor.specs.declared.node.Node.{Node}
use Rattle.sdf_actor.specs.declared.sides.Side.TheVariants.{Input, Output}
use Rattle.sdf_actor.specs.Nets.{cycle_of, inputs_of, outputs_of}
use Rattle.sdf_actor.specs.Graphs.{rate_of, graph_of}
use Rattle.sdf_kit.specs.declared.kit.Kit.{Kit}
use Rattle.sdf_kit.specs.declared.ports.Ports.{Ports}
use Rattle.sdf_kit.specs.Ports.{count, moved}
use Rattle.sdf_kit.specs.Kit.{kit_steps}
use Rattle.sdf_document.specs.Actors.{ActorValue}
use Rattle.sdf_document.specs.Document.{DocumentValue}
use Rattle.sdf_file.specs.Designs.{node_of, design_of}

-- the cycle of a node, its number of ports on each side, and what its firings move at each port
pub record ArePortsOf (ports : Ports) (node : Node Kit) : Type 0 where
  pub cycle : ports.cycle ≡ cycle_of kit_steps node
  pub input_count : count ports.inputs ≡ inputs_of kit_steps node
  pub output_count : count ports.outputs ≡ outputs_of kit_steps node
  pub inputs : (p j : ℕ) → moved ports.inputs p j ≡ rate_of kit_steps Input node p j
  pub outputs : (p j : ℕ) → moved ports.outputs p j ≡ rate_of kit_steps Output node p j

-- the nodes of actors
abbrev pub nodes_of : List ActorValue → List (Node Kit)
nodes_of actors = map (λ (a : ActorValue). node_of a.kind) actors

-- the graph of a document's net
abbrev pub graph_in : DocumentValue → GraphValue
graph_in d = graph_of kit_steps (design_of d).net
