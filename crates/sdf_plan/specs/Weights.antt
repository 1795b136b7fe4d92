-- Weights: the loads of a design's actors, by which they are spread over workers.
use Rattle.std.specs.Prelude.{ℕ, ◌+◌, ◌*◌, Bool, ◌==◌, min, max, if◌then◌else◌, List, length, map}
use Rattle.std.specs.Prelude.{slice_index}
use Rattle.std.specs.List.{list_all, range_with_len}
use Rattle.sdf_limits.specs.declared.TheConstants.{MAX_COST}
use Rattle.sdf_actor.specs.Nets.{node}
use Rattle.sdf_actor.specs.declared.node.Node.{Node}
use Rattle.sdf_actor.specs.declared.node.Node.TheVariants.{Source, Sink, Inner}
use Rattle.sdf_kit.specs.FiringProducts.{products_of}
use Rattle.sdf_kit.specs.Kit.{behaviour}
use Rattle.sdf_kit.specs.declared.kit.Kit.{Kit}
use Rattle.sdf_kit.specs.declared.ports.PortRates.{PortRates}
use Rattle.sdf_kit.specs.declared.ports.PortRates.TheVariants.{Every, InTurn}
use Rattle.sdf_file.specs.Designs.{DesignValue}
use Rattle.sdf_plan.specs.declared.weights.TheConstants.{SAMPLE_WEIGHT}

-- the samples that a firing moves at all ports of a side
abbrev pub samples_moved : PortRates → ℕ
samples_moved (Every ports rate) = ports * rate
samples_moved (InTurn ports rate) = rate

-- a weight within the limits of a cost
abbrev pub clamp_cost : ℕ → ℕ
clamp_cost weight = max 1 (min MAX_COST weight)

-- the weight of a firing of a node: 1 for each product, and SAMPLE_WEIGHT for each sample that it moves
abbrev pub node_load : Node Kit → ℕ
node_load (Source channel block) = clamp_cost (SAMPLE_WEIGHT * block)
node_load (Sink channel block) = clamp_cost (SAMPLE_WEIGHT * block)
node_load (Inner kit) =
    clamp_cost (products_of kit
    + SAMPLE_WEIGHT * (samples_moved (behaviour kit).ports.inputs + samples_moved (behaviour kit).ports.outputs))

-- the design gives no costs: each is 1, which is also the value of an absent key `cost`
abbrev pub is_free_of_costs : DesignValue → Bool
is_free_of_costs d = list_all (λ cost. cost == 1) d.costs

-- the weight of a firing of actor a: by its node, or its cost
abbrev pub firing_weight : DesignValue → Bool → ℕ → ℕ
firing_weight d by_kind a = if by_kind then node_load (node d.net a) else slice_index d.costs a

-- the weight of each actor's firings in a period
abbrev pub weights_by : DesignValue → Bool → List ℕ → List ℕ
weights_by d by_kind q = map (λ a. slice_index q a * firing_weight d by_kind a) (range_with_len 0 (length d.net.nodes))

-- by costs if the design gives them, otherwise by what the nodes do
abbrev pub weights_of : DesignValue → List ℕ → List ℕ
weights_of d q = weights_by d (is_free_of_costs d) q
