-- How many samples firings move.
use Rattle.std.specs.Prelude.{◌≡◌, ℕ, ◌+◌, ◌-◌, ◌%◌, ◌<◌, List, [], length, slice_index, slice_index_or}
use Rattle.std.specs.List.{sum_by, range_with_len}
use Rattle.sdf_graph.specs.Rates.{ChannelValue}
use Rattle.sdf_actor.specs.declared.node.Node.{Node}
use Rattle.sdf_actor.specs.declared.sides.Side.{Side}
use Rattle.sdf_actor.specs.declared.sides.Side.TheVariants.{Input, Output}
use Rattle.sdf_actor.specs.Steps.{Steps}
use Rattle.sdf_actor.specs.Nets.{Netlist, node, wiring, inputs_of, outputs_of, cycle_of}
use Rattle.sdf_actor.specs.Graphs.{rate_of}
use Rattle.sdf_actor.specs.Sides.{ports_of, moved_at}

-- how many samples a firing at each phase takes from each channel, and puts on it
pub record SizesValue : Type 0 where
  pub takes : List (List ℕ)
  pub puts : List (List ℕ)

-- the rates at the end of a channel on a side of its nodes
abbrev pub rates_on : Side → ChannelValue → List ℕ
rates_on Input e = e.take
rates_on Output e = e.put

abbrev pub rows_on : Side → SizesValue → List (List ℕ)
rows_on Input z = z.takes
rows_on Output z = z.puts

-- the sizes at phase j
abbrev pub at_phase : List (List ℕ) → ℕ → List ℕ
at_phase rows j = slice_index_or rows j []

-- the phase of firing i of a node
abbrev pub phase_of : {A S T : Type 0} → Steps A S T → Node A → ℕ → ℕ
phase_of s x i = i % cycle_of s x

-- what firing i of a node takes and puts in all
abbrev pub in_all : {A S T : Type 0} → Steps A S T → Node A → ℕ → ℕ
in_all s x i = sum_by (λ p. rate_of s Input x p (phase_of s x i)) (range_with_len 0 (inputs_of s x))

abbrev pub out_all : {A S T : Type 0} → Steps A S T → Node A → ℕ → ℕ
out_all s x i = sum_by (λ p. rate_of s Output x p (phase_of s x i)) (range_with_len 0 (outputs_of s x))

-- firing i of node a takes and puts these numbers of samples on each of its channels
pub record IsPlan {A S T : Type 0} (s : Steps A S T) (n : Netlist A T) (a i : ℕ) (takes puts : List ℕ) : Type 0 where
  pub takes_all : length takes ≡ length n.wires
  pub puts_all : length puts ≡ length n.wires
  pub taken : (c : ℕ) → c < length n.wires → (wiring s n).rates.target c ≡ a →
      (wiring s n).rates.consumed c (i + 1) ≡ (wiring s n).rates.consumed c i + slice_index takes c
  pub put : (c : ℕ) → c < length n.wires → (wiring s n).rates.source c ≡ a →
      (wiring s n).rates.produced c (i + 1) ≡ (wiring s n).rates.produced c i + slice_index puts c

-- each node has phases, and each of its firings moves the sizes of its phase
pub record AreSizes {A S T : Type 0} (s : Steps A S T) (n : Netlist A T) (z : SizesValue) : Type 0 where
  pub some : (a : ℕ) → a < length n.nodes → 0 < cycle_of s (node n a)
  pub takes_known : (a i : ℕ) → a < length n.nodes → phase_of s (node n a) i < length z.takes
  pub puts_known : (a i : ℕ) → a < length n.nodes → phase_of s (node n a) i < length z.puts
  pub plan : (a i : ℕ) → a < length n.nodes → IsPlan s n a i (at_phase z.takes (phase_of s (node n a) i))
      (at_phase z.puts (phase_of s (node n a) i))

-- the samples that firing k moves at port p
abbrev pub sizes : {A S T : Type 0} → Steps A S T → Side → Node A → ℕ → ℕ → ℕ
sizes s side x k p = moved_at s side x p (k + 1) - moved_at s side x p k

-- the row of each phase of the node says what its firings move, by port
pub record AreRows {A S T : Type 0} (s : Steps A S T) (side : Side) (x : Node A) (rows : List (List ℕ)) : Type 0 where
  pub known : (k : ℕ) → phase_of s x k < length rows
  pub long : (k : ℕ) → length (at_phase rows (phase_of s x k)) ≡ ports_of s side x
  pub each : (k p : ℕ) → p < ports_of s side x → slice_index (at_phase rows (phase_of s x k)) p ≡ sizes s side x k p
