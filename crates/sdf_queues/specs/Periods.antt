-- What a run of a number of periods depends on.
use Rattle.std.specs.Prelude.{◌≡◌, ℕ, ◌*◌, ◌≤◌, ◌<◌, List, [], length, sum, slice_index, slice_index_or}
use Rattle.sdf_limits.specs.declared.TheConstants.{MAX_RATE, MAX_BLOCK}
use Rattle.sdf_graph.specs.Rates.{Rates, rates, IsShape, IsAlike}
use Rattle.sdf_graph.specs.Periods.{IsLeastPeriod}
use Rattle.sdf_graph.specs.Sequences.{IsPass}
use Rattle.sdf_sched.specs.Period.{Schedule, IsPeriodOf}
use Rattle.sdf_actor.specs.declared.node.Node.TheVariants.{Source, Sink}
use Rattle.sdf_actor.specs.declared.sides.Lists.{Lists}
use Rattle.sdf_actor.specs.declared.sides.Lists.TheVariants.{Outputs}
use Rattle.sdf_actor.specs.Graphs.{graph_of}
use Rattle.sdf_actor.specs.NetFaults.{WasAccepted}
use Rattle.sdf_actor.specs.Nets.{Netlist, node, wiring, cycle_of, IsNet, InputsReach}
use Rattle.sdf_actor.specs.Sides.{list_count, period_samples}
use Rattle.sdf_actor.specs.Steps.{Steps}
use Rattle.sdf_queues.specs.RunResults.{periods_of}

-- a net that was accepted, and one period of it
pub record HasPeriod {A S T : Type 0} (s : Steps A S T) (n : Netlist A T) (p : Schedule) : Type 0 where
  pub net : IsNet s n
  pub shape : IsShape (graph_of s n)
  pub alike : IsAlike (rates (graph_of s n)) (wiring s n).rates
  pub accepted : WasAccepted s n
  pub period : IsPeriodOf (rates (graph_of s n)) p

-- no two sinks make one output list
abbrev pub AreApart : {A T : Type 0} → Netlist A T → Type 0
AreApart n = (a d e x y : ℕ) → a < length n.nodes → d < length n.nodes → node n a ≡ Sink e x → node n d ≡ Sink e y →
    a ≡ d

-- each sink makes an output list of its own
pub record HasSinks {A T : Type 0} (n : Netlist A T) : Type 0 where
  pub apart : AreApart n
  pub below : (a ext block : ℕ) → a < length n.nodes → node n a ≡ Sink ext block → ext < list_count Outputs n.nodes

-- what every run depends on, of a net that was accepted
pub record HasFacts {A S T : Type 0} (s : Steps A S T) (n : Netlist A T) : Type 0 where
  pub net : IsNet s n
  pub graph : IsShape (graph_of s n)
  pub alike : IsAlike (rates (graph_of s n)) (wiring s n).rates
  -- each node has a phase
  pub phases : (a : ℕ) → a < length n.nodes → 0 < cycle_of s (node n a)
  pub sinks : HasSinks n

-- any number of periods of q can be fired from the start, and each puts and takes the same number of samples on each
-- channel
pub record IsPaced (r : Rates) (q : List ℕ) : Type 0 where
  pub all : length q ≡ r.actors
  pub small : (a : ℕ) → a < r.actors → slice_index q a ≤ 65536
  pub passes : (b : ℕ) → (w : List ℕ) × IsPass r (periods_of q b) w
  pub put : (b c : ℕ) → c < r.channels → r.produced c (b * slice_index q (r.source c)) ≡
      b * r.produced c (slice_index q (r.source c))
  pub taken : (b c : ℕ) → c < r.channels → r.consumed c (b * slice_index q (r.target c)) ≡
      b * r.produced c (slice_index q (r.source c))

-- a net can be run for a number of periods of q on these inputs
pub record CanRun {A S T : Type 0} (s : Steps A S T) (n : Netlist A T) (q : List ℕ) (periods : ℕ)
    (inputs : List (List T)) : Type 0 where
  pub paced : IsPaced (wiring s n).rates q
  -- each source finds what it reads
  pub reads : (a ext block : ℕ) → a < length n.nodes → node n a ≡ Source ext block →
      (ext < length inputs) × (block * periods_of q periods a ≤ length (slice_index_or inputs ext []))
  pub reach : InputsReach n inputs (periods_of q periods)
  -- the same number of samples reaches each sink
  pub makes : (a ext block : ℕ) → a < length n.nodes → node n a ≡ Sink ext block →
      block * periods_of q periods a ≡ periods * period_samples n.nodes Outputs q
  -- a period puts on each channel what the graph says
  pub put : (c : ℕ) → c < length n.wires →
      let r = rates (graph_of s n) in
      r.produced c (slice_index q (r.source c)) ≡ (wiring s n).rates.produced c
      (slice_index q ((wiring s n).rates.source c))

-- in a block of few firings no list moves more samples than MAX_BLOCK firings do at the rate MAX_RATE
abbrev pub AreBlocksSmall : {A S T : Type 0} → Steps A S T → Netlist A T → Type 0
AreBlocksSmall s n =
    (j : ℕ) (q : List ℕ) (lists : Lists) → IsLeastPeriod (rates (graph_of s n)) q →
    j * sum q ≤ MAX_BLOCK →
    j * period_samples n.nodes lists q ≤ MAX_RATE * MAX_BLOCK
