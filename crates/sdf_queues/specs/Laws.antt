-- Statements of the laws.
use Rattle.std.specs.Prelude.{◌≡◌, ◌≢◌, ℕ, ◌+◌, ◌*◌, ◌≤◌, ◌<◌, ◌==◌, cond, List, [], length, map, take, slice_index_or}
use Rattle.std.specs.List.{flat_map, Contains}
use Rattle.sdf_graph.specs.Rates.{rates, IsShape}
use Rattle.sdf_graph.specs.Sequences.{IsEnabled}
use Rattle.sdf_sched.specs.Period.{Schedule, IsPeriodOf}
use Rattle.sdf_actor.specs.declared.node.Node.TheVariants.{Sink}
use Rattle.sdf_actor.specs.declared.sides.Lists.TheVariants.{Inputs, Outputs}
use Rattle.sdf_actor.specs.Graphs.{graph_of}
use Rattle.sdf_actor.specs.Histories.{taken, taken_before}
use Rattle.sdf_actor.specs.NetFaults.{WasAccepted}
use Rattle.sdf_actor.specs.Nets.{Netlist, node, wiring, arrived, IsNet, InputsReach, IsHistoryOf}
use Rattle.sdf_actor.specs.Sides.{list_count, period_samples}
use Rattle.sdf_actor.specs.Steps.{Steps}
use Rattle.sdf_queues.specs.RunResults.{HasInputs, AreOutputs, periods_of}
use Rattle.sdf_queues.specs.Blocks.{at_ports}
use Rattle.sdf_queues.specs.Periods.{HasFacts, HasPeriod, AreBlocksSmall, CanRun}
use Rattle.sdf_queues.specs.Moves.{FitsPorts, IsLeft, front_of, MovesOn}
use Rattle.sdf_queues.specs.Sizes.{IsPlan}

-- an accepted net has what every run depends on
abbrev pub NetsHaveFacts : {A S T : Type 0} → Steps A S T → Type 0
NetsHaveFacts {A} {S} {T} s = (n : Netlist A T) → WasAccepted s n → HasFacts s n

-- an accepted net and any period of it have what the laws of runs ask for
abbrev pub NetsHavePeriods : {A S T : Type 0} → Steps A S T → Type 0
NetsHavePeriods {A} {S} {T} s =
    (n : Netlist A T) → WasAccepted s n → (p : Schedule) → IsPeriodOf (rates (graph_of s n)) p →
    HasPeriod s n p

-- a block of few firings reads and makes few samples
abbrev pub BlocksAreSmall : {A S T : Type 0} → Steps A S T → Type 0
BlocksAreSmall {A} {S} {T} s = (n : Netlist A T) → IsNet s n → IsShape (graph_of s n) → AreBlocksSmall s n

-- each list is the beginning of the later list of its number
abbrev pub Begin : {T : Type 0} → List (List T) → List (List T) → Type 0
Begin lists later =
    (e : ℕ) → slice_index_or lists e [] ≡ take (length (slice_index_or lists e [])) (slice_index_or later e [])

-- the outputs of more periods begin with the outputs of fewer, on inputs that begin with the inputs of fewer
abbrev pub RunsGoOn : {A S T : Type 0} → Steps A S T → Type 0
RunsGoOn {A} {S} {T} s =
    (n : Netlist A T) (p : Schedule) (few many : ℕ) (inputs later longer : List (List T)) →
    HasPeriod s n p → few ≤ many → HasInputs n p.repetitions few inputs → Begin inputs later →
    AreOutputs s n later (periods_of p.repetitions many) longer →
    AreOutputs s n inputs (periods_of p.repetitions few)
    (map (take (few * period_samples n.nodes Outputs p.repetitions)) longer)

-- a net that has a period can be run for any number of periods that its inputs reach
abbrev pub NetsCanRun : {A S T : Type 0} → Steps A S T → Type 0
NetsCanRun {A} {S} {T} s =
    (n : Netlist A T) (p : Schedule) (periods : ℕ) (inputs : List (List T)) →
    HasPeriod s n p → HasInputs n p.repetitions periods inputs → CanRun s n p.repetitions periods inputs

-- if no node has fired, the history is what the channels begin with
abbrev pub HistoriesBegin : {A S T : Type 0} → Steps A S T → Type 0
HistoriesBegin {A} {S} {T} s =
    (n : Netlist A T) (inputs : List (List T)) (k : ℕ → ℕ) → IsNet s n → ((a : ℕ) → a < length n.nodes → k a ≡ 0) →
    IsHistoryOf s n inputs k (wiring s n).starts

-- all that a sink took is what has arrived there
abbrev pub SinksTakeAll : {A S T : Type 0} → Steps A S T → Type 0
SinksTakeAll {A} {S} {T} s =
    (n : Netlist A T) (V : ℕ → List T) (k : ℕ → ℕ) (a ext block : ℕ) → IsNet s n → node n a ≡ Sink ext block →
    flat_map (λ (b : List T). b) (taken_before (wiring s n) V a (k a)) ≡ arrived s n k V a

-- the lists of what the sinks took are the outputs
abbrev pub SinksMakeOutputs : {A S T : Type 0} → Steps A S T → Type 0
SinksMakeOutputs {A} {S} {T} s =
    (n : Netlist A T) (inputs : List (List T)) (q : List ℕ) (periods : ℕ) (k : ℕ → ℕ) (V : ℕ → List T)
    (outputs : List (List T)) →
    IsNet s n → IsHistoryOf s n inputs k V → ((a : ℕ) → a < length n.nodes → k a ≡ periods_of q periods a) →
    length outputs ≡ list_count Outputs n.nodes →
    ((a ext block : ℕ) → a < length n.nodes → node n a ≡ Sink ext block →
    slice_index_or outputs ext [] ≡ flat_map (λ (b : List T). b) (taken_before (wiring s n) V a (k a))) →
    AreOutputs s n inputs (periods_of q periods) outputs

-- if the inputs hold no sample, there is no period to run, nothing fires, and empty lists are the outputs
abbrev pub NothingMakesNothing : {A S T : Type 0} → Steps A S T → Type 0
NothingMakesNothing {A} {S} {T} s =
    (n : Netlist A T) (q : List ℕ) (periods : ℕ) (inputs outputs : List (List T)) →
    IsNet s n → HasInputs n q periods inputs → 0 < length inputs → 0 < period_samples n.nodes Inputs q →
    length (slice_index_or inputs 0 []) ≡ 0 →
    length outputs ≡ list_count Outputs n.nodes → ((e : ℕ) → e < length outputs → slice_index_or outputs e [] ≡ []) →
    AreOutputs s n inputs (periods_of q periods) outputs

-- a node takes one block in each firing
abbrev pub BlocksAreCounted : {A S T : Type 0} → Steps A S T → Type 0
BlocksAreCounted {A} {S} {T} s = (n : Netlist A T) (V : ℕ → List T) (a i : ℕ) →
    length (taken_before (wiring s n) V a i) ≡ i

-- a node takes from the channels that lead to it, each at one of its ports, and from no other
abbrev pub NodesTakeTheirs : {A S T : Type 0} → Steps A S T → Type 0
NodesTakeTheirs {A} {S} {T} s =
    (n : Netlist A T) (a c : ℕ) → IsNet s n → a < length n.nodes → c < length n.wires →
    ((wiring s n).rates.target c ≡ a → Contains ((wiring s n).ins a) c) ×
    ((many : ℕ) → at_ports ((wiring s n).ins a) many c ≡ cond ((wiring s n).rates.target c == a) many 0)

-- the sizes of a firing fit its node's ports
abbrev pub PlansFit : {A S T : Type 0} → Steps A S T → Type 0
PlansFit {A} {S} {T} s =
    (n : Netlist A T) (a i : ℕ) (takes puts : List ℕ) → IsNet s n → a < length n.nodes → IsPlan s n a i takes puts →
    FitsPorts s n a i takes puts

-- the block of a node's next firing is at the front of its channels
abbrev pub BlocksStand : {A S T : Type 0} → Steps A S T → Type 0
BlocksStand {A} {S} {T} s =
    (n : Netlist A T) (k : ℕ → ℕ) (a : ℕ) (V : ℕ → List T) (takes puts : List ℕ) (queue : ℕ → List T) →
    IsNet s n → a < length n.nodes → IsPlan s n a (k a) takes puts → IsLeft s n k V queue →
    front_of s n a takes queue ≡ taken (wiring s n) V a (k a)

-- a firing of an enabled node moves the samples on the channels on from one history to the next
abbrev pub FiringsMoveOn : {A S T : Type 0} → Steps A S T → Type 0
FiringsMoveOn {A} {S} {T} s =
    (n : Netlist A T) (inputs : List (List T)) (k m : ℕ → ℕ) (a : ℕ) (V : ℕ → List T) (takes puts : List ℕ)
    (queue : ℕ → List T) →
    IsNet s n → a < length n.nodes → IsEnabled (wiring s n).rates k a → m a ≡ k a + 1 → ((b : ℕ) → a ≢ b → m b ≡ k b) →
    InputsReach n inputs m →
    IsHistoryOf s n inputs k V → IsPlan s n a (k a) takes puts → IsLeft s n k V queue →
    MovesOn s n inputs k m a V takes puts queue
