-- Rows made one after another.
use Rattle.std.specs.Prelude.{◌≡◌, ℕ, ◌+◌, ◌*◌, ◌≤◌, ◌<◌, ◌⊎◌, ◌↔◌, List, length, sum, slice_index, slice_index_or}
use Rattle.std.specs.Prelude.{replicate, [], Option, Some, None, Bool, true, IsTrue}
use Rattle.sdf_limits.specs.declared.TheConstants.{MAX_ACTORS, MAX_BLOCK, MAX_COST}
use Rattle.sdf_graph.specs.Rates.{Rates, GraphValue, rates, IsSound}
use Rattle.sdf_graph.specs.CountsValue.{CountsValue}
use Rattle.sdf_prec.specs.declared.firing.Firing.{Firing}
use Rattle.sdf_prec.specs.declared.hu.simulation.HuInputs.{HuInputs}
use Rattle.sdf_prec.specs.Costs.{AreCosts}
use Rattle.sdf_prec.specs.Numbers.{NumbersValue, number}
use Rattle.sdf_prec.specs.Tables.{cell_of}
use Rattle.sdf_prec.specs.TimedRows.{Timed, cells_of, IsSettled, hu_rule}
use Rattle.sdf_prec.specs.Trying.{IsQueue}
use Rattle.sdf_prec.specs.Queued.{IsQueueOf, IsUnmarked}
use Rattle.sdf_prec.specs.Floor.{IsNextReady, IsFloor, AreStarted, IsStuck, IsDue, IsDone}

-- the inputs of Hu's rule: firings, levels, costs, and weights, each the cost of all firings of an actor
pub record AreInputs (actors : ℕ) (firings : List ℕ) (levels : NumbersValue) (costs weights : List ℕ) : Type 0 where
  pub actors_few : actors ≤ MAX_ACTORS
  pub firings_all : length firings ≡ actors
  pub few : sum firings ≤ MAX_BLOCK
  pub levels_of : levels.firings ≡ firings
  pub costs_are : AreCosts actors costs
  pub weights_all : length weights ≡ actors
  pub weights_are : (a : ℕ) → slice_index weights a ≡ slice_index firings a * slice_index costs a

-- inputs for a graph
abbrev pub AreInputsFor : GraphValue → HuInputs → Type 0
AreInputsFor g inputs = AreInputs g.actors inputs.firings.now inputs.levels.now inputs.costs.now inputs.weights.now

-- the state at a time: the counts of ended and of started firings, the actor that each column fired last and when that
-- firing ends, homes, ready firings, and a mark for each actor that may have become ready
pub record SimulationValue : Type 0 where
  pub time : ℕ
  pub counts : CountsValue
  pub started : List ℕ
  pub whose : List ℕ
  pub until : List ℕ
  pub homes : List (Option ℕ)
  pub queue : List Firing
  pub marks : List Bool

-- lists for each actor or column, homes in columns, and a time of at most the greatest cost for each ended firing
pub record IsSimulation (state : SimulationValue) : Type 0 where
  pub sound : IsSound (rates state.counts.graph)
  pub fired_all : length state.counts.fired ≡ state.counts.graph.actors
  pub started_all : length state.started ≡ state.counts.graph.actors
  pub whose_all : length state.whose ≡ length state.until
  pub homes_all : length state.homes ≡ state.counts.graph.actors
  pub marks_all : length state.marks ≡ state.counts.graph.actors
  pub inside : (a j : ℕ) → slice_index_or state.homes a None ≡ Some j → j < length state.until
  pub early : state.time ≤ MAX_COST * sum state.counts.fired
  pub soon : (j : ℕ) → slice_index state.until j ≤ state.time + MAX_COST

-- no column is at work yet
abbrev pub idle : GraphValue → (width : ℕ) → SimulationValue
idle g width = record {
  time = 0;
  counts = record { graph = g; fired = replicate g.actors 0 };
  started = replicate g.actors 0;
  whose = replicate width 0;
  until = replicate width 0;
  homes = replicate g.actors None;
  queue = [];
  marks = replicate g.actors true;
}

-- a firing that a simulation may start
abbrev pub IsReadyTo : HuInputs → SimulationValue → Firing → Type 0
IsReadyTo inputs state =
    IsNextReady (rates state.counts.graph) (slice_index inputs.firings.now) (slice_index state.counts.fired)
    (slice_index state.started)

-- a simulation whose queue has all ready firings
abbrev pub IsQueued : HuInputs → SimulationValue → Type 0
IsQueued inputs state = IsQueue (number inputs.levels.now) (IsReadyTo inputs state) state.queue

-- a simulation whose queue has ready firings, among them all of unmarked actors
abbrev pub IsQueuedBut : HuInputs → SimulationValue → Type 0
IsQueuedBut inputs state = IsQueueOf (number inputs.levels.now) (IsReadyTo inputs state)
    (IsUnmarked state.marks) state.queue

-- a simulation in which a row is due at its time, after some rows
abbrev pub IsDueTo : HuInputs → SimulationValue → List Timed → Type 0
IsDueTo inputs state past =
    IsDue (rates state.counts.graph) (slice_index inputs.firings.now) (slice_index inputs.costs.now)
    (number inputs.levels.now)
    (length state.until) inputs.homed past state.time
    (slice_index state.counts.fired) (slice_index state.started) (slice_index state.whose) (slice_index state.until)
    (λ a. slice_index_or state.homes a None)

-- a simulation that is done with its time, after some rows
abbrev pub IsDoneBy : HuInputs → SimulationValue → List Timed → Type 0
IsDoneBy inputs state past =
    IsDone (rates state.counts.graph) (slice_index inputs.firings.now) (slice_index inputs.costs.now)
    (number inputs.levels.now)
    (length state.until) inputs.homed past state.time
    (slice_index state.counts.fired) (slice_index state.started) (slice_index state.whose) (slice_index state.until)
    (λ a. slice_index_or state.homes a None)

-- a simulation in which a row is due after these rows, with some start times; and one that is done after them
abbrev pub IsDueAfter : HuInputs → SimulationValue → List (List (Option Firing)) → Type 0
IsDueAfter inputs state rows = (past : List Timed) × (cells_of past ≡ rows) × IsDueTo inputs state past

abbrev pub IsDoneAfter : HuInputs → SimulationValue → List (List (Option Firing)) → Type 0
IsDoneAfter inputs state rows = (past : List Timed) × (cells_of past ≡ rows) × IsDoneBy inputs state past

-- the cells of the rule's row at time now, with the homes after it
pub record IsRowAt (r : Rates) (n cost : ℕ → ℕ) (level : Firing → ℕ) (width : ℕ) (homed : Bool) (past : List Timed)
    (now : ℕ) (ended started whose until : ℕ → ℕ) (homes : ℕ → Option ℕ) (cells : List (Option Firing)) : Type 0 where
  pub floor : IsFloor r n cost width past now ended started whose until
  pub wide : length cells ≡ width
  pub by_rule : hu_rule r n cost level width homed past now cells
  pub each : (j : ℕ) (f : Firing) → cell_of cells j ≡ Some f →
      IsNextReady r n ended started f × (j < width) × (until j ≤ now)
  pub apart : (j m : ℕ) (f g : Firing) → cell_of cells j ≡ Some f → cell_of cells m ≡ Some g → f.actor ≡ g.actor → j ≡ m
  pub homes_then : IsTrue homed → (rows : List Timed) →
      ((a j : ℕ) → IsSettled rows a j ↔ (IsSettled past a j
      ⊎ ((f : Firing) × (cell_of cells j ≡ Some f) × (f.actor ≡ a)))) →
      (a j : ℕ) → a < r.actors → (homes a ≡ Some j) ↔ IsSettled rows a j
  pub stuck : (started' whose' until' : ℕ → ℕ) → AreStarted cost now (length cells) cells started whose until started'
      whose' until' → IsStuck r n ended started' until' homes width now homed

-- the cells of the rule's row for a simulation that has the homes after it
abbrev pub IsRowFor : HuInputs → SimulationValue → List Timed → List (Option Firing) → Type 0
IsRowFor inputs state past cells =
    IsRowAt (rates state.counts.graph) (slice_index inputs.firings.now) (slice_index inputs.costs.now)
    (number inputs.levels.now) (length state.until) inputs.homed past state.time
    (slice_index state.counts.fired) (slice_index state.started) (slice_index state.whose) (slice_index state.until)
    (λ a. slice_index_or state.homes a None) cells
