-- A row's jobs filled and settled.
use Rattle.std.specs.Prelude.{◌≡◌, ℕ, ◌+◌, ◌-◌, ◌≤◌, ◌<◌, List, ◌++◌, length, map, take, drop, slice_index}
use Rattle.std.specs.Prelude.{slice_index_or, Option, Some, None}
use Rattle.std.specs.List.{sum_by}
use Rattle.sdf_actor.specs.Steps.{Steps}
use Rattle.sdf_actor.specs.Histories.{spread}
use Rattle.sdf_actor.specs.Nets.{Netlist, node, wiring, cycle_of}
use Rattle.sdf_node.specs.Nodes.{phase_at, puts_of}
use Rattle.sdf_node.specs.declared.node.NodeState.{NodeState}
use Rattle.sdf_prec.specs.declared.firing.Firing.{Firing}
use Rattle.sdf_prec.specs.Tables.{firing, firings, cell_of}
use Rattle.sdf_rows.specs.declared.row_firing.RowFiring.{RowFiring}
use Rattle.sdf_queues.specs.QueueValue.{QueueValue}
use Rattle.sdf_queues.specs.Blocks.{samples, room, at_ports, ArePorts, HoldBlocks}
use Rattle.sdf_queues.specs.Sizes.{SizesValue, at_phase}

-- the actors of some jobs
abbrev pub actors_of : {A S T : Type 0} → List (RowFiring A T S) → List ℕ
actors_of jobs = map (λ j. j.actor) jobs

-- the actors of a row's firings
abbrev pub row_actors : List (Option Firing) → List ℕ
row_actors row = map (λ f. f.actor) (firings row)

-- the firing of a cell has a count, a state and a job
abbrev pub CanLoad : Option Firing → ℕ → ℕ → ℕ → ℕ → Type 0
CanLoad None done states jobs many = Unit {0}
CanLoad (Some f) done states jobs many = (f.actor < done) × (f.actor < states) × (many < jobs)

-- job k is job j filled for processor p with firing m of actor a, whose state is w
pub record IsFilled {A S T : Type 0} (p m a : ℕ) (w : NodeState T S) (j k : RowFiring A T S) : Type 0 where
  pub processor : k.processor ≡ p
  pub actor : k.actor ≡ a
  pub firing : k.firing ≡ m
  pub phase : k.phase ≡ phase_at w
  pub state : k.state ≡ w
  pub taken : k.taken ≡ j.taken
  pub put : k.put ≡ j.put

-- what a cell of column p fills; done has the number of firings of each actor
abbrev pub HasLoaded : {A S T : Type 0} → Option Firing → ℕ → List ℕ → List (NodeState T S) → List (NodeState T S) →
    List (RowFiring A T S) → List (RowFiring A T S) → ℕ → ℕ → Type 0
HasLoaded None p done states states' jobs jobs' many more = (more ≡ many) × (states' ≡ states) × (jobs' ≡ jobs)
HasLoaded {A} {S} {T} (Some f) p done states states' jobs jobs' many more =
    (more ≡ many + 1) × (length states' ≡ length states) × (length jobs' ≡ length jobs) ×
    ((w : NodeState T S) (j : RowFiring A T S) → IsFilled p (slice_index done f.actor) f.actor
    (slice_index_or states f.actor w) (slice_index_or jobs many j) (slice_index_or jobs' many j)) ×
    ((a : ℕ) (w : NodeState T S) → (f.actor ≡ a → ⊥) → slice_index_or states' a w ≡ slice_index_or states a w) ×
    ((i : ℕ) (j : RowFiring A T S) → (many ≡ i → ⊥) → slice_index_or jobs' i j ≡ slice_index_or jobs i j)

-- a job is filled for each firing of fs, for its column in the row, if their actors are all different; done has the
-- number of firings of each actor. Every other state and job is unchanged
pub record AreLoaded {A S T : Type 0} (row : List (Option Firing)) (done : List ℕ) (fs : List Firing)
    (states states' : List (NodeState T S)) (jobs jobs' : List (RowFiring A T S)) : Type 0 where
  pub states_all : length states' ≡ length states
  pub jobs_all : length jobs' ≡ length jobs
  pub each : ((i m : ℕ) → i < length fs → m < length fs → (firing fs i).actor ≡ (firing fs m).actor → i ≡ m) →
      (i : ℕ) (w : NodeState T S) (j : RowFiring A T S) → i < length fs →
      (p : ℕ) × (cell_of row p ≡ Some (firing fs i))
      × IsFilled p (slice_index done (firing fs i).actor) (firing fs i).actor
      (slice_index_or states (firing fs i).actor w) (slice_index_or jobs i j) (slice_index_or jobs' i j)
  pub idle : (a : ℕ) (w : NodeState T S) → ((i : ℕ) → i < length fs → (firing fs i).actor ≡ a → ⊥) →
      slice_index_or states' a w ≡ slice_index_or states a w
  pub rest : (i : ℕ) (j : RowFiring A T S) → length fs ≤ i → slice_index_or jobs' i j ≡ slice_index_or jobs i j

-- the input of a job's firing is on its channels, there is room for its output once the input is gone, and the length
-- of its output is what its ports put
pub record CanSettle {A S T : Type 0} (s : Steps A S T) (n : Netlist A T) (z : SizesValue) (j : RowFiring A T S)
    (ls : List (QueueValue T)) : Type 0 where
  pub known : j.actor < length n.nodes
  pub in_cycle : j.phase < cycle_of s (node n j.actor)
  pub takes_known : j.phase < length z.takes
  pub puts_known : j.phase < length z.puts
  pub ins_are : ArePorts ((wiring s n).ins j.actor) (at_phase z.takes j.phase) (length ls)
  pub outs_are : ArePorts ((wiring s n).outs j.actor) (at_phase z.puts j.phase) (length ls)
  pub held : HoldBlocks ((wiring s n).ins j.actor) (at_phase z.takes j.phase) ls
  pub fits : (i : ℕ) → i < length ((wiring s n).outs j.actor) →
      let c = slice_index ((wiring s n).outs j.actor) i in
      length (samples ls c) - at_ports ((wiring s n).ins j.actor) (slice_index (at_phase z.takes j.phase) c) c
      + slice_index (at_phase z.puts j.phase) c ≤ room ls c
  pub long : puts_of s (node n j.actor) j.phase ≤ length j.put.items
  pub whole : puts_of s (node n j.actor) j.phase ≡
      sum_by (slice_index (at_phase z.puts j.phase)) ((wiring s n).outs j.actor)

-- the channels after a job was settled
pub record HasSettled {A S T : Type 0} (s : Steps A S T) (n : Netlist A T) (z : SizesValue) (j : RowFiring A T S)
    (ls ls' : List (QueueValue T)) : Type 0 where
  pub all : length ls' ≡ length ls
  pub left : (c : ℕ) → c < length ls →
      samples ls' c ≡ drop (at_ports ((wiring s n).ins j.actor) (slice_index (at_phase z.takes j.phase) c) c)
      (samples ls c) ++
      spread (slice_index (at_phase z.puts j.phase)) ((wiring s n).outs j.actor)
      (take (puts_of s (node n j.actor) j.phase) j.put.items) c
  pub rooms : (c : ℕ) → c < length ls → room ls' c ≡ room ls c
