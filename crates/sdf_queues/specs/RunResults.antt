-- The inputs and outputs of a net's run.
use Rattle.std.specs.Prelude.{◌≡◌, ℕ, ◌*◌, ◌≤◌, ◌<◌, List, [], length, slice_index, slice_index_or}
use Rattle.sdf_actor.specs.declared.node.Node.TheVariants.{Sink}
use Rattle.sdf_actor.specs.declared.sides.Lists.TheVariants.{Inputs, Outputs}
use Rattle.sdf_actor.specs.Steps.{Steps}
use Rattle.sdf_actor.specs.Nets.{Netlist, node, arrived, IsHistoryOf}
use Rattle.sdf_actor.specs.Sides.{list_count, period_samples}
use Rattle.sdf_queues.specs.declared.fault.RunFault.{RunFault}
use Rattle.sdf_queues.specs.declared.fault.RunFault.TheVariants.{OutOfMemory, InputLength, NotHomed, Patience, NoWorker}
use Rattle.sdf_queues.specs.declared.fault.RunFault.TheVariants.{SessionFailed}

-- there are `many` lists, all of one length and none shorter than `least`
pub record AreInputs {T : Type 0} (many least : ℕ) (inputs : List (List T)) : Type 0 where
  pub count : length inputs ≡ many
  pub even : (e : ℕ) → e < length inputs → length (slice_index_or inputs e []) ≡ length (slice_index_or inputs 0 [])
  pub enough : (e : ℕ) → e < length inputs → least ≤ length (slice_index_or inputs e [])

-- the inputs are the lists that the net reads, all of one length, and each has at least the samples of `periods`
-- periods of q
abbrev pub HasInputs : {A T : Type 0} → Netlist A T → List ℕ → ℕ → List (List T) → Type 0
HasInputs n q periods inputs = AreInputs (list_count Inputs n.nodes) (periods * period_samples n.nodes Inputs q) inputs

-- the output lists of the history after k a firings of each node a: for each sink what has arrived there
pub record AreOutputs {A S T : Type 0} (s : Steps A S T) (n : Netlist A T) (inputs : List (List T)) (k : ℕ → ℕ)
    (outputs : List (List T)) : Type 0 where
  pub history : ℕ → List T
  pub is : IsHistoryOf s n inputs k history
  pub count : length outputs ≡ list_count Outputs n.nodes
  pub each : (a e block : ℕ) → a < length n.nodes → node n a ≡ Sink e block →
      slice_index_or outputs e [] ≡ arrived s n k history a

-- how often node a has fired after a number of periods of q
abbrev pub periods_of : List ℕ → ℕ → ℕ → ℕ
periods_of q periods a = periods * slice_index q a

-- the fault is true of the net and its inputs; on one thread and by rows, homes, spin limits, workers and sessions give
-- no fault
abbrev pub IsRunFault : {A T : Type 0} → Netlist A T → List ℕ → ℕ → List (List T) → RunFault → Type 0
IsRunFault n q periods inputs OutOfMemory = Unit {0}
IsRunFault n q periods inputs InputLength = HasInputs n q periods inputs → ⊥
IsRunFault n q periods inputs NotHomed = ⊥
IsRunFault n q periods inputs Patience = ⊥
IsRunFault n q periods inputs NoWorker = ⊥
IsRunFault n q periods inputs SessionFailed = ⊥
