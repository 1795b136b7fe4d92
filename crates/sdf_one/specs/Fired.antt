-- A run that has fired all its periods, and what it leaves.
use Rattle.std.specs.Prelude.{◌≡◌, ℕ, ◌*◌, ◌<◌, List, length, slice_index, Option, Some, None}
use Rattle.std.specs.declared.vec.Vec.{Vec}
use Rattle.sdf_graph.specs.Rates.{rates}
use Rattle.sdf_sched.specs.Period.{IsPeriodOf}
use Rattle.sdf_actor.specs.declared.sides.Lists.TheVariants.{Outputs}
use Rattle.sdf_actor.specs.Graphs.{graph_of}
use Rattle.sdf_actor.specs.NetFaults.{WasAccepted}
use Rattle.sdf_actor.specs.Nets.{Netlist, IsNet}
use Rattle.sdf_actor.specs.Sides.{list_count, period_samples}
use Rattle.sdf_actor.specs.Steps.{Steps}
use Rattle.sdf_actor.specs.Wires.{lists}
use Rattle.sdf_queues.specs.RunResults.{HasInputs, periods_of}
use Rattle.sdf_queues.specs.Lists.{AreEmpty}
use Rattle.sdf_one.specs.declared.run_inputs.RunInputs.{RunInputs}
use Rattle.sdf_one.specs.declared.run.Run.{Run}
use Rattle.sdf_one.specs.declared.work.Work.{Work}
use Rattle.sdf_one.specs.declared.work.Work.TheVariants.{Source, Sink, Inner}
use Rattle.sdf_one.specs.Runs.{IsState}

-- a net that was accepted, a schedule of its period, and inputs that hold all periods of the run
pub record AreRunInputs {A S T : Type 0} (s : Steps A S T) (p : RunInputs A T S) : Type 0 where
  pub accepted : WasAccepted s p.net.now
  pub period : IsPeriodOf (rates (graph_of s p.net.now)) p.period.now
  pub inputs : HasInputs p.net.now p.period.now.repetitions p.periods (lists p.inputs.now)

-- empty output lists, with room for what the run makes
abbrev pub HaveOutputRoom : {A S T Z : Type 0} → RunInputs A T S → List (Vec T Z) → Type 0
HaveOutputRoom p outputs = AreEmpty outputs (list_count Outputs p.net.now.nodes)
    (p.periods * period_samples p.net.now.nodes Outputs p.period.now.repetitions)

-- each node has done the firings of `periods` periods of q on these inputs, and the run is in the state after them
pub record HasFiredPeriods {A S T : Type 0} (s : Steps A S T) (n : Netlist A T) (inputs : List (List T)) (q : List ℕ)
    (periods : ℕ) (r : Run A T S) : Type 0 where
  pub good : IsNet s n
  pub outputs : length r.outputs.items ≡ list_count Outputs n.nodes
  pub done : (a : ℕ) → a < length n.nodes → slice_index r.done.items a ≡ periods_of q periods a
  pub stands : IsState s n inputs (periods_of q periods) (slice_index r.done.items) r.works.items r.queues.items
      r.outputs.items

-- the state of an actor, or None for a source or a sink
abbrev pub state_in : {A S T : Type 0} → Work A T S → Option S
state_in (Source ext next size) = None
state_in (Sink ext) = None
state_in (Inner actor phase state taken put) = Some state
