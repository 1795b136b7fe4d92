-- What a run over rings is given, and what it returns.
use Rattle.std.specs.Prelude.{ℕ, ◌≡◌, ◌*◌, ◌≤◌, ◌<◌, List, slice_index, sum}
use Rattle.sdf_limits.specs.declared.TheConstants.{MAX_PATIENCE}
use Rattle.sdf_graph.specs.Sequences.{repeated}
use Rattle.sdf_prec.specs.Tables.{TableValue, IsHomed}
use Rattle.sdf_actor.specs.declared.net_state.NetState.{NetState}
use Rattle.sdf_actor.specs.Laws.{AreCountsOf}
use Rattle.sdf_actor.specs.Steps.{Steps}
use Rattle.sdf_actor.specs.Nets.{Netlist}
use Rattle.sdf_queues.specs.Feeds.{GoesOnBy}
use Rattle.sdf_rings.specs.Asks.{IsPlanned}
use Rattle.sdf_rings.specs.Rests.{RingsValue, HaveMet}
use Rattle.sdf_rings.specs.Totals.{total_left}
use Rattle.sdf_queues.specs.RunResults.{HasInputs, AreOutputs, periods_of}
use Rattle.sdf_queues.specs.declared.fault.RunFault.{RunFault}
use Rattle.sdf_queues.specs.declared.fault.RunFault.TheVariants.{OutOfMemory, InputLength, NotHomed, Patience, NoWorker}
use Rattle.sdf_queues.specs.declared.fault.RunFault.TheVariants.{SessionFailed}

-- what a run returns if no test fails: the outputs and the number of rounds. Each round does some firing
pub record HasRunInRounds {A S T : Type 0} (s : Steps A S T) (n : Netlist A T) (q : List ℕ) (j : ℕ)
    (t : TableValue) (blocks : ℕ)
    (inputs : List (List T)) (patience : ℕ) (outputs : List (List T)) (rounds : ℕ) : Type 0 where
  pub homed : IsHomed t
  pub patient : patience ≤ MAX_PATIENCE
  pub has : HasInputs n q (blocks * j) inputs
  pub outputs_are : AreOutputs s n inputs (periods_of q (blocks * j)) outputs
  pub rounds_few : rounds ≤ blocks * (j * sum q)
  pub rounds_some : 0 < blocks → 0 < rounds

-- what a resumed run returns if no test fails. Its rounds have the bounds of any run
pub record HasResumed {A S T : Type 0} (s : Steps A S T) (n : Netlist A T) (q : List ℕ) (j : ℕ) (t : TableValue)
    (rest : NetState T S) (blocks : ℕ) (inputs : List (List T)) (patience : ℕ) (outputs : List (List T)) (rounds : ℕ)
    (last : NetState T S) : Type 0 where
  pub homed : IsHomed t
  pub patient : patience ≤ MAX_PATIENCE
  pub goes_on : GoesOnBy s n q rest (blocks * j) inputs outputs last
  pub rounds_few : rounds ≤ blocks * (j * sum q)
  pub rounds_some : 0 < blocks → 0 < rounds

-- after the rounds of a run, if no test fails: nothing is left of the blocks of the table, and all ends are
-- synchronized
pub record HasEnded {A S T : Type 0} (s : Steps A S T) (n : Netlist A T) (q : List ℕ) (j : ℕ) (t : TableValue)
    (blocks : ℕ) (inputs : List (List T)) (patience : ℕ) (r : RingsValue A S T) (rounds : ℕ) : Type 0 where
  pub homed : IsHomed t
  pub patient : patience ≤ MAX_PATIENCE
  pub has : HasInputs n q (blocks * j) inputs
  pub net_is : r.net ≡ n
  pub inputs_are : r.inputs ≡ inputs
  pub met : HaveMet r.net r.seats r.places
  pub none_left : total_left r.seats ≡ 0
  pub planned : IsPlanned s r.net r.seats r.places (repeated blocks t.order) (slice_index t.caps)
  pub counts : AreCountsOf r.net (repeated blocks t.order) (periods_of q (blocks * j))
  pub rounds_few : rounds ≤ blocks * (j * sum q)
  pub rounds_some : 0 < blocks → 0 < rounds

-- the fault of the first test that fails, for a table, a spin limit and inputs
abbrev pub IsRingsFault : {A T : Type 0} → Netlist A T → List ℕ → ℕ → List (List T) → TableValue → ℕ → RunFault → Type 0
IsRingsFault n q periods inputs t patience OutOfMemory = Unit {0}
IsRingsFault n q periods inputs t patience NotHomed = IsHomed t → ⊥
IsRingsFault n q periods inputs t patience Patience = IsHomed t × (MAX_PATIENCE < patience)
IsRingsFault n q periods inputs t patience InputLength =
    IsHomed t × (patience ≤ MAX_PATIENCE) × (HasInputs n q periods inputs → ⊥)
IsRingsFault n q periods inputs t patience NoWorker = ⊥
IsRingsFault n q periods inputs t patience SessionFailed = ⊥
