-- A run that is fed in pieces.
use Rattle.std.specs.Prelude.{◌≡◌, ◌↔◌, ℕ, ◌+◌, ◌*◌, ◌<◌, List, [], length, slice_index_or}
use Rattle.std.specs.List.{flat_map}
use Rattle.sdf_sched.specs.Period.{Schedule}
use Rattle.sdf_actor.specs.declared.node.Node.TheVariants.{Sink}
use Rattle.sdf_actor.specs.declared.net_state.NetState.{NetState}
use Rattle.sdf_actor.specs.declared.sides.Lists.TheVariants.{Inputs, Outputs}
use Rattle.sdf_actor.specs.Histories.{taken_before}
use Rattle.sdf_actor.specs.Nets.{Netlist, node, wiring, arrived, IsNet, IsHistoryOf}
use Rattle.sdf_actor.specs.NetStates.{AreWhole, Leaves, IsNetState, IsResumedNet, AreJoined}
use Rattle.sdf_actor.specs.Sides.{list_count, period_samples}
use Rattle.sdf_actor.specs.Steps.{Steps}
use Rattle.sdf_queues.specs.RunResults.{HasInputs, periods_of, IsRunFault}
use Rattle.sdf_queues.specs.declared.fault.RunFault.{RunFault}
use Rattle.sdf_queues.specs.Periods.{HasPeriod}

-- the outputs of the history after k a firings of each node a, and what that history leaves
pub record HasRun {A S T : Type 0} (s : Steps A S T) (n : Netlist A T) (inputs : List (List T)) (k : ℕ → ℕ)
    (outputs : List (List T)) (rest : NetState T S) : Type 0 where
  pub history : ℕ → List T
  pub is : IsHistoryOf s n inputs k history
  pub count : length outputs ≡ list_count Outputs n.nodes
  pub each : (a e block : ℕ) → a < length n.nodes → node n a ≡ Sink e block →
      slice_index_or outputs e [] ≡ arrived s n k history a
  pub left : Leaves s n k history rest

-- each input list holds exactly the samples of the given number of periods of q
abbrev pub AreFull : {A T : Type 0} → Netlist A T → List ℕ → ℕ → List (List T) → Type 0
AreFull n q periods inputs = (e : ℕ) → e < length inputs →
    length (slice_index_or inputs e []) ≡ periods * period_samples n.nodes Inputs q

-- a run of net n on the lists `first`, and then on the lists `later` a run of the net that begins with what it left,
-- are one run of net n on the joined lists. Its outputs are theirs joined, and it leaves what the later run leaves
abbrev pub FeedsGoOn : {A B S T : Type 0} → Steps A S T → Steps B S T → Type 0
FeedsGoOn {A} {B} {S} {T} s r =
    (n : Netlist A T) (m : Netlist B T) (p : Schedule) (few more : ℕ) (first later all made on joined : List (List T))
    (rest last : NetState T S) →
    HasPeriod s n p → HasInputs n p.repetitions few first → AreFull n p.repetitions few first →
    HasRun s n first (periods_of p.repetitions few) made rest → IsResumedNet s r n rest m →
    HasRun r m later (periods_of p.repetitions more) on last →
    AreJoined first later all → AreJoined made on joined → length joined ≡ length made →
    HasRun s n all (periods_of p.repetitions (few + more)) joined last

-- if each node has fired a number of periods of q, the lists of what the sinks took and what is left are a run
abbrev pub SinksMakeRuns : {A S T : Type 0} → Steps A S T → Type 0
SinksMakeRuns {A} {S} {T} s =
    (n : Netlist A T) (inputs : List (List T)) (q : List ℕ) (periods : ℕ) (k : ℕ → ℕ) (V : ℕ → List T)
    (outputs : List (List T)) (rest : NetState T S) →
    IsNet s n → IsHistoryOf s n inputs k V → ((a : ℕ) → a < length n.nodes → k a ≡ periods_of q periods a) →
    length outputs ≡ list_count Outputs n.nodes →
    ((a ext block : ℕ) → a < length n.nodes → node n a ≡ Sink ext block →
    slice_index_or outputs ext [] ≡ flat_map (λ (b : List T). b) (taken_before (wiring s n) V a (k a))) →
    Leaves s n k V rest → HasRun s n inputs (periods_of q periods) outputs rest

-- if the inputs hold no sample, empty lists and what the net begins with are a run
abbrev pub NothingRuns : {A S T : Type 0} → Steps A S T → Type 0
NothingRuns {A} {S} {T} s =
    (n : Netlist A T) (q : List ℕ) (periods : ℕ) (inputs outputs : List (List T)) (rest : NetState T S) →
    IsNet s n → HasInputs n q periods inputs → 0 < length inputs → 0 < period_samples n.nodes Inputs q →
    length (slice_index_or inputs 0 []) ≡ 0 →
    length outputs ≡ list_count Outputs n.nodes → ((e : ℕ) → e < length outputs → slice_index_or outputs e [] ≡ []) →
    IsNetState s n inputs (λ _. 0) rest → HasRun s n inputs (periods_of q periods) outputs rest

-- a net that resumes from a state of net n needs the same inputs as n
abbrev pub ResumedNetsNeed : {A B S T : Type 0} → Steps A S T → Steps B S T → Type 0
ResumedNetsNeed {A} {B} {S} {T} s r =
    (n : Netlist A T) (rest : NetState T S) (m : Netlist B T) (q : List ℕ) (periods : ℕ) (inputs : List (List T)) →
    IsResumedNet s r n rest m →
    HasInputs m q periods inputs ↔ HasInputs n q periods inputs

-- a net that resumes from a state of net n makes the same number of outputs as n
abbrev pub ResumedNetsMake : {A B S T : Type 0} → Steps A S T → Steps B S T → Type 0
ResumedNetsMake {A} {B} {S} {T} s r =
    (n : Netlist A T) (rest : NetState T S) (m : Netlist B T) → IsResumedNet s r n rest m →
    list_count Outputs m.nodes ≡ list_count Outputs n.nodes

-- a run goes on by `more` periods on the lists `later`. Whatever run left `rest`, with nothing unread, `on` is what it
-- then makes beyond its outputs so far, and `last` is what it leaves
pub record GoesOnBy {A S T : Type 0} (s : Steps A S T) (n : Netlist A T) (q : List ℕ) (rest : NetState T S) (more : ℕ)
    (later on : List (List T)) (last : NetState T S) : Type 0 where
  pub given : HasInputs n q more later
  pub count : length on ≡ list_count Outputs n.nodes
  pub runs : (few : ℕ) (first all made joined : List (List T)) →
      HasInputs n q few first → AreFull n q few first → HasRun s n first (periods_of q few) made rest →
      AreJoined first later all → AreJoined made on joined → length joined ≡ length made →
      HasRun s n all (periods_of q (few + more)) joined last

-- the counts of any number of periods are whole, so a net may begin with what is left there
abbrev pub PeriodsMayLeave : {A S T : Type 0} → Steps A S T → Type 0
PeriodsMayLeave {A} {S} {T} s = (n : Netlist A T) (p : Schedule) (few : ℕ) → HasPeriod s n p →
    AreWhole s n (periods_of p.repetitions few)

-- a run of the net that resumes from a state goes on from there
abbrev pub ResumedRunsGoOn : {A B S T : Type 0} → Steps A S T → Steps B S T → Type 0
ResumedRunsGoOn {A} {B} {S} {T} s r =
    (n : Netlist A T) (m : Netlist B T) (p : Schedule) (more : ℕ) (later on : List (List T))
    (rest last : NetState T S) →
    HasPeriod s n p → IsResumedNet s r n rest m → HasInputs m p.repetitions more later →
    HasRun r m later (periods_of p.repetitions more) on last →
    GoesOnBy s n p.repetitions rest more later on last

-- a fault of a run of the net that resumes from a state of net n is a fault of a run of n
abbrev pub ResumedRunsFail : {A B S T : Type 0} → Steps A S T → Steps B S T → Type 0
ResumedRunsFail {A} {B} {S} {T} s r =
    (n : Netlist A T) (rest : NetState T S) (m : Netlist B T) (q : List ℕ) (periods : ℕ) (inputs : List (List T))
    (fault : RunFault) → IsResumedNet s r n rest m →
    IsRunFault m q periods inputs fault → IsRunFault n q periods inputs fault
