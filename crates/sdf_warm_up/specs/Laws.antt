-- The laws of nets that forget.
use Rattle.std.specs.Prelude.{◌≡◌, ℕ, ◌+◌, List, length}
use Rattle.sdf_graph.specs.Sequences.{IsAdmissible}
use Rattle.sdf_sched.specs.Period.{Schedule}
use Rattle.sdf_actor.specs.declared.net_state.NetState.{NetState}
use Rattle.sdf_actor.specs.Laws.{AreCountsOf}
use Rattle.sdf_actor.specs.Nets.{Netlist, wiring, IsNet, IsHistoryOf}
use Rattle.sdf_actor.specs.NetStates.{AreWhole, Leaves, IsNetState, AllRead, AreJoined}
use Rattle.sdf_actor.specs.Steps.{Steps}
use Rattle.sdf_queues.specs.RunResults.{HasInputs, periods_of}
use Rattle.sdf_queues.specs.Feeds.{HasRun, AreFull, GoesOnBy}
use Rattle.sdf_queues.specs.Periods.{HasPeriod}
use Rattle.sdf_warm_up.specs.Warm.{IsWarm}
use Rattle.sdf_warm_up.specs.WarmUps.{WarmsIn}

-- V is the history of net n after each node a has fired k a times, in whole periods, and then m a times. U is the
-- history of the same net after each node has fired only these m a times, on their input alone. They are enough for it
-- to be warm.
pub record StartsLate {A S T : Type 0} (s : Steps A S T) (n : Netlist A T) (first later all : List (List T))
    (k m memory since : ℕ → ℕ) (w : List ℕ) (V U : ℕ → List T) : Type 0 where
  pub net : IsNet s n
  pub whole : AreWhole s n k
  pub warm : IsWarm s n m memory since
  pub order : IsAdmissible (wiring s n).rates w
  pub counts : AreCountsOf n w m
  pub read : AllRead n first k
  pub joined : AreJoined first later all
  pub long : IsHistoryOf s n all (λ a. k a + m a) V
  pub short : IsHistoryOf s n later m U

-- both histories leave the same state
abbrev pub StatesAgree : {A S T : Type 0} → Steps A S T → Type 0
StatesAgree {A} {S} {T} s =
    (n : Netlist A T) (first later all : List (List T)) (k m memory since : ℕ → ℕ) (w : List ℕ) (V U : ℕ → List T)
    (rest : NetState T S) → StartsLate s n first later all k m memory since w V U →
    Leaves s n m U rest → Leaves s n (λ a. k a + m a) V rest

-- a run of net n on the last periods of the input of a longer run, enough of them for the net to be warm; the longer
-- run made `outputs`
pub record RunsLate {A S T : Type 0} (s : Steps A S T) (n : Netlist A T) (p : Schedule) (few warm : ℕ)
    (first later all outputs : List (List T)) (rest : NetState T S) : Type 0 where
  pub period : HasPeriod s n p
  pub memory : ℕ → ℕ
  pub since : ℕ → ℕ
  pub warm_up : IsWarm s n (periods_of p.repetitions warm) memory since
  pub given : HasInputs n p.repetitions few first
  pub full : AreFull n p.repetitions few first
  pub joined : AreJoined first later all
  -- the outputs of the short run are dropped
  pub made : List (List T)
  pub short : HasRun s n later (periods_of p.repetitions warm) made rest
  pub other : NetState T S
  pub long : HasRun s n all (periods_of p.repetitions (few + warm)) outputs other

-- the short run leaves what the long run leaves
abbrev pub WarmRunsLeave : {A S T : Type 0} → Steps A S T → Type 0
WarmRunsLeave {A} {S} {T} s =
    (n : Netlist A T) (p : Schedule) (few warm : ℕ) (first later all outputs : List (List T)) (rest : NetState T S) →
    RunsLate s n p few warm first later all outputs rest →
    HasRun s n all (periods_of p.repetitions (few + warm)) outputs rest

-- a run that goes on from what the short run leaves is the next part of the long run
abbrev pub WarmRunsGoOn : {A S T : Type 0} → Steps A S T → Type 0
WarmRunsGoOn {A} {S} {T} s =
    (n : Netlist A T) (p : Schedule) (few warm more : ℕ)
    (first before front later all outputs on joined : List (List T))
    (rest last : NetState T S) →
    RunsLate s n p few warm first before front outputs rest →
    HasInputs n p.repetitions (few + warm) front → AreFull n p.repetitions (few + warm) front →
    GoesOnBy s n p.repetitions rest more later on last →
    AreJoined front later all → AreJoined outputs on joined → length joined ≡ length outputs →
    HasRun s n all (periods_of p.repetitions (few + warm + more)) joined last

-- A run goes on from a net state by some periods, and makes the lists `on`. A second run starts late, on the last
-- `warm` of these periods alone, and goes on from there with the lists after them
pub record ArePartsOf {A S T : Type 0} (s : Steps A S T) (n : Netlist A T) (p : Schedule) (spare warm more : ℕ)
    (before tail front after on next : List (List T)) (rest last end : NetState T S) : Type 0 where
  pub period : HasPeriod s n p
  pub warm_up : WarmsIn s n p.repetitions warm
  pub given : HasInputs n p.repetitions spare before
  pub full : AreFull n p.repetitions spare before
  pub joined : AreJoined before tail front
  pub fed : AreFull n p.repetitions (spare + warm) front
  pub goes : GoesOnBy s n p.repetitions rest (spare + warm) front on last
  pub made : List (List T)
  pub back : NetState T S
  pub short : HasRun s n tail (periods_of p.repetitions warm) made back
  pub late : GoesOnBy s n p.repetitions back more after next end

-- the lists of both, joined, are the outputs of one run that goes on from that state by all these periods
abbrev pub PartsGoOn : {A S T : Type 0} → Steps A S T → Type 0
PartsGoOn {A} {S} {T} s =
    (n : Netlist A T) (p : Schedule) (spare warm more : ℕ) (before tail front after all on next joined : List (List T))
    (rest last end : NetState T S) →
    ArePartsOf s n p spare warm more before tail front after on next rest last end →
    AreJoined front after all → length all ≡ length front → AreJoined on next joined → length joined ≡ length on →
    GoesOnBy s n p.repetitions rest (spare + warm + more) all joined end

-- A run of whole periods that read all of its input left this net state.
pub record WasLeft {A S T : Type 0} (s : Steps A S T) (n : Netlist A T) (q : List ℕ)
    (rest : NetState T S) : Type 0 where
  pub periods : ℕ
  pub inputs : List (List T)
  pub outputs : List (List T)
  pub given : HasInputs n q periods inputs
  pub full : AreFull n q periods inputs
  pub run : HasRun s n inputs (periods_of q periods) outputs rest

-- what any history leaves after whole periods is also left by a run that read all of its input, since unread input
-- makes no sample
abbrev pub StatesWereLeft : {A S T : Type 0} → Steps A S T → Type 0
StatesWereLeft {A} {S} {T} s =
    (n : Netlist A T) (p : Schedule) (periods : ℕ) (inputs : List (List T)) (rest : NetState T S) →
    HasPeriod s n p → IsNetState s n inputs (periods_of p.repetitions periods) rest → WasLeft s n p.repetitions rest

-- a run that goes on from a net state of WasLeft, by all periods of its input, leaves a net state of WasLeft again
abbrev pub RunsLeaveStates : {A S T : Type 0} → Steps A S T → Type 0
RunsLeaveStates {A} {S} {T} s =
    (n : Netlist A T) (q : List ℕ) (more : ℕ) (later on : List (List T)) (rest last : NetState T S) →
    WasLeft s n q rest → GoesOnBy s n q rest more later on last → AreFull n q more later → WasLeft s n q last

-- a run goes on from a net state, and another one from what it leaves: the lists of both, joined, are the outputs of
-- one run that goes on by the periods of both
abbrev pub RunsGoOnTwice : {A S T : Type 0} → Steps A S T → Type 0
RunsGoOnTwice {A} {S} {T} s =
    (n : Netlist A T) (q : List ℕ) (few more : ℕ) (front after all on next joined : List (List T))
    (rest mid last : NetState T S) →
    GoesOnBy s n q rest few front on mid → AreFull n q few front → GoesOnBy s n q mid more after next last →
    AreJoined front after all → length all ≡ length front → AreJoined on next joined → length joined ≡ length on →
    GoesOnBy s n q rest (few + more) all joined last
