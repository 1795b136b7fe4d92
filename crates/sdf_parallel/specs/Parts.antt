-- The parts of a run that is split in time.
use Rattle.std.specs.Prelude.{◌≡◌, ℕ, ◌+◌, ◌-◌, ◌*◌, ◌^◌, ◌≤◌, ◌<◌, List, [], ◌∷◌, ◌++◌, length}
use Rattle.std.specs.Prelude.{slice_index, slice_index_or, Result, MatchResult}
use Rattle.std.specs.List.{All}
use Rattle.sdf_graph.specs.Rates.{rates}
use Rattle.sdf_sched.specs.Period.{IsPeriodOf}
use Rattle.sdf_actor.specs.declared.net_state.NetState.{NetState}
use Rattle.sdf_actor.specs.declared.sides.Lists.TheVariants.{Inputs, Outputs}
use Rattle.sdf_actor.specs.Graphs.{graph_of}
use Rattle.sdf_actor.specs.Nets.{Netlist}
use Rattle.sdf_actor.specs.Sides.{list_count, period_samples}
use Rattle.sdf_actor.specs.Steps.{Steps}
use Rattle.sdf_queues.specs.RunResults.{HasInputs, periods_of}
use Rattle.sdf_queues.specs.Feeds.{HasRun, AreFull, GoesOnBy}
use Rattle.sdf_queues.specs.declared.fault.RunFault.{RunFault}
use Rattle.sdf_queues.specs.declared.fault.RunFault.TheVariants.{OutOfMemory}
use Rattle.sdf_warm_up.specs.WarmUps.{WarmsIn}
use Rattle.sdf_parallel.specs.Cuts.{cut, join}
use Rattle.sdf_parallel.specs.declared.part.PartResult.{PartResult}
use Rattle.sdf_parallel.specs.declared.part.Split.{Split}
use Rattle.sdf_parallel.specs.declared.part_workers.FinishedPart.{FinishedPart}
use Rattle.sdf_parallel.specs.declared.part_workers.Worker.{Worker}

-- a schedule of the net, inputs that hold exactly the periods of the run, a warm-up, and parts that are no shorter than
-- it unless they are the last
pub record IsSplit {A S T : Type 0} (s : Steps A S T) (inputs : List (List T)) (w : Split A T S) : Type 0 where
  pub period : IsPeriodOf (rates (graph_of s w.net.now)) w.period.now
  pub given : HasInputs w.net.now w.period.now.repetitions w.periods inputs
  pub full : AreFull w.net.now w.period.now.repetitions w.periods inputs
  pub warm_up : WarmsIn s w.net.now w.period.now.repetitions w.warm
  pub short : w.periods < 2 ^ 32
  pub some : 0 < w.least
  pub long : w.warm ≤ w.least
  pub stretch : 0 < w.stretch

-- the samples of the periods from one number to another, of each list
abbrev pub read_by : {A T : Type 0} → Netlist A T → List ℕ → List (List T) → ℕ → ℕ → List (List T)
read_by n q inputs from to = cut (from * period_samples n.nodes Inputs q) (to * period_samples n.nodes Inputs q) inputs

-- the state that the `warm` periods before period `from`, run alone, leave
abbrev pub IsWarmedUp : {A S T : Type 0} → Steps A S T → Netlist A T → List ℕ → List (List T) → ℕ → ℕ → NetState T S →
    Type 0
IsWarmedUp {A} {S} {T} s n q inputs warm from back =
    (made : List (List T)) × HasRun s n (read_by n q inputs (from - warm) from) (periods_of q warm) made back

-- a run of the periods from `from` to `to` goes on from `begin`, and its outputs become `made`
pub record IsStretch {A S T M : Type 0} (s : Steps A S T) (n : Netlist A T) (q : List ℕ) (inputs : List (List T))
    (makes : ℕ → List (List T) → M → Type 0) (begin : NetState T S) (from to : ℕ) (made : M) (last : NetState T S) :
    Type 0 where
  pub outputs : List (List T)
  pub goes : GoesOnBy s n q begin (to - from) (read_by n q inputs from to) outputs last
  pub becomes : makes (to - from) outputs made

-- The stretches of a part, in order: each one goes on from what the one before it leaves.
pub data AreStretches {A S T M : Type 0} (s : Steps A S T) (n : Netlist A T) (q : List ℕ) (inputs : List (List T))
    (makes : ℕ → List (List T) → M → Type 0) (begin : NetState T S) (from : ℕ) : ℕ → List M → NetState T S →
    Type 0 where
  first : (to : ℕ) (m : M) (last : NetState T S) → from ≤ to → IsStretch s n q inputs makes begin from to m last →
      AreStretches s n q inputs makes begin from to (m ∷ []) last
  next : (at to : ℕ) (made : List M) (m : M) (mid last : NetState T S) →
      AreStretches s n q inputs makes begin from at made mid → at ≤ to →
      IsStretch s n q inputs makes mid at to m last →
      AreStretches s n q inputs makes begin from to (made ++ m ∷ []) last

-- a part: the first one goes on from the net state `rest`, and each other one from what its warm-up leaves
pub record IsPart {A S T M : Type 0} (s : Steps A S T) (n : Netlist A T) (q : List ℕ) (inputs : List (List T))
    (makes : ℕ → List (List T) → M → Type 0) (rest : NetState T S) (warm from to : ℕ) (made : List M)
    (last : NetState T S) :
    Type 0 where
  pub begin : NetState T S
  pub first : from ≡ 0 → begin ≡ rest
  pub late : 0 < from → IsWarmedUp s n q inputs warm from begin
  pub stretches : AreStretches s n q inputs makes begin from to made last

-- the result of the part between two periods, or the fault
abbrev pub IsPartResult : {A S T M : Type 0} → Steps A S T → List (List T) → (ℕ → List (List T) → M → Type 0) →
    Split A T S → NetState T S → ℕ → ℕ → Result (PartResult M T S) RunFault → Type 0
IsPartResult s inputs makes w rest from to r =
    MatchResult r
    (λ m. IsPart s w.net.now w.period.now.repetitions inputs makes rest w.warm from to m.made.items m.rest)
    (λ fault. fault ≡ OutOfMemory)

-- the result of the part between bounds i and i + 1
abbrev pub IsResult : {A S T M : Type 0} → Steps A S T → List (List T) → (ℕ → List (List T) → M → Type 0) →
    Split A T S → List ℕ → NetState T S → ℕ → Result (PartResult M T S) RunFault → Type 0
IsResult s inputs makes w bounds rest i r =
    IsPartResult s inputs makes w rest (slice_index bounds i) (slice_index bounds (i + 1)) r

-- the results of the first parts, or their faults
abbrev pub AreResults : {A S T M : Type 0} → Steps A S T → List (List T) → (ℕ → List (List T) → M → Type 0) →
    Split A T S → List ℕ → NetState T S → List (Result (PartResult M T S) RunFault) → Type 0
AreResults {A} {S} {T} {M} s inputs makes w bounds rest places =
    (i : ℕ) (d : Result (PartResult M T S) RunFault) → i < length places →
    IsResult s inputs makes w bounds rest i (slice_index_or places i d)

-- a part of the run, with its result
abbrev pub IsFinishedPart : {A S T M : Type 0} → Steps A S T → List (List T) → (ℕ → List (List T) → M → Type 0) →
    Split A T S → List ℕ → NetState T S → FinishedPart M T S → Type 0
IsFinishedPart s inputs makes w bounds rest d =
    (d.number + 1 < length bounds) × IsResult s inputs makes w bounds rest d.number d.made

-- the parts that a worker ran, with their results
abbrev pub AreFinished : {A S T M : Type 0} → Steps A S T → List (List T) → (ℕ → List (List T) → M → Type 0) →
    Split A T S → List ℕ → NetState T S → List (FinishedPart M T S) → Type 0
AreFinished s inputs makes w bounds rest done = All (IsFinishedPart s inputs makes w bounds rest) done

-- the parts that all workers ran, with their results
abbrev pub AllAreFinished : {A S T M : Type 0} → Steps A S T → List (List T) → (ℕ → List (List T) → M → Type 0) →
    Split A T S → List ℕ → NetState T S → List (Worker M T S) → Type 0
AllAreFinished {A} {S} {T} {M} s inputs makes w bounds rest workers =
    (i : ℕ) (d : Worker M T S) → i < length workers →
    AreFinished s inputs makes w bounds rest (slice_index_or workers i d).done.items

-- What the outputs of stretches became, in order. A run goes on from `rest` by the periods up to the end of each
-- stretch. Its outputs are the outputs of the stretches before, joined with the stretch's own.
pub data HasParts {A S T M : Type 0} (s : Steps A S T) (n : Netlist A T) (q : List ℕ) (inputs : List (List T))
    (makes : ℕ → List (List T) → M → Type 0) (rest : NetState T S) : ℕ → List (List T) → List M → Type 0 where
  none : (blank : List (List T)) → length blank ≡ list_count Outputs n.nodes →
      ((e : ℕ) → slice_index_or blank e [] ≡ []) → HasParts s n q inputs makes rest 0 blank []
  more : (from to : ℕ) (before own : List (List T)) (made : List M) (m : M) (last : NetState T S) →
      HasParts s n q inputs makes rest from before made → from ≤ to → length own ≡ list_count Outputs n.nodes →
      makes (to - from) own m → GoesOnBy s n q rest to (read_by n q inputs 0 to) (join before own) last →
      HasParts s n q inputs makes rest to (join before own) (made ++ m ∷ [])

-- a run goes on from a net state by some periods, in stretches whose outputs became these
pub record GoesOnInParts {A S T M : Type 0} (s : Steps A S T) (n : Netlist A T) (q : List ℕ) (inputs : List (List T))
    (makes : ℕ → List (List T) → M → Type 0) (rest : NetState T S) (periods : ℕ) (made : List M) (last : NetState T S) :
    Type 0 where
  pub outputs : List (List T)
  pub goes : GoesOnBy s n q rest periods inputs outputs last
  pub parts : HasParts s n q inputs makes rest periods outputs made
