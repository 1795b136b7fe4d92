-- Runs that are fed in pieces, whole blocks at a time.
use Rattle.std.specs.Prelude.{◌≡◌, ℕ, ◌+◌, ◌*◌, ◌-◌, ◌^◌, ◌≤◌, ◌<◌, min, List, [], ◌∷◌, ◌++◌, length, sum, Option, Some}
use Rattle.std.specs.Prelude.{None, slice_index_or}
use Rattle.std.specs.List.{flat_map, sum_by}
use Rattle.sdf_limits.specs.declared.TheConstants.{MAX_PATIENCE}
use Rattle.sdf_graph.specs.Rates.{rates}
use Rattle.sdf_sched.specs.Period.{Schedule, IsPeriodOf}
use Rattle.sdf_prec.specs.Tables.{TableValue, IsHomed}
use Rattle.sdf_actor.specs.Graphs.{graph_of}
use Rattle.sdf_actor.specs.Nets.{Netlist}
use Rattle.sdf_actor.specs.NetStates.{AreJoined}
use Rattle.sdf_actor.specs.Sides.{list_count, period_samples}
use Rattle.sdf_actor.specs.Steps.{Steps}
use Rattle.sdf_actor.specs.declared.net_state.NetState.{NetState}
use Rattle.sdf_actor.specs.declared.sides.Lists.TheVariants.{Inputs, Outputs}
use Rattle.sdf_queues.specs.RunResults.{HasInputs, periods_of}
use Rattle.sdf_queues.specs.Feeds.{HasRun, AreFull}
use Rattle.sdf_prec.specs.BlockTables.{IsTableOf}
use Rattle.sdf_queues.specs.declared.fault.RunFault.{RunFault}
use Rattle.sdf_queues.specs.declared.fault.RunFault.TheVariants.{OutOfMemory, InputLength, NotHomed, Patience, NoWorker}
use Rattle.sdf_queues.specs.declared.fault.RunFault.TheVariants.{SessionFailed}
use Rattle.sdf_run.specs.declared.mode.Mode.{Mode}
use Rattle.sdf_run.specs.declared.mode.Mode.TheVariants.{Rows, Rings}

-- there are `many` lists, and each has the samples of this number of blocks, `samples` for a block
pub record AreBlocks {T : Type 0} (many samples blocks : ℕ) (inputs : List (List T)) : Type 0 where
  pub few : blocks ≤ 4294967295
  pub count : length inputs ≡ many
  pub each : (e : ℕ) → e < length inputs → length (slice_index_or inputs e []) ≡ blocks * samples

-- a net, a schedule of its period, and a table for blocks of `blocking` periods; the net state that the feeds left,
-- unless the session is spent, and the counts
pub record SessionValue (A S T : Type 0) : Type 0 where
  pub net : Netlist A T
  pub period : Schedule
  pub blocking : ℕ
  pub table : TableValue
  pub mode : Mode
  pub rest : Option (NetState T S)
  pub blocks : ℕ
  pub rounds : ℕ

-- a table can be run in a mode
abbrev pub MayRun : TableValue → Mode → Type 0
MayRun t Rows = Unit {0}
MayRun t (Rings patience) = IsHomed t × (patience ≤ MAX_PATIENCE)

-- the first test of MayRun that fails
abbrev pub IsModeFault : TableValue → Mode → RunFault → Type 0
IsModeFault t mode OutOfMemory = Unit {0}
IsModeFault t Rows fault = ⊥
IsModeFault t (Rings patience) NotHomed = IsHomed t → ⊥
IsModeFault t (Rings patience) Patience = IsHomed t × (MAX_PATIENCE < patience)
IsModeFault t (Rings patience) fault = ⊥

-- a run of `blocks` blocks can take this number of rounds: by rows, one for each row; over rings, at most one for each
-- firing, and at least one if there are blocks
abbrev pub HasRounds : TableValue → List ℕ → ℕ → Mode → ℕ → ℕ → Type 0
HasRounds t q j Rows blocks rounds = rounds ≡ blocks * length t.rows
HasRounds t q j (Rings patience) blocks rounds = (rounds ≤ blocks * (j * sum q)) × (0 < blocks → 0 < rounds)

-- counts stop at their greatest number
abbrev pub counted : ℕ → ℕ
counted n = min n (2 ^ 64 - 1)

-- the session is not spent
abbrev pub IsLive : {A S T : Type 0} → SessionValue A S T → Type 0
IsLive {A} {S} {T} v = (rest : NetState T S) × (v.rest ≡ Some rest)

-- the lists are this number of blocks for the session
abbrev pub FeedsBlocks : {A S T : Type 0} → SessionValue A S T → ℕ → List (List T) → Type 0
FeedsBlocks v blocks inputs = AreBlocks (list_count Inputs v.net.nodes)
    (v.blocking * period_samples v.net.nodes Inputs v.period.repetitions) blocks inputs

-- the session is in the state after this number of blocks in the lists fed: it holds the net state that a run on them
-- leaves, which makes the lists made
pub record StandsAfter {A S T : Type 0} (s : Steps A S T) (v : SessionValue A S T) (blocks : ℕ)
    (fed made : List (List T)) : Type 0 where
  pub given : HasInputs v.net v.period.repetitions (blocks * v.blocking) fed
  pub full : AreFull v.net v.period.repetitions (blocks * v.blocking) fed
  pub rest : NetState T S
  pub held : v.rest ≡ Some rest
  pub run : HasRun s v.net fed (periods_of v.period.repetitions (blocks * v.blocking)) made rest

-- what is true of every session; one that is not spent is in the state after some lists
pub record IsSession {A S T : Type 0} (s : Steps A S T) (v : SessionValue A S T) : Type 0 where
  pub period : IsPeriodOf (rates (graph_of s v.net)) v.period
  pub table : IsTableOf (rates (graph_of s v.net)) v.period.repetitions v.blocking v.table
  pub may : MayRun v.table v.mode
  pub stands : IsLive v → (blocks : ℕ) × (fed : List (List T)) × (made : List (List T))
      × StandsAfter s v blocks fed made

-- this number of blocks is fed to session v, which is then w. If v is in the state after some lists, w is in the state
-- after these and fed, joined. The outputs of these and then made are the outputs of one run on both
pub record HasFed {A S T : Type 0} (s : Steps A S T) (v w : SessionValue A S T) (blocks : ℕ) (fed made : List (List T))
    (rounds : ℕ) : Type 0 where
  pub live : IsLive v
  pub whole : FeedsBlocks v blocks fed
  pub count : length made ≡ list_count Outputs v.net.nodes
  pub taken : HasRounds v.table v.period.repetitions v.blocking v.mode blocks rounds
  pub rest : NetState T S
  pub now : w ≡ record v {
    rest = Some rest;
    blocks = counted (v.blocks + blocks);
    rounds = counted (v.rounds + rounds);
  }
  pub stands : (few : ℕ) (first all before joined : List (List T)) → StandsAfter s v few first before →
      AreJoined first fed all → length all ≡ length first → AreJoined before made joined →
      length joined ≡ length before →
      StandsAfter s w (few + blocks) all joined

-- why lists are refused: the session is spent, they are not whole blocks, or memory was refused
abbrev pub IsFeedFault : {A S T : Type 0} → SessionValue A S T → List (List T) → RunFault → Type 0
IsFeedFault v inputs SessionFailed = v.rest ≡ None
IsFeedFault v inputs InputLength = IsLive v × ((blocks : ℕ) → FeedsBlocks v blocks inputs → ⊥)
IsFeedFault v inputs OutOfMemory = IsLive v × ((blocks : ℕ) × FeedsBlocks v blocks inputs)
IsFeedFault v inputs NoWorker = ⊥
IsFeedFault v inputs NotHomed = ⊥
IsFeedFault v inputs Patience = ⊥

-- the session after a fault: it is spent if memory was refused (`NoWorker` never occurs), otherwise unchanged
abbrev pub after_fault : {A S T : Type 0} → SessionValue A S T → RunFault → SessionValue A S T
after_fault v OutOfMemory = record v { rest = None }
after_fault v NoWorker = record v { rest = None }
after_fault v fault = v

-- there are `many` lists, and no sample in them
pub record AreNone {T : Type 0} (many : ℕ) (inputs : List (List T)) : Type 0 where
  pub count : length inputs ≡ many
  pub each : (e : ℕ) → slice_index_or inputs e [] ≡ []

-- one feed
pub record Feed (T : Type 0) : Type 0 where
  pub blocks : ℕ
  pub fed : List (List T)
  pub made : List (List T)
  pub rounds : ℕ

-- feeds one after another, from session v to session w
abbrev pub AreFed : {A S T : Type 0} → Steps A S T → SessionValue A S T → List (Feed T) → SessionValue A S T → Type 0
AreFed s v [] w = w ≡ v
AreFed {A} {S} {T} s v (f ∷ feeds) w = (u : SessionValue A S T) × HasFed s v u f.blocks f.fed f.made f.rounds
    × AreFed s u feeds w

-- the outputs of any feeds, one after another, are the outputs of one run on all that was fed
abbrev pub FeedsAreOneRun : {A S T : Type 0} → Steps A S T → Type 0
FeedsAreOneRun {A} {S} {T} s =
    (v w : SessionValue A S T) (few : ℕ) (first before all joined : List (List T)) (feeds : List (Feed T)) →
    StandsAfter s v few first before → AreFed s v feeds w →
    length all ≡ length first → ((e : ℕ) → slice_index_or all e [] ≡
    slice_index_or first e [] ++ flat_map (λ f. slice_index_or f.fed e []) feeds) →
    length joined ≡ length before → ((e : ℕ) → slice_index_or joined e [] ≡
    slice_index_or before e [] ++ flat_map (λ f. slice_index_or f.made e []) feeds) →
    StandsAfter s w (few + sum_by (λ f. f.blocks) feeds) all joined
