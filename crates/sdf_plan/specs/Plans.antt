-- The plan of a design, or why it has none.
use Rattle.std.specs.Prelude.{◌≡◌, ◌≢◌, ◌⊎◌, ℕ, ℤ, ◌≤◌, ◌==◌, List, [], map, length, Option, option_map, Result, Ok}
use Rattle.std.specs.Prelude.{Err, slice_index, slice_index_or, find, Some, None, IfSome, string_bytes}
use Rattle.std.specs.List.{range_with_len}
use Rattle.sdf_limits.specs.declared.TheConstants.{MAX_BLOCKING, MAX_PATIENCE, MAX_WORKERS}
use Rattle.sdf_graph.specs.Rates.{GraphValue, rates}
use Rattle.sdf_graph.specs.Sequences.{IsPass, IsDeadlocked}
use Rattle.sdf_graph.specs.Periods.{IsLeastPeriod}
use Rattle.sdf_actor.specs.Graphs.{graph_of}
use Rattle.sdf_actor.specs.Nets.{Netlist}
use Rattle.sdf_kit.specs.declared.kit.Kit.{Kit}
use Rattle.sdf_kit.specs.Kit.{kit_steps}
use Rattle.sdf_prec.specs.BlockTables.{IsTableOf}
use Rattle.sdf_sched.specs.Period.{Schedule, IsPeriodOf}
use Rattle.sdf_sched.specs.Pick.{IsPicked}
use Rattle.sdf_sched.specs.Round.{IsRoundChoice}
use Rattle.sdf_sched.specs.Lean.{IsLeanChoice}
use Rattle.sdf_sched.specs.Runs.{IsRunsChoice}
use Rattle.sdf_sched.specs.Stuck.{IsStuckAt}
use Rattle.sdf_sched.specs.declared.lean.Lean.{Lean}
use Rattle.sdf_sched.specs.declared.stuck.Stuck.{Stuck}
use Rattle.sdf_sched.specs.declared.fault.SchedFault.{SchedFault}
use Rattle.sdf_sched.specs.declared.fault.SchedFault.TheVariants as sched
use Rattle.sdf_prec.specs.declared.fault.PrecFault.{PrecFault}
use Rattle.sdf_prec.specs.declared.fault.PrecFault.TheVariants as prec
use Rattle.sdf_prec.specs.Tables.{TableValue, IsHomed}
use Rattle.sdf_file.specs.Designs.{DesignValue}
use Rattle.sdf_options.specs.declared.options.Options.{Options}
use Rattle.sdf_options.specs.declared.options.Policy.{Policy}
use Rattle.sdf_options.specs.declared.options.Policy.TheVariants as policies
use Rattle.sdf_options.specs.declared.options.Runner.{Runner}
use Rattle.sdf_options.specs.declared.options.Runner.TheVariants.{One, Rows, Rings}
use Rattle.sdf_faults.specs.declared.fault.Progress.{Progress}
use Rattle.sdf_faults.specs.declared.fault.Fault.{Fault}
use Rattle.sdf_faults.specs.declared.fault.Fault.TheVariants.{OutOfMemory, Patience, BlockingFactor, WorkerCount}
use Rattle.sdf_faults.specs.declared.fault.Fault.TheVariants.{Deadlock, Table, NotHomed}
use Rattle.sdf_plan.specs.Placements.{ArePeriodsOf, IsTableBy, IsPlaceFault}

-- the periods of a block, the runner, the spin limit that the options ask for (only workers over rings have one), the
-- most parts of a sound that run in parallel on one thread each, the order of one period, and the table of a block
pub record PlanValue : Type 0 where
  pub blocking : ℕ
  pub runner : Runner
  pub patience : ℕ
  pub parts : ℕ
  pub period : Schedule
  pub table : Option TableValue

-- a policy gives this order of a period's firings; rounds and runs begin at actor 0
abbrev pub IsOrderBy : Policy → GraphValue → (ℕ → ℕ) → List ℕ → Type 0
IsOrderBy policies.Round g q order = (turn : ℕ) × IsPicked IsRoundChoice g q 0 order turn
IsOrderBy policies.Lean g q order = IsPicked {P = Lean} IsLeanChoice g q (record {}) order (record {})
IsOrderBy policies.Runs g q order = (last : ℕ) × IsPicked IsRunsChoice g q 0 order last

-- one period of a graph by a policy
pub record IsScheduleBy (policy : Policy) (g : GraphValue) (s : Schedule) : Type 0 where
  pub period : IsPeriodOf (rates g) s
  pub order : IsOrderBy policy g (slice_index s.repetitions) s.order

-- a graph with least repetition vector q is deadlocked, and this is where a schedule stopped
abbrev pub IsStuckFault : GraphValue → List ℕ → SchedFault → Type 0
IsStuckFault g q sched.OutOfMemory = Unit {0}
IsStuckFault g q (sched.Deadlock s) =
    IsDeadlocked (rates g) (slice_index q) × ((w : List ℕ) × IsStuckAt (rates g) (slice_index q) w s)

abbrev pub IsBlocking : ℕ → Type 0
IsBlocking blocking = (1 ≤ blocking) × (blocking ≤ MAX_BLOCKING)

abbrev pub IsWorkers : ℕ → Type 0
IsWorkers workers = (1 ≤ workers) × (workers ≤ MAX_WORKERS)

-- the numbers of the options are within their limits
abbrev pub AreSizes : Options → Type 0
AreSizes o = IsBlocking o.blocking × IsWorkers o.workers

-- the fault of the first of these numbers that is not within its limits
abbrev pub IsSizeFault : Options → Fault → Type 0
IsSizeFault o BlockingFactor = IsBlocking o.blocking → ⊥
IsSizeFault o WorkerCount = IsBlocking o.blocking × (IsWorkers o.workers → ⊥)
IsSizeFault o f = ⊥

-- the spin limit of workers over rings is not above the greatest one. Other runners have no spin limit
abbrev pub HasPatience : Runner → ℕ → Type 0
HasPatience Rings patience = patience ≤ MAX_PATIENCE
HasPatience runner patience = Unit {0}

-- the options pass the tests that look at them alone
pub record ArePassed (o : Options) : Type 0 where
  pub patience : HasPatience o.runner o.patience
  pub sizes : AreSizes o

-- the first test that the options fail by themselves
abbrev pub IsOptionFault : Options → Fault → Type 0
IsOptionFault o Patience = HasPatience o.runner o.patience → ⊥
IsOptionFault o BlockingFactor = HasPatience o.runner o.patience × IsSizeFault o BlockingFactor
IsOptionFault o WorkerCount = HasPatience o.runner o.patience × IsSizeFault o WorkerCount
IsOptionFault o f = ⊥

-- The runner on one thread has no table. The other runners have the table of the placement; over rings each actor has a
-- home in it.
abbrev pub IsTableFor : Runner → DesignValue → Options → Schedule → ℕ → Option TableValue → Type 0
IsTableFor One d o s j t = t ≡ None
IsTableFor Rows d o s j (Some t) = IsTableBy d o s j t
IsTableFor Rings d o s j (Some t) = IsTableBy d o s j t × IsHomed t
IsTableFor runner d o s j None = ⊥

-- the plan of a design by options, for blocks of j periods: its period, and the table that the runner needs
pub record IsRunBy (d : DesignValue) (o : Options) (s : Schedule) (j : ℕ) (p : PlanValue) : Type 0 where
  pub is : p ≡ record {
    blocking = j;
    runner = o.runner;
    patience = o.patience;
    parts = 1;
    period = s;
    table = p.table;
  }
  pub by_placement : IsTableFor o.runner d o s j p.table

-- the plan of a design by options that pass all tests
pub record IsPlanOf (d : DesignValue) (o : Options) (p : PlanValue) : Type 0 where
  pub options : ArePassed o
  pub blocking : ArePeriodsOf d o p.period p.blocking
  pub same_runner : p.runner ≡ o.runner
  pub same_patience : p.patience ≡ o.patience
  pub whole : p.parts ≡ 1
  pub schedule : IsScheduleBy o.policy (graph_of kit_steps d.net) p.period
  pub by_placement : IsTableFor o.runner d o p.period p.blocking p.table

-- a runner over rings needs a home for each actor
abbrev pub SuitsRunner : Runner → TableValue → Type 0
SuitsRunner Rings t = IsHomed t
SuitsRunner runner t = Unit {0}

-- a plan suits a net: its order is an order of the net's period, and its table, if it has one, is a table of the net's
-- blocks
pub record Suits (n : Netlist Kit ℤ) (p : PlanValue) : Type 0 where
  pub period : IsPeriodOf (rates (graph_of kit_steps n)) p.period
  pub table : IfSome p.table (IsTableOf (rates (graph_of kit_steps n)) p.period.repetitions p.blocking)
  pub homes : IfSome p.table (SuitsRunner p.runner)
  pub patience : HasPatience p.runner p.patience

-- the progress of an actor: its name, its firings, its firings in a period, and if it is unfinished its first link that
-- holds too few tokens
pub record ProgressValue : Type 0 where
  pub name : List ℕ
  pub done : ℕ
  pub of : ℕ
  pub short : Option ℕ

abbrev pub progress_view : Progress → ProgressValue
progress_view p = record { name = string_bytes p.name; done = p.done; of = p.of; short = p.short }

-- the channel that is listed for an actor
abbrev pub short_of : List (ℕ × ℕ) → ℕ → Option ℕ
short_of short a = option_map (λ (p : ℕ × ℕ). p.1) (find (λ (p : ℕ × ℕ). p.0 == a) short)

abbrev pub progress_of : DesignValue → List ℕ → Stuck → ℕ → ProgressValue
progress_of d q s a = record {
  name = slice_index_or d.names a [];
  done = slice_index s.done.items a;
  of = slice_index q a;
  short = short_of s.short.items a;
}

-- some sequence of enabled firings completes the least period of a design
pub record IsLive (d : DesignValue) : Type 0 where
  pub period : List ℕ
  pub least : IsLeastPeriod (rates (graph_of kit_steps d.net)) period
  pub sequence : List ℕ
  pub completes : IsPass (rates (graph_of kit_steps d.net)) (slice_index period) sequence

-- no sequence of enabled firings completes the least period of a design, and this is the progress of each actor where a
-- schedule stopped
pub record IsDeadlockOf (d : DesignValue) (actors : List ProgressValue) : Type 0 where
  pub period : List ℕ
  pub least : IsLeastPeriod (rates (graph_of kit_steps d.net)) period
  pub deadlocked : IsDeadlocked (rates (graph_of kit_steps d.net)) (slice_index period)
  pub stuck : Stuck
  pub sequence : List ℕ
  pub stopped : IsStuckAt (rates (graph_of kit_steps d.net)) (slice_index period) sequence stuck
  pub told : actors ≡ map (progress_of d period stuck) (range_with_len 0 (length d.net.nodes))

abbrev pub IsScheduleFault : DesignValue → Fault → Type 0
IsScheduleFault d OutOfMemory = Unit {0}
IsScheduleFault d (Deadlock stalled) = IsDeadlockOf d (map progress_view stalled.actors.items)
IsScheduleFault d f = ⊥

-- there is no table for the period of the policy, though memory was not refused
pub record IsUnplaced (d : DesignValue) (o : Options) (f : PrecFault) : Type 0 where
  pub sizes : AreSizes o
  pub period : Schedule
  pub by_policy : IsScheduleBy o.policy (graph_of kit_steps d.net) period
  pub periods : ℕ
  pub blocking : ArePeriodsOf d o period periods
  pub fault : IsPlaceFault o.placement d periods o.workers period f
  pub no_memory : f ≡ prec.OutOfMemory → ⊥

-- the reason why there is no table of j periods that the runner can follow
abbrev pub IsTableFault : DesignValue → Options → Schedule → ℕ → Fault → Type 0
IsTableFault d o s j OutOfMemory = Unit {0}
IsTableFault d o s j (Table f) = (o.runner ≢ One) × IsPlaceFault o.placement d j o.workers s f
    × (f ≡ prec.OutOfMemory → ⊥)
IsTableFault d o s j NotHomed = (o.runner ≡ Rings) × ((t : TableValue) × IsTableBy d o s j t × (IsHomed t → ⊥))
IsTableFault d o s j f = ⊥

-- the table of the placement has an actor without a home
pub record IsScattered (d : DesignValue) (o : Options) : Type 0 where
  pub sizes : AreSizes o
  pub period : Schedule
  pub by_policy : IsScheduleBy o.policy (graph_of kit_steps d.net) period
  pub periods : ℕ
  pub blocking : ArePeriodsOf d o period periods
  pub table : TableValue
  pub by_placement : IsTableBy d o period periods table
  pub scattered : IsHomed table → ⊥

-- the first test that options or the design fail. Only the schedule and the table allocate memory
abbrev pub IsPlanFault : DesignValue → Options → Fault → Type 0
IsPlanFault d o Patience = IsOptionFault o Patience
IsPlanFault d o BlockingFactor = IsOptionFault o BlockingFactor
IsPlanFault d o WorkerCount = IsOptionFault o WorkerCount
IsPlanFault d o (Table f) = (o.runner ≢ One) × HasPatience o.runner o.patience × IsUnplaced d o f
IsPlanFault d o NotHomed = (o.runner ≡ Rings) × HasPatience o.runner o.patience × IsScattered d o
IsPlanFault d o f = ArePassed o × IsScheduleFault d f

-- What the result for options that pass says of a design. If it is a plan, or a reason why there is no table to follow,
-- then some sequence of enabled firings completes its least period. If it is 10 Deadlock, then no sequence does. Memory
-- may be refused in both cases, and there is no other result.
abbrev pub Decides : {X : Type 0} → DesignValue → Result X Fault → Type 0
Decides d (Ok plan) = IsLive d
Decides d (Err (Table f)) = IsLive d
Decides d (Err NotHomed) = IsLive d
Decides d (Err (Deadlock stalled)) = IsLive d → ⊥
Decides d (Err OutOfMemory) = IsLive d ⊎ (IsLive d → ⊥)
Decides d (Err f) = ⊥
