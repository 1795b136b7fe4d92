-- The schedule of a design by options, or why there is none.
use Rattle.std.specs.Prelude.{ℕ}
use Rattle.sdf_actor.specs.Graphs.{graph_of}
use Rattle.sdf_kit.specs.Kit.{kit_steps}
use Rattle.sdf_sched.specs.Period.{Schedule}
use Rattle.sdf_prec.specs.Tables.{TableValue}
use Rattle.sdf_file.specs.Designs.{DesignValue}
use Rattle.sdf_options.specs.declared.options.Options.{Options}
use Rattle.sdf_faults.specs.declared.fault.Fault.{Fault}
use Rattle.sdf_faults.specs.declared.fault.Fault.TheVariants.{OutOfMemory, BlockingFactor, WorkerCount, Deadlock}
use Rattle.sdf_faults.specs.declared.fault.Fault.TheVariants.{Table}
use Rattle.sdf_plan.specs.Placements.{ArePeriodsOf, IsTableBy}
use Rattle.sdf_plan.specs.Plans.{AreSizes, IsSizeFault, IsScheduleBy, IsScheduleFault, IsUnplaced}

-- the order of the policy, and the table of the placement for a block of this many periods
pub record IsDesignSchedule (d : DesignValue) (o : Options) (periods : ℕ) (period : Schedule)
    (table : TableValue) : Type 0 where
  pub sizes : AreSizes o
  pub by_policy : IsScheduleBy o.policy (graph_of kit_steps d.net) period
  pub blocking : ArePeriodsOf d o period periods
  pub by_placement : IsTableBy d o period periods table

-- the first test that fails: of the numbers, of the schedule, of the table
abbrev pub IsDesignScheduleFault : DesignValue → Options → Fault → Type 0
IsDesignScheduleFault d o OutOfMemory = Unit {0}
IsDesignScheduleFault d o BlockingFactor = IsSizeFault o BlockingFactor
IsDesignScheduleFault d o WorkerCount = IsSizeFault o WorkerCount
IsDesignScheduleFault d o (Deadlock stalled) = AreSizes o × IsScheduleFault d (Deadlock stalled)
IsDesignScheduleFault d o (Table f) = IsUnplaced d o f
IsDesignScheduleFault d o f = ⊥
