-- A plan has no table, by why the table of its period was not made.
use Rattle.std.proofs.Common.{ℕ}
use Rattle.sdf_actor.specs.Graphs.{graph_of}
use Rattle.sdf_kit.specs.Kit.{kit_steps}
use Rattle.sdf_sched.specs.Period.{Schedule}
use Rattle.sdf_file.specs.Designs.{DesignValue}
use Rattle.sdf_options.specs.declared.options.Options.{Options}
use Rattle.sdf_faults.specs.declared.fault.Fault.{Fault}
use Rattle.sdf_faults.specs.declared.fault.Fault.TheVariants as fault
use Rattle.sdf_plan.specs.Placements.{ArePeriodsOf}
use Rattle.sdf_plan.specs.Plans.{ArePassed, IsPlanFault, IsScheduleBy, IsTableFault}

pub untabled : (d : DesignValue) (o : Options) (s : Schedule) (j : ℕ) (f : Fault) → ArePassed o →
    IsScheduleBy o.policy (graph_of kit_steps d.net) s → ArePeriodsOf d o s j → IsTableFault d o s j f →
    IsPlanFault d o f
untabled d o s j fault.OutOfMemory passed schedule periods is = (passed, tt)
untabled d o s j (fault.Table f) passed schedule periods is = (
  is.0,
  passed.patience,
  record {
    sizes = passed.sizes;
    period = s;
    by_policy = schedule;
    periods = j;
    blocking = periods;
    fault = is.1;
    no_memory = is.2;
  },
)
untabled d o s j fault.NotHomed passed schedule periods is = (
  is.0,
  passed.patience,
  record {
    sizes = passed.sizes;
    period = s;
    by_policy = schedule;
    periods = j;
    blocking = periods;
    table = is.1.0;
    by_placement = is.1.1;
    scattered = is.1.2;
  },
)
untabled d o s j fault.Patience passed schedule periods is = absurd is
untabled d o s j fault.BlockingFactor passed schedule periods is = absurd is
untabled d o s j fault.WorkerCount passed schedule periods is = absurd is
untabled d o s j (fault.Deadlock stalled) passed schedule periods is = absurd is
untabled d o s j (fault.Words w) passed schedule periods is = absurd is
untabled d o s j (fault.File f) passed schedule periods is = absurd is
untabled d o s j fault.InputLength passed schedule periods is = absurd is
untabled d o s j fault.NoWorker passed schedule periods is = absurd is
untabled d o s j fault.SessionFailed passed schedule periods is = absurd is
untabled d o s j (fault.Wav f) passed schedule periods is = absurd is
untabled d o s j fault.Read passed schedule periods is = absurd is
untabled d o s j fault.Write passed schedule periods is = absurd is
untabled d o s j fault.ChannelsMissing passed schedule periods is = absurd is
untabled d o s j fault.RateNotWhole passed schedule periods is = absurd is
