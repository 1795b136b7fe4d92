-- The plans of a design for one thread, whole and in parts.
use Rattle.std.proofs.Common.{◌≡◌, ◌≤◌, ◌*◌, ℕ, refl, sym, subst, arith}
use Rattle.sdf_actor.specs.Graphs.{graph_of}
use Rattle.sdf_actor.specs.Sides.{period_samples}
use Rattle.sdf_actor.specs.declared.sides.Lists.TheVariants.{Inputs}
use Rattle.sdf_kit.specs.Kit.{kit_steps}
use Rattle.sdf_sched.specs.Period.{Schedule}
use Rattle.sdf_warm_up.specs.Warm.{IsLeast}
use Rattle.sdf_warm_up.specs.WarmUps.{WarmsIn}
use Rattle.sdf_file.specs.Designs.{DesignValue}
use Rattle.sdf_options.specs.declared.options.Policy.TheVariants.{Round}
use Rattle.sdf_faults.specs.declared.fault.Fault.{Fault}
use Rattle.sdf_faults.specs.declared.fault.Fault.TheVariants as fault
use Rattle.sdf_plan.specs.declared.plan.Execution.TheVariants.{One, Parts}
use Rattle.sdf_plan.specs.ParallelPlans.{one_thread, IsInParts}
use Rattle.sdf_plan.specs.Plans.{PlanValue, ArePassed, IsPlanOf, IsPlanFault, IsScheduleBy, IsScheduleFault, Suits}
use Rattle.sdf_plan.specs.Executions.{plan_by}

passed : ArePassed one_thread
passed = record { patience = tt; sizes = ((omega arith, omega arith), (omega arith, omega arith)) }

module _ (d : DesignValue) (s : Schedule) (by_policy : IsScheduleBy Round (graph_of kit_steps d.net) s) where
  plan_of : IsPlanOf d one_thread (plan_by (One s 1) one_thread.patience)
  plan_of = record {
    options = passed;
    blocking = refl;
    same_runner = refl;
    same_patience = refl;
    whole = refl;
    schedule = by_policy;
    by_placement = refl;
  }

  pub is_alone : (p : PlanValue) → p ≡ plan_by (One s 1) one_thread.patience → IsPlanOf d one_thread p
  is_alone p made = subst (IsPlanOf d one_thread) (sym made) plan_of

  pub suits : (p : PlanValue) → p ≡ plan_by (One s 1) one_thread.patience → Suits d.net p
  suits p made = subst (Suits d.net) (sym made)
      (record { period = by_policy.period; table = tt; homes = tt; patience = tt })

  pub is_in_parts : (m periods samples : ℕ) (p : PlanValue) → p ≡ plan_by (Parts s 1 m) one_thread.patience → 2 ≤ m →
      IsLeast (WarmsIn kit_steps d.net s.repetitions) periods →
      samples ≡ periods * period_samples d.net.nodes Inputs s.repetitions → IsInParts d m p m periods samples
  is_in_parts m periods samples p made several warm_up read =
      subst (λ x. IsInParts d m x m periods samples) (sym made)
      (record {
        on_one_thread = plan_by (One s 1) one_thread.patience;
        by_options = plan_of;
        plan = refl;
        all = refl;
        several = several;
        warm_up = warm_up;
        read = read;
      })

  pub parts_suit : (m : ℕ) (p : PlanValue) → p ≡ plan_by (Parts s 1 m) one_thread.patience → Suits d.net p
  parts_suit m p made = subst (Suits d.net) (sym made)
      (record { period = by_policy.period; table = tt; homes = tt; patience = tt })

-- a design without a schedule has no plan for one thread
pub no_plan : (d : DesignValue) (f : Fault) → IsScheduleFault d f → IsPlanFault d one_thread f
no_plan d fault.OutOfMemory is = (passed, is)
no_plan d (fault.Deadlock stalled) is = (passed, is)
no_plan d fault.Patience is = absurd is
no_plan d fault.BlockingFactor is = absurd is
no_plan d fault.WorkerCount is = absurd is
no_plan d (fault.Table f) is = absurd is
no_plan d fault.NotHomed is = absurd is
no_plan d (fault.Words w) is = absurd is
no_plan d (fault.File f) is = absurd is
no_plan d fault.InputLength is = absurd is
no_plan d fault.NoWorker is = absurd is
no_plan d fault.SessionFailed is = absurd is
no_plan d (fault.Wav f) is = absurd is
no_plan d fault.Read is = absurd is
no_plan d fault.Write is = absurd is
no_plan d fault.ChannelsMissing is = absurd is
no_plan d fault.RateNotWhole is = absurd is
