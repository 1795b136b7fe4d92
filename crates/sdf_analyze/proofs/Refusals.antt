-- What it says that a schedule has no figures where options are within their limits.
use Rattle.std.proofs.Common.{◌≡◌, Result, Ok, Err, refl, sym, subst}
use Rattle.std.specs.Prelude.{MatchResult}
use Rattle.sdf_prec.specs.declared.fault.PrecFault.{PrecFault}
use Rattle.sdf_prec.specs.declared.fault.PrecFault.TheVariants.{OutOfMemory}
use Rattle.sdf_file.specs.Designs.{DesignValue}
use Rattle.sdf_options.specs.declared.options.Options.{Options}
use Rattle.sdf_faults.specs.declared.fault.Fault.{Fault}
use Rattle.sdf_faults.specs.declared.fault.Fault.TheVariants as fault
use Rattle.sdf_faults.specs.Faults.{of_prec}
use Rattle.sdf_plan.specs.Plans.{AreSizes, IsScheduleFault}
use Rattle.sdf_plan.specs.Schedules.{IsDesignScheduleFault}
use Rattle.sdf_analyze.specs.declared.columns.Outcome.{Outcome}
use Rattle.sdf_analyze.specs.declared.columns.Outcome.TheVariants.{Refused}
use Rattle.sdf_analyze.specs.Comparisons.{number_of, IsOutcome}

-- that memory was refused is a fault of any schedule
pub memory_shows : (d : DesignValue) (o : Options) (e : PrecFault) → e ≡ OutOfMemory →
    IsDesignScheduleFault d o (of_prec e)
memory_shows d o e is = subst (λ e. IsDesignScheduleFault d o (of_prec e)) (sym is) tt

-- where it is no table that is wanting, the design has no schedule
unscheduled : (d : DesignValue) (o : Options) (f : Fault) → AreSizes o → IsDesignScheduleFault d o f →
    ((p : PrecFault) → f ≡ fault.Table p → ⊥) → IsScheduleFault d f
unscheduled d o fault.OutOfMemory sizes is none = tt
unscheduled d o fault.BlockingFactor sizes is none = absurd (is sizes.0)
unscheduled d o fault.WorkerCount sizes is none = absurd (is.1 sizes.1)
unscheduled d o (fault.Deadlock stalled) sizes is none = is.1
unscheduled d o (fault.Table p) sizes is none = absurd (none p refl)
unscheduled d o fault.NotHomed sizes is none = absurd is
unscheduled d o fault.Patience sizes is none = absurd is
unscheduled d o (fault.Words w) sizes is none = absurd is
unscheduled d o (fault.File f) sizes is none = absurd is
unscheduled d o fault.InputLength sizes is none = absurd is
unscheduled d o fault.NoWorker sizes is none = absurd is
unscheduled d o fault.SessionFailed sizes is none = absurd is
unscheduled d o (fault.Wav f) sizes is none = absurd is
unscheduled d o fault.Read sizes is none = absurd is
unscheduled d o fault.Write sizes is none = absurd is
unscheduled d o fault.ChannelsMissing sizes is none = absurd is
unscheduled d o fault.RateNotWhole sizes is none = absurd is

-- so a fault is an outcome, or the design has no schedule
pub outcome : (d : DesignValue) (o : Options) (f : Fault) (r : Result Outcome Fault) → AreSizes o →
    IsDesignScheduleFault d o f →
    MatchResult r (λ w. (p : PrecFault) × (f ≡ fault.Table p) × (w ≡ Refused (number_of p)))
    (λ e. (e ≡ f) × ((p : PrecFault) → f ≡ fault.Table p → ⊥)) →
    MatchResult r (IsOutcome d o) (IsScheduleFault d)
outcome d o f (Ok w) sizes is made = subst (IsOutcome d o) (sym made.2)
    (record { fault = made.0; why = subst (IsDesignScheduleFault d o) made.1 is; is = refl })
outcome d o f (Err e) sizes is none = subst (IsScheduleFault d) (sym none.0) (unscheduled d o f sizes is none.1)
