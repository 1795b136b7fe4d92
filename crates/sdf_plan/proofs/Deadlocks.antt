-- What a schedule's answer says of a design.
use Rattle.std.proofs.Common.{◌≡◌, ◌⊎◌, inl, inr, ℕ, List, map, length, slice_index, Result, Ok, Err, MatchResult}
use Rattle.std.proofs.Common.{subst}
use Rattle.std.specs.List.{range_with_len}
use Rattle.sdf_graph.specs.Rates.{GraphValue, IsShape, rates}
use Rattle.sdf_graph.specs.Sequences.{IsPass, IsDeadlocked}
use Rattle.sdf_graph.specs.Periods.{IsLeastPeriod}
use Rattle.sdf_graph.proofs.Theorems.{graphs_are_sound, one_least_period}
use Rattle.sdf_actor.specs.Graphs.{graph_of}
use Rattle.sdf_kit.specs.Kit.{kit_steps}
use Rattle.sdf_sched.specs.Stuck.{IsStuckAt}
use Rattle.sdf_sched.specs.declared.stuck.Stuck.{Stuck}
use Rattle.sdf_sched.specs.declared.fault.SchedFault.TheVariants.{Deadlock}
use Rattle.sdf_sched.proofs.Theorems.{period_or_deadlock}
use Rattle.sdf_file.specs.Designs.{DesignValue}
use Rattle.sdf_options.specs.declared.options.Options.{Options}
use Rattle.sdf_faults.specs.declared.fault.Fault.{Fault}
use Rattle.sdf_faults.specs.declared.fault.Fault.TheVariants as fault
use Rattle.sdf_plan.specs.Plans.{PlanValue, ArePassed, IsPlanOf, IsPlanFault, IsLive, Decides, IsStuckFault}
use Rattle.sdf_plan.specs.Plans.{IsDeadlockOf, ProgressValue, progress_of}

pub deadlock_of : (d : DesignValue) (g : GraphValue) (q : List ℕ) (stuck : Stuck) (actors : List ProgressValue) →
    g ≡ graph_of kit_steps d.net → IsLeastPeriod (rates (graph_of kit_steps d.net)) q →
    IsStuckFault g q (Deadlock stuck) → actors ≡ map (progress_of d q stuck) (range_with_len 0 (length d.net.nodes)) →
    IsDeadlockOf d actors
deadlock_of d g q stuck actors same least fault told = record {
  period = q;
  least = least;
  deadlocked = subst (λ x. IsDeadlocked (rates x) (slice_index q)) same fault.0;
  stuck = stuck;
  sequence = fault.1.0;
  stopped = subst (λ x. IsStuckAt (rates x) (slice_index q) fault.1.0 stuck) same fault.1.1;
  told = told;
}

module _ (d : DesignValue) (q : List ℕ)
    (least : IsLeastPeriod (rates (graph_of kit_steps d.net)) q) where
  not_live : IsDeadlocked (rates (graph_of kit_steps d.net)) (slice_index q) → IsLive d → ⊥
  not_live none live =
      none live.sequence
      (subst (λ p. IsPass (rates (graph_of kit_steps d.net)) (slice_index p) live.sequence)
      (one_least_period (rates (graph_of kit_steps d.net)) live.period q live.least least) live.completes)

  -- of each design some sequence of enabled firings completes the least period, or none does
  pub live_or_not : IsShape (graph_of kit_steps d.net) → IsLive d ⊎ (IsLive d → ⊥)
  live_or_not shape =
      let graph : GraphValue = graph_of kit_steps d.net in
      go (period_or_deadlock (rates graph) (slice_index q) (graphs_are_sound graph shape))
    where
      go : ((w : List ℕ) × IsPass (rates (graph_of kit_steps d.net)) (slice_index q) w)
          ⊎ IsDeadlocked (rates (graph_of kit_steps d.net)) (slice_index q) → IsLive d ⊎ (IsLive d → ⊥)
      go (inl found) = inl (record { period = q; least = least; sequence = found.0; completes = found.1 })
      go (inr none) = inr (not_live none)

-- the answer says which
pub decides_of : (d : DesignValue) (o : Options) (r : Result PlanValue Fault) → ArePassed o →
    MatchResult r (IsPlanOf d o) (IsPlanFault d o) → IsLive d ⊎ (IsLive d → ⊥) → Decides d r
decides_of d o (Ok p) passed is both =
    record {
      period = p.period.repetitions;
      least = is.schedule.period.least;
      sequence = p.period.order;
      completes = is.schedule.period.pass;
    }
decides_of d o (Err fault.OutOfMemory) passed is both = both
decides_of d o (Err (fault.Deadlock stalled)) passed is both = not_live d is.1.period is.1.least is.1.deadlocked
decides_of d o (Err fault.Patience) passed is both = absurd (is passed.patience)
decides_of d o (Err fault.BlockingFactor) passed is both = absurd (is.1 passed.sizes.0)
decides_of d o (Err fault.WorkerCount) passed is both = absurd (is.1.1 passed.sizes.1)
decides_of d o (Err (fault.Table f)) passed is both =
    let schedule = is.2.by_policy.period in
    record {
      period = is.2.period.repetitions;
      least = schedule.least;
      sequence = is.2.period.order;
      completes = schedule.pass;
    }
decides_of d o (Err fault.NotHomed) passed is both =
    let schedule = is.2.by_policy.period in
    record {
      period = is.2.period.repetitions;
      least = schedule.least;
      sequence = is.2.period.order;
      completes = schedule.pass;
    }
decides_of d o (Err (fault.Words w)) passed is both = absurd is.1
decides_of d o (Err (fault.File f)) passed is both = absurd is.1
decides_of d o (Err fault.InputLength) passed is both = absurd is.1
decides_of d o (Err fault.NoWorker) passed is both = absurd is.1
decides_of d o (Err fault.SessionFailed) passed is both = absurd is.1
decides_of d o (Err (fault.Wav f)) passed is both = absurd is.1
decides_of d o (Err fault.Read) passed is both = absurd is.1
decides_of d o (Err fault.Write) passed is both = absurd is.1
decides_of d o (Err fault.ChannelsMissing) passed is both = absurd is.1
decides_of d o (Err fault.RateNotWhole) passed is both = absurd is.1
