-- Runs in parallel: in parts of the sound, or in one thread.
use Rattle.std.specs.Prelude.{◌≡◌, ◌≢◌, ℕ, ◌*◌, ◌≤◌}
use Rattle.sdf_actor.specs.Sides.{period_samples}
use Rattle.sdf_actor.specs.declared.sides.Lists.TheVariants.{Inputs}
use Rattle.sdf_kit.specs.Kit.{kit_steps}
use Rattle.sdf_warm_up.specs.Warm.{IsLeast}
use Rattle.sdf_warm_up.specs.WarmUps.{WarmsIn, IsLasting}
use Rattle.sdf_file.specs.Designs.{DesignValue}
use Rattle.sdf_options.specs.declared.options.Options.{Options}
use Rattle.sdf_options.specs.declared.options.Placement.TheVariants.{Homed}
use Rattle.sdf_options.specs.declared.options.Policy.TheVariants.{Round}
use Rattle.sdf_options.specs.declared.options.Runner.TheVariants.{One}
use Rattle.sdf_plan.specs.declared.parallel.Pace.{Pace}
use Rattle.sdf_plan.specs.declared.parallel.Pace.TheVariants.{Parts, Lasting, Alone}
use Rattle.sdf_plan.specs.Plans.{PlanValue, IsPlanOf}

-- the options of a run in one thread
abbrev pub one_thread : Options
one_thread = record {
  blocking = 1;
  workers = 1;
  policy = Round;
  placement = Homed;
  runner = One;
  patience = 1000;
}

-- the one-thread plan, run on up to m parts of the sound in parallel, with the fewest periods and samples of warm-up
-- that are enough
pub record IsInParts (d : DesignValue) (m : ℕ) (p : PlanValue) (workers periods samples : ℕ) : Type 0 where
  pub on_one_thread : PlanValue
  pub by_options : IsPlanOf d one_thread on_one_thread
  pub plan : p ≡ record on_one_thread { parts = workers }
  pub all : workers ≡ m
  pub several : 2 ≤ m
  pub warm_up : IsLeast (WarmsIn kit_steps d.net p.period.repetitions) periods
  pub read : samples ≡ periods * period_samples d.net.nodes Inputs p.period.repetitions

-- the plan runs a design by m workers in this way
abbrev pub IsParallelPlan : DesignValue → ℕ → PlanValue → Pace → Type 0
IsParallelPlan d m p (Parts workers periods samples) = IsInParts d m p workers periods samples
IsParallelPlan d m p Lasting = IsPlanOf d one_thread p × (m ≢ 1) × IsLasting kit_steps d.net
IsParallelPlan d m p Alone = IsPlanOf d one_thread p × (m ≡ 1)
