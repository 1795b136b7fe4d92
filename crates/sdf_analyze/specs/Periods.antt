-- One period of a design by each policy.
use Rattle.sdf_actor.specs.Graphs.{graph_of}
use Rattle.sdf_kit.specs.Kit.{kit_steps}
use Rattle.sdf_sched.specs.Period.{Schedule}
use Rattle.sdf_file.specs.Designs.{DesignValue}
use Rattle.sdf_options.specs.declared.options.Policy.{Policy}
use Rattle.sdf_options.specs.declared.options.Policy.TheVariants.{Round, Lean, Runs}
use Rattle.sdf_plan.specs.Plans.{IsScheduleBy}
use Rattle.sdf_analyze.specs.declared.periods.Periods.{Periods}

-- the period by a policy
abbrev pub period_in : Periods → Policy → Schedule
period_in p Round = p.round
period_in p Lean = p.lean
period_in p Runs = p.runs

-- each period is the one of design d by its policy
pub record AreByPolicies (d : DesignValue) (p : Periods) : Type 0 where
  pub round : IsScheduleBy Round (graph_of kit_steps d.net) p.round
  pub lean : IsScheduleBy Lean (graph_of kit_steps d.net) p.lean
  pub runs : IsScheduleBy Runs (graph_of kit_steps d.net) p.runs
