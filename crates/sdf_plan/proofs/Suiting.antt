-- The plan of a design is one of its net's.
use Rattle.std.proofs.Common.{ℕ, Option, Some, None, Result, Ok, Err, MatchResult, sym, subst}
use Rattle.std.specs.Prelude.{IfSome, IfOk}
use Rattle.sdf_sched.specs.Period.{Schedule}
use Rattle.sdf_prec.specs.Tables.{TableValue, IsTable}
use Rattle.sdf_prec.specs.BlockTables.{IsTableOf}
use Rattle.sdf_file.specs.Designs.{DesignValue}
use Rattle.sdf_faults.specs.declared.fault.Fault.{Fault}
use Rattle.sdf_options.specs.declared.options.Options.{Options}
use Rattle.sdf_options.specs.declared.options.Placement.{Placement}
use Rattle.sdf_options.specs.declared.options.Placement.TheVariants.{Hu, Homed, File, Spread}
use Rattle.sdf_options.specs.declared.options.Policy.{Policy}
use Rattle.sdf_options.specs.declared.options.Runner.{Runner}
use Rattle.sdf_options.specs.declared.options.Runner.TheVariants.{One, Rows, Rings}
use Rattle.sdf_plan.specs.Placements.{rates_of, firings_of, IsPlaced, IsTableBy}
use Rattle.sdf_plan.specs.Plans.{PlanValue, IsPlanOf, IsPlanFault, IsTableFor, HasPatience, SuitsRunner, Suits}

pub placed_table : (placement : Placement) (policy : Policy) (d : DesignValue) (j m : ℕ) (s : Schedule)
    (t : TableValue) →
    IsPlaced placement policy d j m s t → IsTable (rates_of d) (firings_of j s) m t
placed_table Hu policy d j m s t is = is.table
placed_table Homed policy d j m s t is = is.table
placed_table File policy d j m s t is = is.0
placed_table Spread policy d j m s t is = is.table

table_of : (d : DesignValue) (o : Options) (s : Schedule) (j : ℕ) (t : TableValue) → IsTableBy d o s j t →
    IsTableOf (rates_of d) s.repetitions j t
table_of d o s j t is = record {
  width = o.workers;
  some = is.size.some;
  workers = is.size.workers;
  short = is.size.short;
  table = placed_table o.placement o.policy d j o.workers s t is.placed;
}

table_suits : (runner : Runner) (d : DesignValue) (o : Options) (s : Schedule) (j : ℕ) (t : Option TableValue) →
    IsTableFor runner d o s j t → IfSome t (IsTableOf (rates_of d) s.repetitions j)
table_suits One d o s j t is = subst (λ x. IfSome x (IsTableOf (rates_of d) s.repetitions j)) (sym is) tt
table_suits Rows d o s j (Some t) is = table_of d o s j t is
table_suits Rows d o s j None is = absurd is
table_suits Rings d o s j (Some t) is = table_of d o s j t is.0
table_suits Rings d o s j None is = absurd is

homes_suit : (runner : Runner) (d : DesignValue) (o : Options) (s : Schedule) (j : ℕ) (t : Option TableValue) →
    IsTableFor runner d o s j t → IfSome t (SuitsRunner runner)
homes_suit One d o s j t is = subst (λ x. IfSome x (SuitsRunner One)) (sym is) tt
homes_suit Rows d o s j (Some t) is = tt
homes_suit Rows d o s j None is = absurd is
homes_suit Rings d o s j (Some t) is = is.1
homes_suit Rings d o s j None is = absurd is

pub suits_of : (d : DesignValue) (o : Options) (r : Result PlanValue Fault) →
    MatchResult r (IsPlanOf d o) (IsPlanFault d o) → IfOk r (Suits d.net)
suits_of d o (Ok p) is = record {
  period = is.schedule.period;
  table = table_suits o.runner d o p.period p.blocking p.table is.by_placement;
  homes = subst (λ r. IfSome p.table (SuitsRunner r)) (sym is.same_runner)
      (homes_suit o.runner d o p.period p.blocking p.table is.by_placement);
  patience = subst (λ r. HasPatience r p.patience) (sym is.same_runner)
      (subst (HasPatience o.runner) (sym is.same_patience) is.options.patience);
}
suits_of d o (Err f) is = tt
