-- A table by a placement that looks at no order, and what is compared of it, is one for all policies.
use Rattle.std.proofs.Common.{◌≡◌, ◌≢◌, ℕ, List, slice_index, refl, sym, subst}
use Rattle.std.specs.List.{All, Contains}
use Rattle.sdf_graph.specs.Rates.{Rates, rates}
use Rattle.sdf_graph.proofs.Theorems.{one_least_period}
use Rattle.sdf_actor.specs.Graphs.{graph_of}
use Rattle.sdf_kit.specs.Kit.{kit_steps}
use Rattle.sdf_sched.specs.Period.{Schedule}
use Rattle.sdf_prec.specs.declared.fault.PrecFault.{PrecFault}
use Rattle.sdf_prec.specs.Tables.{TableValue}
use Rattle.sdf_file.specs.Designs.{DesignValue}
use Rattle.sdf_options.specs.declared.options.Options.{Options}
use Rattle.sdf_options.specs.declared.options.Placement.{Placement}
use Rattle.sdf_options.specs.declared.options.Placement.TheVariants.{Hu, Homed, File, Spread}
use Rattle.sdf_options.specs.declared.options.Policy.{Policy}
use Rattle.sdf_options.specs.declared.options.Policy.TheVariants.{Round, Lean, Runs}
use Rattle.sdf_plan.specs.Placements.{ArePeriodsBy, IsPlaced, IsPlaceFault}
use Rattle.sdf_plan.specs.Plans.{IsScheduleBy, IsUnplaced}
use Rattle.sdf_analyze.specs.declared.columns.Entry.{Entry}
use Rattle.sdf_analyze.specs.declared.columns.Outcome.{Outcome}
use Rattle.sdf_analyze.specs.declared.columns.Outcome.TheVariants.{Made, Refused}
use Rattle.sdf_analyze.specs.declared.periods.Periods.{Periods}
use Rattle.sdf_analyze.specs.Figures.{FiguresValue, AreFigures}
use Rattle.sdf_analyze.specs.Analyses.{IsAnalysisOf}
use Rattle.sdf_analyze.specs.Comparisons.{IsOutcome}
use Rattle.sdf_analyze.specs.Periods.{period_in, AreByPolicies}
use Rattle.sdf_analyze.specs.Sharing.{ShareTable}

pub by_policy : (d : DesignValue) (p : Periods) (policy : Policy) → AreByPolicies d p →
    IsScheduleBy policy (graph_of kit_steps d.net) (period_in p policy)
by_policy d p Round are = are.round
by_policy d p Lean are = are.lean
by_policy d p Runs are = are.runs

-- a period with as many firings of each actor, in an order of its own
abbrev reordered : Schedule → List ℕ → Schedule
reordered s order = record { order = order; repetitions = s.repetitions }

periods_stay : (placement : Placement) (d : DesignValue) (asked : ℕ) (s : Schedule) (order : List ℕ) (j : ℕ) →
    ArePeriodsBy placement d asked s j → ArePeriodsBy placement d asked (reordered s order) j
periods_stay Hu d asked s order j is = is
periods_stay Homed d asked s order j is = is
periods_stay File d asked s order j is = is
periods_stay Spread d asked s order j is = is

table_stays : (placement : Placement) (policy other : Policy) (d : DesignValue) (j m : ℕ) (s : Schedule)
    (order : List ℕ) (t : TableValue) → placement ≢ File → IsPlaced placement policy d j m s t →
    IsPlaced placement other d j m (reordered s order) t
table_stays Hu policy other d j m s order t some is = is
table_stays Homed policy other d j m s order t some is = is
table_stays File policy other d j m s order t some is = absurd (some refl)
table_stays Spread policy other d j m s order t some is = is

fault_stays : (placement : Placement) (d : DesignValue) (j m : ℕ) (s : Schedule) (order : List ℕ) (f : PrecFault) →
    IsPlaceFault placement d j m s f → IsPlaceFault placement d j m (reordered s order) f
fault_stays Hu d j m s order f is = is
fault_stays Homed d j m s order f is = is
fault_stays File d j m s order f is = is
fault_stays Spread d j m s order f is = is

figures_stay : (r : Rates) (cost : ℕ → ℕ) (j m : ℕ) (s : Schedule) (order : List ℕ) (t : TableValue)
    (f : FiguresValue) →
    AreFigures r cost j m s t f → AreFigures r cost j m (reordered s order) t f
figures_stay r cost j m s order t f are = record {
  starts = are.starts;
  has = are.has;
  makespan = are.makespan;
  work = are.work;
  span = are.span;
  bound = are.bound;
  columns = are.columns;
  loads = are.loads;
  held = are.held;
}

module _ (d : DesignValue) (o : Options) (other : Policy) (s : Schedule)
    (design_schedule : IsScheduleBy other (graph_of kit_steps d.net) s) where
  abbrev by_other : Options
  by_other = record o { policy = other }

  -- a period by one policy has as many firings of each actor as that by another
  as_often : (policy : Policy) (period : Schedule) → IsScheduleBy policy (graph_of kit_steps d.net) period →
      IsScheduleBy other (graph_of kit_steps d.net) (reordered period s.order)
  as_often policy period is =
      subst (λ q. IsScheduleBy other (graph_of kit_steps d.net) (record { order = s.order; repetitions = q }))
      (one_least_period (rates (graph_of kit_steps d.net)) s.repetitions period.repetitions design_schedule.period.least
      is.period.least)
      design_schedule

  analysis_of : (periods : ℕ) (t : TableValue) (f : FiguresValue) → o.placement ≢ File → IsAnalysisOf d o periods t f →
      IsAnalysisOf d by_other periods t f
  analysis_of periods t f some is = record {
    period = reordered is.period s.order;
    design_schedule = record {
      sizes = is.design_schedule.sizes;
      by_policy = as_often o.policy is.period is.design_schedule.by_policy;
      blocking = periods_stay o.placement d o.blocking is.period s.order periods is.design_schedule.blocking;
      by_placement = record {
        size = is.design_schedule.by_placement.size;
        placed = table_stays o.placement o.policy other d periods o.workers is.period s.order t some
            is.design_schedule.by_placement.placed;
      };
    };
    are = figures_stay (rates (graph_of kit_steps d.net)) (slice_index d.costs) periods o.workers is.period s.order t f
        is.are;
  }

  unplaced : (f : PrecFault) → IsUnplaced d o f → IsUnplaced d by_other f
  unplaced f is = record {
    sizes = is.sizes;
    period = reordered is.period s.order;
    by_policy = as_often o.policy is.period is.by_policy;
    periods = is.periods;
    blocking = periods_stay o.placement d o.blocking is.period s.order is.periods is.blocking;
    fault = fault_stays o.placement d is.periods o.workers is.period s.order f is.fault;
    no_memory = is.no_memory;
  }

  outcome_stays : (w : Outcome) → o.placement ≢ File → IsOutcome d o w → IsOutcome d by_other w
  outcome_stays (Made m) some is = record {
    periods = is.periods;
    table = is.table;
    figures = is.figures;
    analysis_of = analysis_of is.periods is.table is.figures some is.analysis_of;
    is = is.is;
  }
  outcome_stays (Refused number) some is = record {
    fault = is.fault;
    why = unplaced is.fault is.why;
    is = is.is;
  }

-- so options share the outcome of an entry with which they share the table
pub shared_outcome : (d : DesignValue) (entries : List Entry) (o : Options) (s : Schedule)
    (w : Outcome) → All (λ (e : Entry). IsOutcome d e.options e.outcome) entries →
    IsScheduleBy o.policy (graph_of kit_steps d.net) s →
    (e : Entry) × Contains entries e × ShareTable e.options o × (w ≡ e.outcome) → IsOutcome d o w
shared_outcome d entries o s w each design_schedule found =
    let e : Entry = found.0 in
    let known : IsOutcome d e.options e.outcome =
    subst (λ (x : Entry). IsOutcome d x.options x.outcome) found.1.2 (each found.1.0 e found.1.1) in
    subst (λ x. IsOutcome d x w) (sym found.2.same)
    (subst (λ x. IsOutcome d (record (e.options) { policy = o.policy }) x) (sym found.3)
    (outcome_stays d e.options o.policy s design_schedule e.outcome found.2.placement known))
