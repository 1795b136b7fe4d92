use Rattle.std.proofs.Common.{◌≡◌, ◌∙◌, List, Result, Ok, Err, MatchResult, map}
use Rattle.std.specs.List.{All}
use Rattle.sdf_file.specs.Designs.{DesignValue}
use Rattle.sdf_options.specs.declared.options.Options.{Options}
use Rattle.sdf_faults.specs.declared.fault.Fault.{Fault}
use Rattle.sdf_plan.specs.Plans.{IsScheduleFault}
use Rattle.sdf_analyze.specs.declared.columns.Entry.{Entry}
use Rattle.sdf_analyze.specs.Comparisons.{AreCompared, IsOutcome}
use Rattle.sdf_analyze.specs.Ways.{ways}
use Rattle.sdf_analyze.proofs.comparison.comparison_entries.Goals as goal

compared_of : {V : Type 0} (r : Result V Fault) (items : V → List Entry) (d : DesignValue) (o : Options)
    (given : List Options) → given ≡ ways o →
    MatchResult r (λ v. (map (λ (e : Entry). e.options) (items v) ≡ given)
    × All (λ (e : Entry). IsOutcome d e.options e.outcome) (items v)) (IsScheduleFault d) →
    MatchResult r (λ v. AreCompared d o (items v)) (IsScheduleFault d)
compared_of (Ok v) items d o given same measure = record { ways_are = measure.0 ∙ same; each = measure.1 }
compared_of (Err fault) items d o given same is = is

pub returns : goal.returns
returns c =
    compared_of c.entries_of.result (λ v. v.items) c.args.design.now c.args.options.now c.deref.result.now
    (c.deref.ensures.value ∙ c.in_ok-ways.ensures) c.entries_of.ensures
