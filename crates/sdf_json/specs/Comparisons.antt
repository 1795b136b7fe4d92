-- The line that the command `analyze --compare --json` prints.
use Rattle.std.specs.Prelude.{ℕ, List, [], ◌∷◌, ◌++◌, map, codes}
use Rattle.serde_json.specs.Data.{Data}
use Rattle.sdf_options.specs.declared.options.Options.{Options}
use Rattle.sdf_file.specs.Designs.{DesignValue}
use Rattle.sdf_analyze.specs.declared.columns.Measures.{Measures}
use Rattle.sdf_analyze.specs.declared.columns.Outcome.{Outcome}
use Rattle.sdf_analyze.specs.declared.columns.Outcome.TheVariants.{Made, Refused}
use Rattle.sdf_analyze.specs.declared.columns.Entry.{Entry}
use Rattle.sdf_analyze.specs.Comparisons.{AreCompared}
use Rattle.sdf_json.specs.Values.{natural, object_of, list_of, IsLineOf}
use Rattle.sdf_json.specs.Schedules.{options_of}

-- the compared values of a schedule, with the periods of its block
abbrev pub measures_of : Measures → List (List ℕ × Data)
measures_of m =
    (codes "blocking", natural m.blocking) ∷ (codes "makespan", natural m.makespan)
    ∷ (codes "speedup_hundredths", natural m.speedup) ∷ (codes "rows", natural m.rows)
    ∷ (codes "samples", natural m.held) ∷ []

-- the compared values, or the number of the fault if there is no schedule
abbrev pub outcome_of : Outcome → List (List ℕ × Data)
outcome_of (Made m) = measures_of m
outcome_of (Refused number) = (codes "fault", natural number) ∷ []

-- the options that a schedule was asked for with, and its outcome
abbrev pub entry_value : Entry → Data
entry_value e = object_of (options_of e.options ++ outcome_of e.outcome)

abbrev pub comparison_value : List Entry → Data
comparison_value entries = list_of (map entry_value entries)

-- the text of the schedules that are compared, in their order
pub record IsComparisonJson (d : DesignValue) (o : Options) (text : List ℕ) : Type 0 where
  pub entries : List Entry
  pub comparison_entries : AreCompared d o entries
  pub is : IsLineOf (comparison_value entries) text
