-- The line that the command `analyze --json` prints.
use Rattle.std.specs.Prelude.{ℕ, List, [], ◌∷◌, ◌++◌, length, map, codes}
use Rattle.serde_json.specs.Data.{Data}
use Rattle.sdf_prec.specs.Tables.{TableValue}
use Rattle.sdf_options.specs.declared.options.Options.{Options}
use Rattle.sdf_file.specs.Designs.{DesignValue}
use Rattle.sdf_analyze.specs.Figures.{FiguresValue}
use Rattle.sdf_analyze.specs.Analyses.{IsAnalysisOf}
use Rattle.sdf_analyze.specs.Texts.{hundredths}
use Rattle.sdf_json.specs.Values.{natural, object_of, list_of, each_to, IsLineOf}
use Rattle.sdf_json.specs.Tables.{capacity_value}
use Rattle.sdf_json.specs.Schedules.{options_of}

-- the speedup is the work over the makespan, in hundredths
abbrev pub times_of : FiguresValue → List (List ℕ × Data)
times_of f =
    (codes "makespan", natural f.makespan) ∷ (codes "work", natural f.work) ∷ (codes "span", natural f.span)
    ∷ (codes "bound", natural f.bound) ∷ (codes "speedup_hundredths", natural (hundredths f.work f.makespan)) ∷ []

-- the options, the times, the load of each worker, the sum of the links' capacities, and the links in file order
abbrev pub analysis_value : DesignValue → Options → TableValue → FiguresValue → Data
analysis_value d o t f = object_of (options_of o ++ times_of f ++
    (codes "loads", list_of (map natural f.loads))
    ∷ (codes "samples", natural f.held)
    ∷ (codes "links", list_of (each_to (capacity_value d t.caps) (length d.net.wires)))
    ∷ [])

-- the text of the figures of the table that options o give design d
pub record IsAnalysisJson (d : DesignValue) (o : Options) (text : List ℕ) : Type 0 where
  pub periods : ℕ
  pub table : TableValue
  pub figures : FiguresValue
  pub analysis_of : IsAnalysisOf d o periods table figures
  pub is : IsLineOf (analysis_value d (record o { blocking = periods }) table figures) text
