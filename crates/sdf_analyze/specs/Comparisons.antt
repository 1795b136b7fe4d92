-- The text that the command `analyze --compare` prints.
use Rattle.std.specs.Prelude.{◌≡◌, ℕ, List, length, map}
use Rattle.std.specs.List.{All}
use Rattle.sdf_prec.specs.Tables.{TableValue}
use Rattle.sdf_prec.specs.declared.fault.PrecFault.{PrecFault}
use Rattle.sdf_prec.specs.declared.fault.PrecFault.TheVariants as prec
use Rattle.sdf_file.specs.Designs.{DesignValue}
use Rattle.sdf_options.specs.declared.options.Options.{Options}
use Rattle.sdf_plan.specs.Plans.{IsUnplaced}
use Rattle.sdf_analyze.specs.declared.columns.Measures.{Measures}
use Rattle.sdf_analyze.specs.declared.columns.Outcome.{Outcome}
use Rattle.sdf_analyze.specs.declared.columns.Outcome.TheVariants.{Made, Refused}
use Rattle.sdf_analyze.specs.declared.columns.Entry.{Entry}
use Rattle.sdf_analyze.specs.Figures.{FiguresValue}
use Rattle.sdf_analyze.specs.Texts.{hundredths}
use Rattle.sdf_analyze.specs.Analyses.{IsAnalysisOf}
use Rattle.sdf_analyze.specs.Ways.{ways}
use Rattle.sdf_analyze.specs.Columns.{comparison_text}

-- the compared values of a table and its figures, for a block of this many periods
abbrev pub measures_of : ℕ → TableValue → FiguresValue → Measures
measures_of periods t f = record {
  blocking = periods;
  makespan = f.makespan;
  speedup = hundredths f.work f.makespan;
  rows = length t.rows;
  held = f.held;
}

-- the number that the text of a fault begins with
abbrev pub number_of : PrecFault → ℕ
number_of prec.OutOfMemory = 1
number_of prec.BlockingFactor = 11
number_of prec.WorkerCount = 12
number_of prec.BlockTooLong = 13
number_of (prec.FiringMissing firing) = 14
number_of (prec.FiringTwice row firing) = 15
number_of (prec.FiringUnknown row firing) = 16
number_of (prec.RowTooWide row) = 17
number_of (prec.TooEarly row firing needs) = 18
number_of (prec.BadHome actor) = 19
number_of (prec.BadCost actor) = 62

-- the measures of the table that the options give
pub record IsMade (d : DesignValue) (o : Options) (m : Measures) : Type 0 where
  pub periods : ℕ
  pub table : TableValue
  pub figures : FiguresValue
  pub analysis_of : IsAnalysisOf d o periods table figures
  pub is : m ≡ measures_of periods table figures

-- the options give no table, but a fault with this number
pub record IsRefused (d : DesignValue) (o : Options) (number : ℕ) : Type 0 where
  pub fault : PrecFault
  pub why : IsUnplaced d o fault
  pub is : number ≡ number_of fault

abbrev pub IsOutcome : DesignValue → Options → Outcome → Type 0
IsOutcome d o (Made m) = IsMade d o m
IsOutcome d o (Refused number) = IsRefused d o number

-- the schedules that are compared, in their order, and the outcome of each
pub record AreCompared (d : DesignValue) (o : Options) (entries : List Entry) : Type 0 where
  pub ways_are : map (λ (e : Entry). e.options) entries ≡ ways o
  pub each : All (λ (e : Entry). IsOutcome d e.options e.outcome) entries

-- the text is a table with a line for each compared schedule
pub record IsComparison (d : DesignValue) (o : Options) (text : List ℕ) : Type 0 where
  pub entries : List Entry
  pub comparison_entries : AreCompared d o entries
  pub is : text ≡ comparison_text entries
