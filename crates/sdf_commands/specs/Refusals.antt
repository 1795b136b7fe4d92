-- The lines that explain the fault numbers in a comparison of schedules.
use Rattle.std.specs.Prelude.{◌≡◌, ℕ, ◌-◌, ◌+◌, ◌==◌, Bool, false, List, [], ◌++◌, if◌then◌else◌, get_or, codes}
use Rattle.std.specs.Prelude.{decimal}
use Rattle.std.specs.List.{flat_map, list_any, range_with_len}
use Rattle.sdf_file.specs.Designs.{DesignValue}
use Rattle.sdf_options.specs.declared.options.Options.{Options}
use Rattle.sdf_cli.specs.declared.requests.TheConstants.{MAX_FAULT}
use Rattle.sdf_cli.specs.Names.{names}
use Rattle.sdf_analyze.specs.declared.columns.Outcome.{Outcome}
use Rattle.sdf_analyze.specs.declared.columns.Outcome.TheVariants.{Made, Refused}
use Rattle.sdf_analyze.specs.declared.columns.Entry.{Entry}
use Rattle.sdf_analyze.specs.Columns.{comparison_text}
use Rattle.sdf_analyze.specs.Comparisons.{AreCompared}

-- the schedule is refused by the fault of this number
abbrev pub is_by : ℕ → Outcome → Bool
is_by number (Made measures) = false
is_by number (Refused other) = other == number

-- one of the schedules is refused by the fault of this number
abbrev pub is_refused : List Entry → ℕ → Bool
is_refused entries number = list_any (λ (e : Entry). is_by number e.outcome) entries

-- the command that explains the fault of this number
unfoldable pub pointer : ℕ → List ℕ
pointer number = codes "sdfw explain " ++ decimal number ++ codes " says what to do\n"

-- the number and the name of the fault, and the command that explains it
unfoldable pub refusal_line : ℕ → List ℕ → List ℕ
refusal_line number name = codes "  " ++ decimal number ++ codes " is " ++ name ++ codes ": " ++ pointer number

unfoldable pub refusal_of : List Entry → ℕ → List ℕ
refusal_of entries number =
    if is_refused entries number then refusal_line number (get_or names (number - 1) []) else []

-- a line for each fault that refuses a schedule, by its number
abbrev pub refusals_text : List Entry → List ℕ
refusals_text entries = flat_map (λ before. refusal_of entries (before + 1)) (range_with_len 0 MAX_FAULT)

-- the table of the compared schedules, and the lines that explain the fault numbers in it
pub record IsExplainedComparison (d : DesignValue) (o : Options) (table refusals : List ℕ) : Type 0 where
  pub entries : List Entry
  pub comparison_entries : AreCompared d o entries
  pub table_is : table ≡ comparison_text entries
  pub refusals_are : refusals ≡ refusals_text entries
