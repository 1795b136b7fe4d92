-- The columns of a comparison.
use Rattle.std.specs.Prelude.{ℕ, ◌-◌, ◌==◌, ◌&&◌, Bool, true, not, nat_lt, List, [], ◌∷◌, ◌++◌, if◌then◌else◌}
use Rattle.std.specs.Prelude.{length, replicate, codes, decimal}
use Rattle.std.specs.List.{flat_map, list_all}
use Rattle.sdf_options.specs.Words.{policy_word, placement_word}
use Rattle.sdf_texts.specs.Texts.{end}
use Rattle.sdf_analyze.specs.declared.columns.Column.{Column}
use Rattle.sdf_analyze.specs.declared.columns.Column.TheVariants.{Makespan, Speedup, Rows, Samples}
use Rattle.sdf_analyze.specs.declared.columns.Measures.{Measures}
use Rattle.sdf_analyze.specs.declared.columns.Outcome.{Outcome}
use Rattle.sdf_analyze.specs.declared.columns.Outcome.TheVariants.{Made, Refused}
use Rattle.sdf_analyze.specs.declared.columns.Entry.{Entry}
use Rattle.sdf_analyze.specs.Texts.{with_point}

abbrev pub spaces : ℕ → List ℕ
spaces n = replicate n 32

-- `left` pads a text with spaces behind it, and `right` before it; neither changes a longer text
abbrev pub left : ℕ → List ℕ → List ℕ
left width text = text ++ spaces (width - length text)

abbrev pub right : ℕ → List ℕ → List ℕ
right width text = spaces (width - length text) ++ text

-- the value of a schedule in a column
abbrev pub value_in : Column → Measures → ℕ
value_in Makespan m = m.makespan
value_in Speedup m = m.speedup
value_in Rows m = m.rows
value_in Samples m = m.held

-- a greater speedup is better; in other columns a smaller value is, if both blocks have equally many periods
abbrev pub is_better : Column → Measures → Measures → Bool
is_better Speedup a b = nat_lt b.speedup a.speedup
is_better column a b = (a.blocking == b.blocking) && nat_lt (value_in column a) (value_in column b)

-- the schedule of an outcome, if there is one, does not beat these measures
abbrev pub is_unbeaten : Column → Measures → Outcome → Bool
is_unbeaten column m (Made other) = not (is_better column other m)
is_unbeaten column m (Refused number) = true

-- no schedule beats these measures
abbrev pub is_best : List Entry → Column → Measures → Bool
is_best entries column m = list_all (λ (e : Entry). is_unbeaten column m e.outcome) entries

abbrev pub value_text : Column → Measures → List ℕ
value_text Speedup m = with_point m.speedup
value_text column m = decimal (value_in column m)

abbrev pub width_of : Column → ℕ
width_of Makespan = 13
width_of Speedup = 9
width_of Rows = 8
width_of Samples = 15

abbrev pub heading : Column → List ℕ
heading Makespan = codes "makespan"
heading Speedup = codes "speedup"
heading Rows = codes "rows"
heading Samples = codes "samples"

-- the value, after a star if no schedule has a better one
unfoldable pub cell : List Entry → Measures → Column → List ℕ
cell entries m column =
    right (width_of column) ((if is_best entries column m then codes "*" else []) ++ value_text column m)

abbrev pub columns : List Column
columns = Makespan ∷ Speedup ∷ Rows ∷ Samples ∷ []

abbrev pub cells_text : List Entry → Measures → List ℕ
cells_text entries m = flat_map (cell entries m) columns

abbrev pub blocking_text : List ℕ → List ℕ
blocking_text word = right 9 word

unfoldable pub made_text : List Entry → Measures → List ℕ
made_text entries m = blocking_text (decimal m.blocking) ++ cells_text entries m

unfoldable pub refused_text : List ℕ → ℕ → List ℕ
refused_text word number = blocking_text [] ++ right (width_of Makespan) word ++ codes " " ++ decimal number

-- the periods of a block and the columns of its schedule, or the number of the fault if there is no schedule
abbrev pub outcome_text : List Entry → Outcome → List ℕ
outcome_text entries (Made m) = made_text entries m
outcome_text entries (Refused number) = refused_text (codes "refused") number

abbrev pub way_text : List ℕ → List ℕ → List ℕ → List ℕ
way_text policy placement workers = left 7 policy ++ left 10 placement ++ right 7 workers

unfoldable pub entry_line : List Entry → Entry → List ℕ
entry_line entries e =
    way_text (policy_word e.options.policy) (placement_word e.options.placement) (decimal e.options.workers)
    ++ outcome_text entries e.outcome ++ end

abbrev pub headings_text : List ℕ
headings_text = flat_map (λ column. right (width_of column) (heading column)) columns

abbrev pub head_line : List ℕ
head_line =
    way_text (codes "policy") (codes "placement") (codes "workers") ++ blocking_text (codes "blocking")
    ++ headings_text ++ end

-- a table with a line for each schedule
abbrev pub comparison_text : List Entry → List ℕ
comparison_text entries = head_line ++ flat_map (entry_line entries) entries
