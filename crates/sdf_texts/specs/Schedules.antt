-- The text of a schedule: one period's order of firings, and a table of a block. Also what the command `schedule`
-- prints.
use Rattle.std.specs.Prelude.{◌≡◌, ℕ, ◌+◌, ◌/◌, List, [], ◌∷◌, ◌++◌, ◌==◌, if◌then◌else◌, length, codes, decimal}
use Rattle.std.specs.Prelude.{slice_index, slice_index_or, Option, Some, None}
use Rattle.std.specs.List.{flat_map, range_with_len}
use Rattle.sdf_graph.specs.Rates.{rates}
use Rattle.sdf_graph.specs.Periods.{IsLeastPeriod}
use Rattle.sdf_actor.specs.Graphs.{graph_of}
use Rattle.sdf_actor.specs.Nets.{wire}
use Rattle.sdf_kit.specs.Kit.{kit_steps}
use Rattle.sdf_sched.specs.Period.{Schedule}
use Rattle.sdf_prec.specs.declared.firing.Firing.{Firing}
use Rattle.sdf_prec.specs.Tables.{TableValue, row}
use Rattle.sdf_file.specs.Designs.{DesignValue}
use Rattle.sdf_options.specs.declared.options.Options.{Options}
use Rattle.sdf_plan.specs.Schedules.{IsDesignSchedule}
use Rattle.sdf_texts.specs.Texts.{end, period_text}

-- a number of firings of one actor, one after another
pub record Stretch : Type 0 where
  pub actor : ℕ
  pub firings : ℕ

-- the stretches of an order, with one more firing of actor a in front
abbrev pub with_firing : ℕ → List Stretch → List Stretch
with_firing a [] = record { actor = a; firings = 1 } ∷ []
with_firing a (s ∷ ss) =
    if a == s.actor then record { actor = a; firings = s.firings + 1 }
    ∷ ss else record { actor = a; firings = 1 } ∷ s ∷ ss

-- the longest stretches of an order of firings
abbrev pub stretches : List ℕ → List Stretch
stretches [] = []
stretches (a ∷ order) = with_firing a (stretches order)

abbrev pub name_of : DesignValue → ℕ → List ℕ
name_of d a = slice_index_or d.names a []

-- the actor's name, behind the number of its firings if that is not 1
abbrev pub stretch_text : DesignValue → Stretch → List ℕ
stretch_text d s = (if s.firings == 1 then [] else (decimal s.firings ++ codes "*")) ++ name_of d s.actor

-- the items of an order
abbrev pub order_items : DesignValue → List ℕ → List ℕ
order_items d order = flat_map (λ s. codes " " ++ stretch_text d s) (stretches order)

abbrev pub order_line : DesignValue → List ℕ → List ℕ
order_line d order = codes "order" ++ order_items d order ++ end

-- the text of a cell of a row: a firing, or `-` if the processor is idle
abbrev pub cell_text : DesignValue → Option Firing → List ℕ
cell_text d None = codes "-"
cell_text d (Some f) = name_of d f.actor ++ codes "." ++ decimal f.number

abbrev pub row_line : DesignValue → List (Option Firing) → List ℕ
row_line d cells = codes "row" ++ flat_map (λ cell. codes " " ++ cell_text d cell) cells ++ end

-- an end of a link: the actor's name and the port
abbrev pub end_text : DesignValue → ℕ × ℕ → List ℕ
end_text d e = name_of d e.0 ++ codes ":" ++ decimal e.1

-- the ends of link c
abbrev pub link_text : DesignValue → ℕ → List ℕ
link_text d c = end_text d (wire d.net c).from ++ codes " " ++ end_text d (wire d.net c).to

abbrev pub capacity_line : DesignValue → List ℕ → ℕ → List ℕ
capacity_line d caps c = codes "capacity " ++ link_text d c ++ codes " " ++ decimal (slice_index caps c) ++ end

-- the number of periods in a table's block, and the number of processors of its rows
abbrev pub blocking_of : List ℕ → TableValue → ℕ
blocking_of order t = length t.order / length order

abbrev pub workers_of : TableValue → ℕ
workers_of t = length (row t.rows 0)

-- the sizes of a table
abbrev pub size_lines : List ℕ → TableValue → List ℕ
size_lines order t =
    codes "blocking " ++ decimal (blocking_of order t) ++ end
    ++ codes "workers " ++ decimal (workers_of t) ++ end
    ++ codes "rows " ++ decimal (length t.rows) ++ end

-- a table: its sizes, its rows, and the capacities of the links in file order
abbrev pub table_text : DesignValue → List ℕ → TableValue → List ℕ
table_text d order t =
    size_lines order t ++ flat_map (row_line d) t.rows
    ++ flat_map (capacity_line d t.caps) (range_with_len 0 (length d.net.wires))

-- what `schedule` prints of a design with repetition vector q, this order of a period's firings, and this table
abbrev pub schedule_text : DesignValue → List ℕ → List ℕ → TableValue → List ℕ
schedule_text d q order t = period_text d q ++ order_line d order ++ table_text d order t

-- the text of a schedule, by the least repetition vector of its design
pub record IsScheduleText (d : DesignValue) (order : List ℕ) (t : TableValue) (text : List ℕ) : Type 0 where
  pub period : List ℕ
  pub least : IsLeastPeriod (rates (graph_of kit_steps d.net)) period
  pub is : text ≡ schedule_text d period order t

-- the text of a schedule by the options
pub record IsShown (d : DesignValue) (o : Options) (text : List ℕ) : Type 0 where
  pub period : Schedule
  pub periods : ℕ
  pub table : TableValue
  pub design_schedule : IsDesignSchedule d o periods period table
  pub is : IsScheduleText d period.order table text
