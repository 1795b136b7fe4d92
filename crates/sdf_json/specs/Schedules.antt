-- The line that the command `schedule --json` prints.
use Rattle.std.specs.Prelude.{ℕ, List, [], ◌∷◌, ◌++◌, length, map, codes}
use Rattle.serde_json.specs.Data.{Data, string}
use Rattle.sdf_sched.specs.Period.{Schedule}
use Rattle.sdf_prec.specs.Tables.{TableValue}
use Rattle.sdf_options.specs.declared.options.Options.{Options}
use Rattle.sdf_file.specs.Designs.{DesignValue}
use Rattle.sdf_plan.specs.Schedules.{IsDesignSchedule}
use Rattle.sdf_options.specs.Words.{policy_word, placement_word}
use Rattle.sdf_json.specs.Values.{natural, object_of, list_of, each_to, IsLineOf}
use Rattle.sdf_json.specs.Tables.{order_value, row_value, homed_value, capacity_value}

-- the options that a schedule was asked for with; an analysis or a schedule sets blocking to the periods of its block
abbrev pub options_of : Options → List (List ℕ × Data)
options_of o =
    (codes "policy", string (policy_word o.policy)) ∷ (codes "placement", string (placement_word o.placement))
    ∷ (codes "blocking", natural o.blocking) ∷ (codes "workers", natural o.workers) ∷ []

-- the period and the table of a design
abbrev pub schedule_value : DesignValue → Options → Schedule → TableValue → Data
schedule_value d o s t = object_of (options_of o ++
    (codes "period", natural (length s.order))
    ∷ (codes "actors", list_of (each_to (homed_value d s t) (length d.net.nodes)))
    ∷ (codes "order", order_value d s.order)
    ∷ (codes "rows", list_of (map (row_value d) t.rows))
    ∷ (codes "links", list_of (each_to (capacity_value d t.caps) (length d.net.wires)))
    ∷ [])

-- the text of the period and the table that options o give design d
pub record IsScheduleJson (d : DesignValue) (o : Options) (text : List ℕ) : Type 0 where
  pub period : Schedule
  pub periods : ℕ
  pub table : TableValue
  pub design_schedule : IsDesignSchedule d o periods period table
  pub is : IsLineOf (schedule_value d (record o { blocking = periods }) period table) text
