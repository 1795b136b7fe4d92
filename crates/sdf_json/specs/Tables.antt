-- The parts of a table, as values.
use Rattle.std.specs.Prelude.{ℕ, List, [], ◌∷◌, ◌++◌, map, codes, slice_index, Option, Some, None}
use Rattle.serde_json.specs.Data.{Data, null, string}
use Rattle.sdf_sched.specs.Period.{Schedule}
use Rattle.sdf_prec.specs.declared.firing.Firing.{Firing}
use Rattle.sdf_prec.specs.Tables.{TableValue, home_in}
use Rattle.sdf_file.specs.Designs.{DesignValue}
use Rattle.sdf_texts.specs.Schedules.{Stretch, stretches, name_of}
use Rattle.sdf_json.specs.Values.{natural, or_null, object_of, list_of}
use Rattle.sdf_json.specs.Designs.{ends_of}

-- several firings of one actor, one after another
abbrev pub stretch_value : DesignValue → Stretch → Data
stretch_value d s =
    object_of ((codes "actor", string (name_of d s.actor)) ∷ (codes "firings", natural s.firings) ∷ [])

-- an order of firings as its longest stretches
abbrev pub order_value : DesignValue → List ℕ → Data
order_value d order = list_of (map (stretch_value d) (stretches order))

-- the firing in a cell of a row, or null if the cell is empty
abbrev pub cell_value : DesignValue → Option Firing → Data
cell_value d None = null
cell_value d (Some f) =
    object_of ((codes "actor", string (name_of d f.actor)) ∷ (codes "firing", natural f.number) ∷ [])

abbrev pub row_value : DesignValue → List (Option Firing) → Data
row_value d cells = list_of (map (cell_value d) cells)

-- an actor, how often it fires in the period, and the worker of all its firings, or null
abbrev pub homed_value : DesignValue → Schedule → TableValue → ℕ → Data
homed_value d s t a = object_of (
    (codes "name", string (name_of d a)) ∷ (codes "firings", natural (slice_index s.repetitions a))
    ∷ (codes "worker", or_null (home_in t a)) ∷ [])

-- link c and the most samples that it holds
abbrev pub capacity_value : DesignValue → List ℕ → ℕ → Data
capacity_value d caps c = object_of (ends_of d c ++ (codes "capacity", natural (slice_index caps c)) ∷ [])
