-- The values of schedules and of analyses do not nest deep.
use Rattle.std.proofs.Common.{ℕ, List, Option, Some, None, [], ◌∷◌, ◌++◌, map, arith}
use Rattle.std.specs.Prelude.{codes, slice_index}
use Rattle.serde_json.specs.Data.{string}
use Rattle.sdf_sched.specs.Period.{Schedule}
use Rattle.sdf_prec.specs.declared.firing.Firing.{Firing}
use Rattle.sdf_prec.specs.Tables.{TableValue, home_in}
use Rattle.sdf_file.specs.Designs.{DesignValue}
use Rattle.sdf_texts.specs.Schedules.{Stretch, stretches, name_of}
use Rattle.sdf_json.specs.Values.{natural, or_null, list_of, each_to}
use Rattle.sdf_json.specs.Designs.{ends_of}
use Rattle.sdf_json.specs.Tables.{stretch_value, order_value, cell_value, row_value, homed_value, capacity_value}
use Rattle.sdf_json.proofs.Depths.{IsFlat, map_flat, perhaps_flat}
use Rattle.sdf_json.proofs.FlatDesigns.{object_flat, ends_each, list_flat}

stretch_flat : (d : DesignValue) (s : Stretch) → IsFlat 1 (stretch_value d s)
stretch_flat d s =
    object_flat 0 ((codes "actor", string (name_of d s.actor)) ∷ (codes "firings", natural s.firings) ∷ [])
    (omega arith, (omega arith, tt))

pub order_flat : (d : DesignValue) (order : List ℕ) → IsFlat 2 (order_value d order)
order_flat d order = let each = map_flat 1 (stretch_value d) (stretches order) (stretch_flat d) in omega (arith, each)

cell_flat : (d : DesignValue) (cell : Option Firing) → IsFlat 1 (cell_value d cell)
cell_flat d None = omega arith
cell_flat d (Some f) =
    object_flat 0 ((codes "actor", string (name_of d f.actor)) ∷ (codes "firing", natural f.number) ∷ [])
    (omega arith, (omega arith, tt))

row_flat : (d : DesignValue) (cells : List (Option Firing)) → IsFlat 2 (row_value d cells)
row_flat d cells = let each = map_flat 1 (cell_value d) cells (cell_flat d) in omega (arith, each)

pub rows_flat : (d : DesignValue) (rows : List (List (Option Firing))) → IsFlat 3 (list_of (map (row_value d) rows))
rows_flat d rows = let each = map_flat 2 (row_value d) rows (row_flat d) in omega (arith, each)

homed_flat : (d : DesignValue) (s : Schedule) (t : TableValue) (a : ℕ) → IsFlat 1 (homed_value d s t a)
homed_flat d s t a =
    object_flat 0 ((codes "name", string (name_of d a)) ∷ (codes "firings", natural (slice_index s.repetitions a))
    ∷ (codes "worker", or_null (home_in t a)) ∷ []) (omega arith, (omega arith, (perhaps_flat 0 (home_in t a), tt)))

pub actors_flat : (d : DesignValue) (s : Schedule) (t : TableValue) (n : ℕ) →
    IsFlat 2 (list_of (each_to (homed_value d s t) n))
actors_flat d s t n = list_flat 1 (homed_value d s t) n (homed_flat d s t)

capacity_flat : (d : DesignValue) (caps : List ℕ) (c : ℕ) → IsFlat 2 (capacity_value d caps c)
capacity_flat d caps c =
    let ends = ends_each d c in
    object_flat 1 (ends_of d c ++ (codes "capacity", natural (slice_index caps c)) ∷ [])
    (ends.0, (ends.1.0, (omega arith, tt)))

pub links_flat : (d : DesignValue) (caps : List ℕ) (n : ℕ) → IsFlat 3 (list_of (each_to (capacity_value d caps) n))
links_flat d caps n = list_flat 2 (capacity_value d caps) n (capacity_flat d caps)
