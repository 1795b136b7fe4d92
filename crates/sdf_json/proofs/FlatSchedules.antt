-- The values of a schedule, of an analysis and of a comparison do not nest deep.
use Rattle.std.proofs.Common.{◌≤◌, ℕ, List, [], ◌∷◌, ◌++◌, map, length, arith}
use Rattle.std.specs.Prelude.{codes}
use Rattle.std.specs.List.{AllByRecursion}
use Rattle.serde_json.specs.Data.{Data, depth}
use Rattle.serde_json.specs.Read.{max_depth}
use Rattle.sdf_sched.specs.Period.{Schedule}
use Rattle.sdf_prec.specs.Tables.{TableValue}
use Rattle.sdf_options.specs.declared.options.Options.{Options}
use Rattle.sdf_file.specs.Designs.{DesignValue}
use Rattle.sdf_analyze.specs.Figures.{FiguresValue}
use Rattle.sdf_analyze.specs.declared.columns.Outcome.{Outcome}
use Rattle.sdf_analyze.specs.declared.columns.Outcome.TheVariants.{Made, Refused}
use Rattle.sdf_analyze.specs.declared.columns.Entry.{Entry}
use Rattle.sdf_json.specs.Values.{natural, list_of, each_to}
use Rattle.sdf_json.specs.Schedules.{options_of, schedule_value}
use Rattle.sdf_json.specs.Analyses.{times_of, analysis_value}
use Rattle.sdf_json.specs.Comparisons.{outcome_of, entry_value, comparison_value}
use Rattle.sdf_json.specs.Tables.{order_value, row_value, homed_value, capacity_value}
use Rattle.sdf_json.proofs.Depths.{IsFlat, map_flat}
use Rattle.sdf_json.proofs.FlatDesigns.{object_flat, weaker}
use Rattle.sdf_json.proofs.FlatTables.{order_flat, rows_flat, actors_flat, links_flat}

abbrev pub AreFlat : List (List ℕ × Data) → Type 0
AreFlat ms = AllByRecursion (λ (m : List ℕ × Data). IsFlat 3 m.1) ms

both_flat : (ms more : List (List ℕ × Data)) → AreFlat ms → AreFlat more → AreFlat (ms ++ more)
both_flat [] more first second = second
both_flat (m ∷ ms) more first second = (first.0, both_flat ms more first.1 second)

asked_flat : (o : Options) → AreFlat (options_of o)
asked_flat o = (omega arith, (omega arith, (omega arith, (omega arith, tt))))

pub schedule_flat : (d : DesignValue) (o : Options) (s : Schedule) (t : TableValue) →
    depth (schedule_value d o s t) ≤ max_depth
schedule_flat d o s t =
    let actors = list_of (each_to (homed_value d s t) (length d.net.nodes)) in
    let order = order_value d s.order in
    let rows = list_of (map (row_value d) t.rows) in
    let links = list_of (each_to (capacity_value d t.caps) (length d.net.wires)) in
    let more : List (List ℕ × Data) = (codes "period", natural (length s.order)) ∷ (codes "actors", actors)
    ∷ (codes "order", order) ∷ (codes "rows", rows) ∷ (codes "links", links) ∷ [] in
    let each : AreFlat more = (
      omega arith,
      (
        weaker 2 3 actors (omega arith) (actors_flat d s t (length d.net.nodes)),
        (
          weaker 2 3 order (omega arith) (order_flat d s.order),
          (
            rows_flat d t.rows,
            (links_flat d t.caps (length d.net.wires), tt),
          ),
        ),
      ),
    ) in
    let flat = object_flat 3 (options_of o ++ more) (both_flat (options_of o) more (asked_flat o) each) in
    omega (arith, flat)

times_flat : (f : FiguresValue) → AreFlat (times_of f)
times_flat f = (omega arith, (omega arith, (omega arith, (omega arith, (omega arith, tt)))))

pub analysis_flat : (d : DesignValue) (o : Options) (t : TableValue) (f : FiguresValue) →
    depth (analysis_value d o t f) ≤ max_depth
analysis_flat d o t f =
    let loads = list_of (map natural f.loads) in
    let links = list_of (each_to (capacity_value d t.caps) (length d.net.wires)) in
    let each = map_flat 0 natural f.loads (λ n. omega arith) in
    let more : List (List ℕ × Data) = (codes "loads", loads) ∷ (codes "samples", natural f.held)
    ∷ (codes "links", links) ∷ [] in
    let last : AreFlat more = (omega (arith, each), (omega arith, (links_flat d t.caps (length d.net.wires), tt))) in
    let flat = object_flat 3 (options_of o ++ times_of f ++ more)
    (both_flat (options_of o) (times_of f ++ more) (asked_flat o)
    (both_flat (times_of f) more (times_flat f) last)) in
    omega (arith, flat)

outcome_flat : (o : Outcome) → AreFlat (outcome_of o)
outcome_flat (Made m) = (omega arith, (omega arith, (omega arith, (omega arith, (omega arith, tt)))))
outcome_flat (Refused number) = (omega arith, tt)

entry_flat : (e : Entry) → IsFlat 4 (entry_value e)
entry_flat e =
    object_flat 3 (options_of e.options ++ outcome_of e.outcome)
    (both_flat (options_of e.options) (outcome_of e.outcome)
    (asked_flat e.options) (outcome_flat e.outcome))

pub comparison_flat : (entries : List Entry) → depth (comparison_value entries) ≤ max_depth
comparison_flat entries = let each = map_flat 4 entry_value entries entry_flat in omega (arith, each)
