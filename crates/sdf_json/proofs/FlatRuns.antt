-- The value of a run does not nest deep.
use Rattle.std.proofs.Common.{◌≡◌, ◌≤◌, List, [], ◌∷◌, map, arith}
use Rattle.std.specs.Prelude.{codes}
use Rattle.serde_json.specs.Data.{Data, no_members, depth}
use Rattle.serde_json.specs.Read.{max_depth}
use Rattle.sdf_json.specs.declared.runs.OutputLevels.{OutputLevels}
use Rattle.sdf_json.specs.Values.{natural, list_of}
use Rattle.sdf_json.specs.Runs.{output_value, run_value}
use Rattle.sdf_json.proofs.Depths.{IsFlat, with_flat, map_flat}

output_flat : (o : OutputLevels) → IsFlat 1 (output_value o)
output_flat o =
    let inner = with_flat 0 no_members ((codes "frames", natural o.frames) ∷ (codes "peak", natural o.peak)
    ∷ (codes "full_scale", natural o.full_scale) ∷ []) (omega arith)
    (omega arith, (omega arith, (omega arith, tt))) in
    omega (arith, inner)

pub run_flat : (outputs : List OutputLevels) → depth (run_value outputs) ≤ max_depth
run_flat outputs =
    let each = map_flat 1 output_value outputs output_flat in
    let inner = with_flat 2 no_members ((codes "outputs", list_of (map output_value outputs)) ∷ []) (omega arith)
    (omega (arith, each), tt) in
    omega (arith, inner)
