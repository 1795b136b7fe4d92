-- What a run prints as a value: the levels of its outputs.
use Rattle.std.specs.Prelude.{List, [], ◌∷◌, map, codes}
use Rattle.serde_json.specs.Data.{Data}
use Rattle.sdf_json.specs.declared.runs.OutputLevels.{OutputLevels}
use Rattle.sdf_json.specs.Values.{natural, object_of, list_of}

abbrev pub output_value : OutputLevels → Data
output_value o = object_of ((codes "frames", natural o.frames) ∷ (codes "peak", natural o.peak)
    ∷ (codes "full_scale", natural o.full_scale)
    ∷ [])

abbrev pub run_value : List OutputLevels → Data
run_value outputs = object_of ((codes "outputs", list_of (map output_value outputs)) ∷ [])
