use Rattle.std.proofs.Common.{◌≡◌, length}
use Rattle.sdf_filters.specs.WideConverters.{AreMade}
use Rattle.sdf_filters.proofs.wide_converter.all_made.Given as goal

abbrev pub invariant-loop-place : goal.invariant-loop-place
invariant-loop-place l =
    (length l.wides.items ≡ l.place) × AreMade l.stages l.place l.wides.items l.files.items l.late
