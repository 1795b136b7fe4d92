use Rattle.std.proofs.Common.{◌≡◌, length}
use Rattle.sdf_filters.specs.Converters.{rate_at, AreFilesTo}
use Rattle.sdf_filters.proofs.converter.stage_files.Given as goal

abbrev pub invariant-loop-place : goal.invariant-loop-place
invariant-loop-place l =
    (length l.files.items ≡ l.place) × ((l.rate ≡ rate_at l.from l.stages l.place) ×
    AreFilesTo l.from l.pass l.attenuation l.stages l.files.items l.place)
