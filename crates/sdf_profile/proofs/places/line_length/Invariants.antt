use Rattle.std.proofs.Common.{◌≡◌, ◌+◌, drop}
use Rattle.sdf_profile.specs.Places.{line_length}
use Rattle.sdf_profile.proofs.places.line_length.Given as goal

abbrev pub invariant-loop-place : goal.invariant-loop-place
invariant-loop-place l = line_length l.text ≡ l.place + line_length (drop l.place l.text)
