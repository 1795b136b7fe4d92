use Rattle.std.proofs.Common.{◌≡◌, ◌+◌, drop}
use Rattle.sdf_profile.specs.Places.{digits}
use Rattle.sdf_profile.proofs.places.digits.Given as goal

abbrev pub invariant-loop-place : goal.invariant-loop-place
invariant-loop-place l = digits l.text ≡ l.place + digits (drop l.place l.text)
