use Rattle.std.proofs.Common.{◌≡◌, ◌+◌, length}
use Rattle.sdf_profile.specs.Places.{lines, found_in, found_view, none}
use Rattle.sdf_profile.proofs.places.places_of.Given as goal

abbrev pub invariant-lines : goal.invariant-lines
invariant-lines l = record {
  all : l.start + length l.rest ≡ length l.graph;
  same : found_in l.start (lines l.rest) (found_view l.found) ≡ found_in 0 (lines l.graph) none;
}

abbrev pub decreases-lines : goal.decreases-lines
decreases-lines l = length l.rest
