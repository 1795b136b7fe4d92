use Rattle.std.proofs.Common.{◌≡◌, string_bytes, take}
use Rattle.std.specs.List.{flat_map}
use Rattle.sdf_kinds.specs.Listing.{line_of}
use Rattle.sdf_kinds.proofs.listing.kinds_text.Given as goal

abbrev pub invariant-loop-kind : goal.invariant-loop-kind
invariant-loop-kind l = string_bytes l.text ≡ flat_map line_of (take l.kind-index l.all)
