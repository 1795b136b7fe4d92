use Rattle.std.proofs.Common.{◌≡◌, length}
use Rattle.sdf_filters.proofs.wide_converter.filters_of.Given as goal

abbrev pub invariant-loop-place : goal.invariant-loop-place
invariant-loop-place l = length l.filters.items ≡ l.place
