use Rattle.std.proofs.Common.{◌≡◌, length}
use Rattle.sdf_filters.proofs.sinc.rounded_taps.Given as goal

abbrev pub invariant-loop-real : goal.invariant-loop-real
invariant-loop-real l = length l.taps.items ≡ l.real-index
