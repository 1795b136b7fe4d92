use Rattle.std.proofs.Common.{◌≡◌, ◌*◌, ◌≤◌}
use Rattle.sdf_filters.specs.Delays.{delay_before}
use Rattle.sdf_filters.proofs.delay.stages_delay.Given as goal

abbrev pub invariant-loop-place : goal.invariant-loop-place
invariant-loop-place l = (l.sum ≡ delay_before l.to l.files l.place) × (l.sum ≤ 2251799813685248 * l.place)
