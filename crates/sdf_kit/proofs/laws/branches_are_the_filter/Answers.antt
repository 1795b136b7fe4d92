use Rattle.std.proofs.Common.{◌+◌, ◌-◌, ◌*◌, ◌/◌, length, refl}
use Rattle.sdf_kit.proofs.Phases.{window_dot}
use Rattle.sdf_kit.proofs.laws.branches_are_the_filter.Goals as goal

pub returns : goal.returns
returns c taps up some x pad n t wide room = window_dot taps up some x pad n (t + (length taps - 1) / up * up)
    t wide refl room
