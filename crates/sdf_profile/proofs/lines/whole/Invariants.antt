use Rattle.std.proofs.Common.{◌≡◌, take}
use Rattle.sdf_profile.specs.Times.{whole}
use Rattle.sdf_profile.proofs.lines.whole.Given as goal

abbrev pub invariant-loop-one : goal.invariant-loop-one
invariant-loop-one l = l.whole ≡ whole (take l.one-index l.spent)
