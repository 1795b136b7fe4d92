use Rattle.std.proofs.Common.{◌≡◌, ◌*◌, map, take}
use Rattle.sdf_rings.proofs.setup.firing_counts.asked.Given as goal

abbrev pub invariant-loop-repetition : goal.invariant-loop-repetition
invariant-loop-repetition l = l.asked.items ≡ map (λ q. l.blocks * (l.blocking * q))
    (take l.repetition-index l.repetitions)
