use Rattle.std.proofs.Common.{◌≡◌, ◌*◌, map, slice_index}
use Rattle.std.specs.List.{range_with_len}
use Rattle.sdf_plan.specs.Weights.{firing_weight}
use Rattle.sdf_plan.proofs.weights.weights_by.Given as goal

abbrev pub invariant-loop-actor : goal.invariant-loop-actor
invariant-loop-actor l = l.weights.items ≡
    map (λ a. slice_index l.repetitions a * firing_weight l.design l.by_kind a) (range_with_len 0 l.actor)
