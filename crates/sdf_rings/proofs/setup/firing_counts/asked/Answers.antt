use Rattle.std.proofs.Common.{◌*◌, ◌≤◌, get_or, arith}
use Rattle.std.specs.Prelude.{sum}
use Rattle.std.proofs.Math.Nat.{mul-le-mul_left}
use Rattle.std.proofs.lemmas.List.Sums.{get_or-le-sum_by}
use Rattle.sdf_rings.proofs.setup.firing_counts.asked.Goals as goal

pub firings-requires : goal.firings-requires
firings-requires c =
    let q = get_or c.args.repetitions.now c.loop-repetition.repetition-index 0 in
    let one : q ≤ sum c.args.repetitions.now = get_or-le-sum_by (λ x. x) c.args.repetitions.now
    c.loop-repetition.repetition-index 0 c.loop-repetition-test.true in
    let all : c.args.blocking * q ≤ c.args.blocking * sum c.args.repetitions.now =
    mul-le-mul_left c.args.blocking one in
    omega (arith, all, c.requires)
