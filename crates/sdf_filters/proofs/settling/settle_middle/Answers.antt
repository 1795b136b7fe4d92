use Rattle.std.proofs.Common.{◌/◌, ◌∙◌, FitsSigned, length, to_z, of_z, w64, arith}
use Rattle.std.proofs.lemmas.Int.{to_z-of_z}
use Rattle.std.proofs.lemmas.Result.{on_ok_weaker}
use Rattle.sdf_filters.proofs.Mirrored.{even_times, in_phases}
use Rattle.sdf_filters.proofs.settling.settle_middle.Goals as goal

pub returns-then-many-eq1-clause-symmetric : goal.returns-then-many-eq1-clause-symmetric
returns-then-many-eq1-clause-symmetric c =
    on_ok_weaker c.move_odd.result (λ moved symmetric even. moved.symmetric symmetric) c.move_odd.ensures.moves

pub returns-else-many-eq1-clause-symmetric : goal.returns-else-many-eq1-clause-symmetric
returns-else-many-eq1-clause-symmetric c =
    let fits : FitsSigned w64 c.phase_sum-sum.result = record { sfits = c.phase_sum-sum.type_inv } in
    on_ok_weaker c.move_even.result
    (λ stay symmetric even. stay (even_times c.args.taps.now c.args.up (c.args.up / 2)
    (length c.args.taps.now / c.args.up) c.args.total (to_z w64 (of_z w64 c.phase_sum-sum.result))
    (to_z w64 (of_z w64 c.args.total)) c.abs_diff-times.result
    (in_phases c.args.up (length c.args.taps.now) c.requires.whole) (omega (arith, c.requires.up)) (omega arith)
    symmetric (to_z-of_z w64 c.phase_sum-sum.result fits ∙ c.phase_sum-sum.ensures.sum)
    (to_z-of_z w64 c.args.total c.ranges.total) c.abs_diff-times.ensures even) symmetric)
    c.move_even.ensures.symmetric
