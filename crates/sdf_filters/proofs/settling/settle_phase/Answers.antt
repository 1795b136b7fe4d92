use Rattle.std.proofs.Common.{◌≡◌, ℤ, ◌*◌, ◌+ℤ◌, ◌∙◌, FitsSigned, to_z, of_z, w64, ap, arith}
use Rattle.std.specs.Prelude.{int_lt}
use Rattle.std.proofs.lemmas.Int.{to_z-of_z}
use Rattle.sdf_filters.specs.Phases.{phase_sum, steps, weight}
use Rattle.sdf_filters.proofs.PhaseSums.{reached}
use Rattle.sdf_filters.proofs.Mirrored.{weight_outer}
use Rattle.sdf_filters.proofs.settling.settle_phase.Goals as goal

pub returns-clause-exact : goal.returns-clause-exact
returns-clause-exact c =
    let sum : ℤ = c.phase_sum-sum.result in
    let total : ℤ = c.args.total in
    let fits : FitsSigned w64 c.phase_sum-sum.result = record { sfits = c.phase_sum-sum.type_inv } in
    let one : weight c.args.up c.args.phase * c.abs_diff-times.result ≡ c.abs_diff-times.result =
    ap (λ w. w * c.abs_diff-times.result) (weight_outer c.args.up c.args.phase (λ e. omega (arith, c.requires.phase)))
    ∙ omega arith in
    reached (phase_sum c.args.taps.now c.args.up c.args.phase) (phase_sum c.move_rounds.new.taps c.args.up c.args.phase)
    sum total (to_z w64 (of_z w64 sum)) (to_z w64 (of_z w64 total)) c.abs_diff-times.result
    (to_z-of_z w64 c.phase_sum-sum.result fits) (to_z-of_z w64 c.args.total c.ranges.total)
    c.phase_sum-sum.ensures.sum c.abs_diff-times.ensures
    (c.in_ok-move_rounds.ensures.moves.sum ∙ ap (λ n. phase_sum c.args.taps.now c.args.up c.args.phase
    +ℤ steps (int_lt (to_z w64 (of_z w64 sum)) (to_z w64 (of_z w64 total))) n) one)
