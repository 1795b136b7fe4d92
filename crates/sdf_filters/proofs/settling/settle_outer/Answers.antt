use Rattle.std.proofs.Common.{◌≡◌, ◌/◌, ◌%◌, length, ap, ◌∙◌, arith, to_z, of_z, w64}
use Rattle.std.proofs.lemmas.Int.{to_z-of_z}
use Rattle.sdf_filters.proofs.Mirrored.{one_phase_more, outer_exact, in_phases}
use Rattle.sdf_filters.proofs.settling.settle_outer.Goals as goal

pub loop-phase-init : goal.loop-phase-init
loop-phase-init c = (c.requires.symmetric, λ q below. absurd (omega arith))

pub loop-phase-preserved : goal.loop-phase-preserved
loop-phase-preserved c = (
  c.in_ok-settle_phase.ensures.symmetric c.loop-phase.invariant.0,
  one_phase_more c.loop-phase.taps c.settle_phase.new.taps c.args.up c.loop-phase.phase
      (to_z w64 (of_z w64 c.args.total)) (omega arith) c.in_ok-settle_phase.ensures.exact
      c.in_ok-settle_phase.ensures.others c.loop-phase.invariant.1,
)

pub returns-clause-exact : goal.returns-clause-exact
returns-clause-exact c =
    let same : length c.loop-phase.taps ≡ length c.args.taps.now = omega arith in
    outer_exact c.loop-phase.taps c.args.up (length c.loop-phase.taps / c.args.up) c.args.total
    (in_phases c.args.up (length c.loop-phase.taps) (ap (λ n. n % c.args.up) same ∙ c.requires.whole))
    c.loop-phase.invariant.0
    (λ q below. c.loop-phase.invariant.1 q (omega arith) ∙ to_z-of_z w64 c.args.total c.ranges.total)
