use Rattle.std.proofs.Common.{◌≡◌, ℕ, ◌+◌, ◌*◌, ◌/◌, ◌%◌, ap, ◌∙◌, subst, div-add-mod', arith}
use Rattle.sdf_filters.specs.Phases.{AreMoved, weight}
use Rattle.sdf_filters.proofs.PhaseSums.{moved_none, moved_more}
use Rattle.sdf_filters.proofs.phases.move_rounds.Goals as goal

pub loop-init : goal.loop-init
loop-init c =
    let w : ℕ = weight c.args.way.up c.args.way.phase in
    let e : 0 ≡ w * (0 * c.args.way.turns) = omega arith in
    subst (λ n. AreMoved c.args.way.up c.args.way.phase c.args.way.rise n c.args.taps.now c.args.taps.now) e
    (moved_none c.args.way.up c.args.way.phase c.args.way.rise c.args.taps.now)

pub loop-preserved : goal.loop-preserved
loop-preserved c =
    let w : ℕ = weight c.args.way.up c.args.way.phase in
    let many : ℕ = c.args.way.turns in
    let e : w * (c.loop.counter * many) + w * many ≡ w * ((c.loop.counter + 1) * many) = omega arith in
    moved_more c.args.way.up c.args.way.phase c.args.way.rise (w * (c.loop.counter * many)) (w * many)
    (w * ((c.loop.counter + 1) * many)) e c.args.taps.now c.loop.taps c.move_round.new.taps c.loop.invariant
    c.in_ok-move_round.ensures.moves

pub returns-clause-moves : goal.returns-clause-moves
returns-clause-moves c =
    let w : ℕ = weight c.args.way.up c.args.way.phase in
    let many : ℕ = c.args.way.turns in
    let times : ℕ = c.args.times in
    let rounds : c.loop.counter ≡ times / many = omega arith in
    let all : c.loop.counter * many + times % many ≡ times =
    ap (λ k. k * many + times % many) rounds ∙ div-add-mod' times many in
    let e : w * (c.loop.counter * many) + w * (times % many) ≡ w * times = omega (arith, ap (λ n. w * n) all) in
    moved_more c.args.way.up c.args.way.phase c.args.way.rise (w * (c.loop.counter * many)) (w * (times % many))
    (w * times) e c.args.taps.now c.loop.taps c.move_soonest.new.taps c.loop.invariant
    c.in_ok-move_soonest.ensures.moves
