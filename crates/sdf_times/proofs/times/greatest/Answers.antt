use Rattle.std.proofs.Common.{◌≡◌, ℕ, ◌+◌, ◌<◌, length, get_or, arith, refl, sym, subst}
use Rattle.sdf_times.specs.Times.{IsGreatest}
use Rattle.sdf_times.proofs.Greatest.{greatest_none, greatest_place}
use Rattle.sdf_times.proofs.times.greatest.Goals as goal

pub loop-time-init : goal.loop-time-init
loop-time-init c = greatest_none (λ u. (j : ℕ) × (j < 0) × (get_or c.args.times.now j 0 ≡ u)) 0 refl
    (λ u w. omega (arith, w.1))

pub loop-time-preserved : goal.loop-time-preserved
loop-time-preserved c =
    let i : ℕ = c.loop-time.time-index in
    subst (IsGreatest (λ u. (j : ℕ) × (j < i + 1) × (get_or c.args.times.now j 0 ≡ u))) (sym c.max-most.ensures)
    (greatest_place c.args.times.now i c.loop-time.most (get_or c.args.times.now i 0) refl c.loop-time.invariant)

pub returns : goal.returns
returns c =
    let end : c.loop-time.time-index ≡ length c.args.times.now = omega arith in
    subst (λ (i : ℕ). IsGreatest (λ u. (j : ℕ) × (j < i) × (get_or c.args.times.now j 0 ≡ u)) c.loop-time.most) end
    c.loop-time.invariant
