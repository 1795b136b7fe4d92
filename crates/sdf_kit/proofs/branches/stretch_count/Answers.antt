use Rattle.std.proofs.Common.{◌≡◌, ℕ, ◌+◌, ◌-◌, List, drop, get_or, ap, ◌∙◌, arith}
use Rattle.sdf_kit.specs.Stretches.{stretch_count}
use Rattle.sdf_kit.proofs.Walks.{walk_begins, walk_goes_on}
use Rattle.sdf_kit.proofs.branches.stretch_count.Goals as goal
use Rattle.sdf_kit.proofs.branches.stretch_count.Goals.{then-left-eq0, else-left-eq0}

pub loop-sixteens-preserved : goal.loop-sixteens-preserved
loop-sixteens-preserved c =
    let lens : List ℕ = c.args.stretches.now in
    let i : ℕ = c.loop-sixteens.sixteens-index in
    let rest : List ℕ = drop (i + 1) lens in
    let so_far = c.loop-sixteens.invariant.counted in
    elim c.if-left-eq0.branch [
      | then-left-eq0 w ↦ record {
        counted =
            let none = ap (λ m. stretch_count m (drop i lens)) w.if-left-eq0.true in
            let on : stretch_count c.if-left-eq0.left rest ≡ stretch_count (get_or lens i 0 - 1) rest =
            ap (λ m. stretch_count m rest) (w.left-is ∙ w.saturating_sub-left.ensures) in
            omega (arith, so_far, none, on, w.stretch_count-is, walk_begins lens i c.loop-sixteens-test.true);
        few = omega (arith, c.loop-sixteens.invariant.few, w.stretch_count-is);
      }
      | else-left-eq0 w ↦ record {
        counted =
            let one : c.loop-sixteens.left ≡ c.if-left-eq0.left + 1 = omega (arith, w.left-is, w.if-left-eq0.false) in
            let same = ap (λ m. stretch_count m (drop i lens)) one in
            omega (
              arith,
              so_far,
              same,
              w.stretch_count-is,
              walk_goes_on lens c.if-left-eq0.left i c.loop-sixteens-test.true,
            );
        few = omega (arith, c.loop-sixteens.invariant.few, w.stretch_count-is);
      }
    ]
