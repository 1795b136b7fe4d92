use Rattle.std.proofs.Common.{suc, ◌≡◌, ◌+◌, ◌-◌, ◌*◌, ◌∙◌, ℕ, ap, drop, take, arith}
use Rattle.std.proofs.lemmas.List.{length-take-le, length-drop}
use Rattle.sdf_kit.specs.Stretches.{weight, weight_of}
use Rattle.sdf_kit.proofs.stretches.reach.Goals as goal

pub weight-total-requires : goal.weight-total-requires
weight-total-requires c =
    length-take-le (16 * c.from-at.result + 16 - 16 * c.from-at.result) (drop (16 * c.from-at.result) c.args.taps.now)
    (omega (
      arith,
      c.requires.whole,
      c.from.ensures,
      c.from-at.ensures,
      c.sixteens-test.true,
      length-drop (16 * c.from-at.result) c.args.taps.now,
    )) ∙ omega arith

pub sixteens-preserved : goal.sixteens-preserved
sixteens-preserved c =
    let n : ℕ = c.sixteens.reached in
    let width : 16 * c.from-at.result + 16 - 16 * c.from-at.result ≡ 16 = omega arith in
    let here : c.weight-total.result ≡ weight (take 16 (drop (16 * n) c.args.taps.now)) =
    c.weight-total.ensures.is ∙ (ap (λ w. weight (take w (drop (16 * c.from-at.result) c.args.taps.now))) width
    ∙ ap (λ k. weight (take 16 (drop (16 * k) c.args.taps.now))) c.from-at.ensures) in
    let next : weight_of n c.args.taps.now + weight (take 16 (drop (16 * n) c.args.taps.now)) ≡
    weight_of (n + 1) c.args.taps.now =
    (let one : suc n ≡ n + 1 = omega arith in ap (λ k. weight_of k c.args.taps.now) one) in
    record {
      within = omega (arith, c.requires.whole, c.from.ensures, c.sixteens-test.true);
      total = omega (arith, here, next, c.sixteens.invariant.total);
      small = c.if-total-gt-MAX_WEIGHT.false;
    }
