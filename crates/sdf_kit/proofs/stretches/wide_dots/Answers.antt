use Rattle.std.proofs.Common.{◌≤◌, ◌^◌, ◌∙◌, sym, subst, unsigned_abs, arith}
use Rattle.sdf_kit.proofs.InStretches.{within_taps, piece_stretch, piece_small, front_small, piece_more}
use Rattle.sdf_kit.proofs.InStretches.{all_taken}
use Rattle.sdf_kit.proofs.stretches.wide_dots.Goals as goal

pub stretch_dots-more-requires-clause-stretch : goal.stretch_dots-more-requires-clause-stretch
stretch_dots-more-requires-clause-stretch c =
    piece_stretch c.args.branch.taps.now c.args.branch.stretches.now c.stretches.done c.requires.taps
    c.requires.stretches
    c.stretches.invariant.whole c.stretches-test.true c.from.result c.from.ensures

pub plus-sums-requires-clause-sums : goal.plus-sums-requires-clause-sums
plus-sums-requires-clause-sums c = record {
  a = subst (λ z. unsigned_abs z ≤ 2 ^ 50) (sym c.stretches.invariant.a)
      (front_small c.args.branch.taps.now c.args.branch.stretches.now c.stretches.done c.requires.taps
      c.requires.stretches
      c.stretches.invariant.whole c.stretches-test.true c.from.result c.from.ensures c.args.x.now c.requires.x);
  b = subst (λ z. unsigned_abs z ≤ 2 ^ 50) (sym c.stretches.invariant.b)
      (front_small c.args.branch.taps.now c.args.branch.stretches.now c.stretches.done c.requires.taps
      c.requires.stretches
      c.stretches.invariant.whole c.stretches-test.true c.from.result c.from.ensures c.args.y.now c.requires.y);
  c = subst (λ z. unsigned_abs z ≤ 2 ^ 50) (sym c.stretches.invariant.c)
      (front_small c.args.branch.taps.now c.args.branch.stretches.now c.stretches.done c.requires.taps
      c.requires.stretches
      c.stretches.invariant.whole c.stretches-test.true c.from.result c.from.ensures c.args.z.now c.requires.z);
  d = subst (λ z. unsigned_abs z ≤ 2 ^ 50) (sym c.stretches.invariant.d)
      (front_small c.args.branch.taps.now c.args.branch.stretches.now c.stretches.done c.requires.taps
      c.requires.stretches
      c.stretches.invariant.whole c.stretches-test.true c.from.result c.from.ensures c.args.w.now c.requires.w);
}

pub plus-sums-requires-clause-more : goal.plus-sums-requires-clause-more
plus-sums-requires-clause-more c = record {
  a = subst (λ z. unsigned_abs z ≤ 2 ^ 50) (sym c.stretch_dots-more.ensures.a)
      (piece_small c.args.branch.taps.now c.args.branch.stretches.now c.stretches.done c.requires.taps
      c.requires.stretches
      c.stretches.invariant.whole c.stretches-test.true c.from.result c.from.ensures c.args.x.now c.requires.x);
  b = subst (λ z. unsigned_abs z ≤ 2 ^ 50) (sym c.stretch_dots-more.ensures.b)
      (piece_small c.args.branch.taps.now c.args.branch.stretches.now c.stretches.done c.requires.taps
      c.requires.stretches
      c.stretches.invariant.whole c.stretches-test.true c.from.result c.from.ensures c.args.y.now c.requires.y);
  c = subst (λ z. unsigned_abs z ≤ 2 ^ 50) (sym c.stretch_dots-more.ensures.c)
      (piece_small c.args.branch.taps.now c.args.branch.stretches.now c.stretches.done c.requires.taps
      c.requires.stretches
      c.stretches.invariant.whole c.stretches-test.true c.from.result c.from.ensures c.args.z.now c.requires.z);
  d = subst (λ z. unsigned_abs z ≤ 2 ^ 50) (sym c.stretch_dots-more.ensures.d)
      (piece_small c.args.branch.taps.now c.args.branch.stretches.now c.stretches.done c.requires.taps
      c.requires.stretches
      c.stretches.invariant.whole c.stretches-test.true c.from.result c.from.ensures c.args.w.now c.requires.w);
}

pub stretches-preserved : goal.stretches-preserved
stretches-preserved c = record {
  within = within_taps c.args.branch.taps.now c.args.branch.stretches.now c.stretches.done c.requires.taps
      c.requires.stretches
      c.stretches.invariant.whole c.stretches-test.true c.from.result c.from.ensures;
  whole = omega (arith, c.stretches.invariant.whole);
  a = piece_more c.args.branch.taps.now c.args.branch.stretches.now c.stretches.done c.requires.taps
      c.requires.stretches
      c.stretches.invariant.whole c.stretches-test.true c.from.result c.from.ensures c.args.x.now
      c.plus-sums.ensures.a c.stretches.invariant.a c.stretch_dots-more.ensures.a;
  b = piece_more c.args.branch.taps.now c.args.branch.stretches.now c.stretches.done c.requires.taps
      c.requires.stretches
      c.stretches.invariant.whole c.stretches-test.true c.from.result c.from.ensures c.args.y.now
      c.plus-sums.ensures.b c.stretches.invariant.b c.stretch_dots-more.ensures.b;
  c = piece_more c.args.branch.taps.now c.args.branch.stretches.now c.stretches.done c.requires.taps
      c.requires.stretches
      c.stretches.invariant.whole c.stretches-test.true c.from.result c.from.ensures c.args.z.now
      c.plus-sums.ensures.c c.stretches.invariant.c c.stretch_dots-more.ensures.c;
  d = piece_more c.args.branch.taps.now c.args.branch.stretches.now c.stretches.done c.requires.taps
      c.requires.stretches
      c.stretches.invariant.whole c.stretches-test.true c.from.result c.from.ensures c.args.w.now
      c.plus-sums.ensures.d c.stretches.invariant.d c.stretch_dots-more.ensures.d;
}

pub returns-clause-a : goal.returns-clause-a
returns-clause-a c =
    c.stretches.invariant.a ∙ all_taken c.args.branch.taps.now c.args.x.now c.stretches.done
    c.stretches-test.false c.requires.x

pub returns-clause-b : goal.returns-clause-b
returns-clause-b c =
    c.stretches.invariant.b ∙ all_taken c.args.branch.taps.now c.args.y.now c.stretches.done
    c.stretches-test.false c.requires.y

pub returns-clause-c : goal.returns-clause-c
returns-clause-c c =
    c.stretches.invariant.c ∙ all_taken c.args.branch.taps.now c.args.z.now c.stretches.done
    c.stretches-test.false c.requires.z

pub returns-clause-d : goal.returns-clause-d
returns-clause-d c =
    c.stretches.invariant.d ∙ all_taken c.args.branch.taps.now c.args.w.now c.stretches.done
    c.stretches-test.false c.requires.w
