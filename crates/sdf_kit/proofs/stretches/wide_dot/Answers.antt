use Rattle.std.proofs.Common.{◌∙◌, FitsSigned, refl, w64, arith}
use Rattle.std.proofs.lemmas.Int.{to_z-of_z}
use Rattle.sdf_kit.proofs.InStretches.{within_taps, piece_stretch, piece_added, piece_more, all_taken}
use Rattle.sdf_kit.proofs.stretches.wide_dot.Goals as goal

pub stretch_dot-sum-requires-clause-stretch : goal.stretch_dot-sum-requires-clause-stretch
stretch_dot-sum-requires-clause-stretch c =
    piece_stretch c.args.branch.taps.now c.args.branch.stretches.now c.stretches.done c.requires.taps
    c.requires.stretches
    c.stretches.invariant.whole c.stretches-test.true c.from.result c.from.ensures

pub overflow_add-sum : goal.overflow_add-sum
overflow_add-sum c =
    let fits : FitsSigned w64 c.stretch_dot-sum.result = record { sfits = c.stretch_dot-sum.type_inv } in
    piece_added c.args.branch.taps.now c.args.branch.stretches.now c.stretches.done c.requires.taps c.requires.stretches
    c.stretches.invariant.whole c.stretches-test.true c.from.result c.from.ensures c.args.x.now c.requires.x
    c.stretches.invariant.sum (to_z-of_z w64 c.stretch_dot-sum.result fits ∙ c.stretch_dot-sum.ensures)

pub stretches-preserved : goal.stretches-preserved
stretches-preserved c =
    let fits : FitsSigned w64 c.stretch_dot-sum.result = record { sfits = c.stretch_dot-sum.type_inv } in
    let here = to_z-of_z w64 c.stretch_dot-sum.result fits ∙ c.stretch_dot-sum.ensures in
    let sum_fits = piece_added c.args.branch.taps.now c.args.branch.stretches.now c.stretches.done c.requires.taps
    c.requires.stretches
    c.stretches.invariant.whole c.stretches-test.true c.from.result c.from.ensures c.args.x.now c.requires.x
    c.stretches.invariant.sum here in
    record {
      within = within_taps c.args.branch.taps.now c.args.branch.stretches.now c.stretches.done c.requires.taps
          c.requires.stretches
          c.stretches.invariant.whole c.stretches-test.true c.from.result c.from.ensures;
      whole = omega (arith, c.stretches.invariant.whole);
      sum = to_z-of_z w64 _ sum_fits ∙ piece_more c.args.branch.taps.now c.args.branch.stretches.now c.stretches.done
          c.requires.taps c.requires.stretches
          c.stretches.invariant.whole c.stretches-test.true c.from.result c.from.ensures c.args.x.now refl
          c.stretches.invariant.sum here;
    }

pub returns : goal.returns
returns c =
    c.stretches.invariant.sum ∙ all_taken c.args.branch.taps.now c.args.x.now c.stretches.done
    c.stretches-test.false c.requires.x
