use Rattle.std.proofs.Common.{◌≡◌, ◌+◌, ◌*◌, slice_range, sym, ap, ◌∙◌, arith}
use Rattle.std.proofs.lemmas.List.{take_all}
use Rattle.sdf_node.specs.Many.{nth_block, joined}
use Rattle.sdf_queues.proofs.ByTurns.{parted_next}
use Rattle.sdf_queues.proofs.pairs.deinterleave.Goals as goal

pub loop-i-preserved : goal.loop-i-preserved
loop-i-preserved g c =
    let i = c.loop-i.i in
    record {
      left = parted_next c.loop-i.left c.args.pairs.now 0 (2 * i) i c.index-pairs-i.result (omega arith) (omega arith)
          (omega arith) (omega arith) c.index-pairs-i.is c.loop-i.invariant.left;
      right = parted_next c.loop-i.right c.args.pairs.now 1 (2 * i + 1) i c.index-pairs-i-in-loop-i.result (omega arith)
          (omega arith) (omega arith) (omega arith) c.index-pairs-i-in-loop-i.is c.loop-i.invariant.right;
    }

pub returns-clause-left : goal.returns-clause-left
returns-clause-left g c =
    let all : c.loop-i.i ≡ c.args.many = omega (arith, c.loop-i-test.false, c.loop-i.auto.i-end) in
    sym (take_all c.loop-i.i c.loop-i.left (omega arith)) ∙ (c.loop-i.invariant.left
    ∙ ap (joined (λ j. slice_range (nth_block 2 c.args.pairs.now j) 0 1)) all)

pub returns-clause-right : goal.returns-clause-right
returns-clause-right g c =
    let all : c.loop-i.i ≡ c.args.many = omega (arith, c.loop-i-test.false, c.loop-i.auto.i-end) in
    sym (take_all c.loop-i.i c.loop-i.right (omega arith)) ∙ (c.loop-i.invariant.right
    ∙ ap (joined (λ j. slice_range (nth_block 2 c.args.pairs.now j) 1 2)) all)
