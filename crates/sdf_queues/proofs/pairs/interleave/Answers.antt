use Rattle.std.proofs.Common.{◌≡◌, ◌*◌, ◌++◌, sym, ap, ◌∙◌, arith}
use Rattle.std.proofs.lemmas.List.{take_all}
use Rattle.sdf_node.specs.Many.{nth_block, joined}
use Rattle.sdf_queues.proofs.ByTurns.{woven_next}
use Rattle.sdf_queues.proofs.pairs.interleave.Goals as goal

pub loop-i-preserved : goal.loop-i-preserved
loop-i-preserved g c =
    woven_next c.args.left.now c.args.right.now c.loop-i.pairs c.loop-i.i c.index-left-i.result c.index-right-i.result
    (omega arith) (omega arith) (omega arith) c.index-left-i.is c.index-right-i.is c.loop-i.invariant

pub returns : goal.returns
returns g c =
    let all : c.loop-i.i ≡ c.args.many = omega (arith, c.loop-i-test.false, c.loop-i.auto.i-end) in
    sym (take_all (2 * c.loop-i.i) c.loop-i.pairs (omega arith)) ∙ (c.loop-i.invariant
    ∙ ap (joined (λ j. nth_block 1 c.args.left.now j ++ nth_block 1 c.args.right.now j)) all)
