use Rattle.std.proofs.Common.{◌+◌, ◌∙◌, arith}
use Rattle.std.proofs.lemmas.List.{take-set-le, drop-set-lt}
use Rattle.sdf_queues.proofs.Gathers.{copied_next}
use Rattle.sdf_queues.proofs.parts.copy_part.Goals as goal

pub loop-i-preserved : goal.loop-i-preserved
loop-i-preserved g c =
    let i = c.loop-i.i in
    let v = c.index-from-start.result in
    record {
      copied = copied_next c.args.from.now c.loop-i.to c.args.start c.args.at i v (omega arith) (omega arith)
          c.index-from-start.is c.loop-i.invariant.copied;
      before = take-set-le c.args.at c.loop-i.to (c.args.at + i) v (omega arith) ∙ c.loop-i.invariant.before;
      behind = drop-set-lt (c.args.at + c.args.width) c.loop-i.to (c.args.at + i) v (omega arith)
          ∙ c.loop-i.invariant.behind;
    }
