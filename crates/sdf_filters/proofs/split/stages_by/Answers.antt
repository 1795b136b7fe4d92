use Rattle.std.proofs.Common.{arith}
use Rattle.std.proofs.lemmas.Result.{MatchResult-weaker}
use Rattle.sdf_filters.proofs.Splits.{split_is, fault_of_rates}
use Rattle.sdf_filters.proofs.split.stages_by.Goals as goal

pub returns : goal.returns
returns c = MatchResult-weaker c.split.result c.split.ensures
    (λ stages split. split_is c.args.from c.args.to c.lowest.result.up c.lowest.result.down stages.items
    (omega arith) (omega arith) c.lowest.ensures split)
    (fault_of_rates c.args.from c.args.to c.lowest.result.up c.lowest.result.down (omega arith) (omega arith)
    c.lowest.ensures)
