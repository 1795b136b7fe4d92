use Rattle.std.proofs.Common.{◌∙◌, get_or}
use Rattle.sdf_graph.specs.Rates.{rates}
use Rattle.sdf_prec.specs.Blocks.{block}
use Rattle.sdf_times.proofs.Spans.{block_length, span_is}
use Rattle.sdf_times.proofs.bounds.span.Goals as goal

pub returns : goal.returns
returns c =
    let q = c.args.period.now.repetitions in
    let e = c.in_ok-of.ensures in (
      e.0,
      span_is (rates c.args.graph.now) (block c.args.blocking q) (λ a. get_or c.args.costs.now a 0) c.in_ok-of.of
          c.first_levels.result (block_length c.args.blocking q ∙ c.requires.period.least.is.all) e.1
          c.first_levels.ensures,
    )
