use Rattle.sdf_analyze.proofs.Refusals.{outcome}
use Rattle.sdf_analyze.proofs.comparison.outcome_of.Goals as goal

pub returns-in-Err-clause-outcome : goal.returns-in-Err-clause-outcome
returns-in-Err-clause-outcome c =
    outcome c.args.design.now c.args.options.now c.in-Err.fault c.refusal.result c.requires.sizes
    c.in-Err.ensures.made
    c.refusal.ensures
