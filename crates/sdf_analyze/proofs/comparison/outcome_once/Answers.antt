use Rattle.sdf_analyze.proofs.Sharing.{by_policy, shared_outcome}
use Rattle.sdf_analyze.proofs.comparison.outcome_once.Goals as goal

pub returns-in-Some-clause-outcome : goal.returns-in-Some-clause-outcome
returns-in-Some-clause-outcome c =
    shared_outcome c.args.design.now c.args.entries.now c.args.options.now
    _ c.in-Some.outcome c.requires.known
    (by_policy c.args.design.now c.args.periods.now c.args.options.now.policy c.requires.periods) c.in-Some.ensures
