use Rattle.sdf_filters.proofs.Splits.{lowest_is}
use Rattle.sdf_filters.proofs.ratio.lowest.Goals as goal

pub returns : goal.returns
returns c = lowest_is c.args.from c.args.to c.gcd-common.result c.requires.from c.requires.to c.gcd-common.ensures.some
    c.gcd-common.ensures.is
