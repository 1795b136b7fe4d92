use Rattle.sdf_graph.proofs.Lowest.{lowest_of}
use Rattle.sdf_graph.proofs.repetitions.lowest_terms.Goals as goal

pub returns : goal.returns
returns c = lowest_of c.args.num c.args.den c.gcd-both.result c.gcd-both.ensures.some c.gcd-both.ensures.divides
