use Rattle.std.proofs.Common.{sym}
use Rattle.sdf_graph.proofs.Marks.{all_joined}
use Rattle.sdf_graph.proofs.reach.joined.Goals as goal

pub returns-in-None : goal.returns-in-None
returns-in-None c =
    (sym c.in-None.ensures, all_joined _ c.reached.result c.reached.ensures.marked c.reached.ensures.closed)
