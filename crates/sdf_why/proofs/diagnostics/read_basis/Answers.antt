use Rattle.std.proofs.lemmas.Option.{MatchOption-at_none}
use Rattle.sdf_why.proofs.diagnostics.read_basis.Goals as goal

pub returns-in-None : goal.returns-in-None
returns-in-None c = MatchOption-at_none _ _ c.in-None.is c.in_ok-design.ensures
