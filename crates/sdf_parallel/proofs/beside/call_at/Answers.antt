use Rattle.sdf_parallel.proofs.Places.{changes_one}
use Rattle.sdf_parallel.proofs.beside.call_at.Goals as goal

pub returns : goal.returns
returns g c = changes_one g.F.Fn c.args.f.now c.args.i c.args.s.now _ _ c.requires.one c.call_with.ensures
