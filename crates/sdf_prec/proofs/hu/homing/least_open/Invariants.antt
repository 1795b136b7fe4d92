use Rattle.sdf_prec.specs.Placing.{load_by, IsOpen, IsBest}
use Rattle.sdf_prec.proofs.hu.homing.least_open.Given as goal

abbrev pub invariant-loop-column : goal.invariant-loop-column
invariant-loop-column l = IsBest l.column (IsOpen l.until l.now l.cells) (load_by l.weights l.homes) l.best
