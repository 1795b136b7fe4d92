use Rattle.sdf_prec.proofs.Units.{free_plain, homed_plain}
use Rattle.sdf_prec.proofs.unit_rows.unit_rows_are_plain.Goals as goal

pub returns-clause-free : goal.returns-clause-free
returns-clause-free c = free_plain

pub returns-clause-homed : goal.returns-clause-homed
returns-clause-homed c = homed_plain
