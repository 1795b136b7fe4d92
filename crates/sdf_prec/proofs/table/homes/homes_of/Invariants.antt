use Rattle.std.proofs.Common.{◌≡◌, map, take}
use Rattle.sdf_prec.specs.Homes.{home_of}
use Rattle.sdf_prec.proofs.table.homes.homes_of.Given as goal

abbrev pub invariant-loop-one : goal.invariant-loop-one
invariant-loop-one l = l.homes.items ≡ map home_of (take l.one-index l.home_columns)
