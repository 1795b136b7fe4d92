use Rattle.std.proofs.Common.{ℕ, ◌<◌}
use Rattle.sdf_prec.specs.ByHomes.{HasHome}
use Rattle.sdf_prec.proofs.by_homes.bad_home.Given as goal

abbrev pub invariant-loop-actor : goal.invariant-loop-actor
invariant-loop-actor l = (b : ℕ) → b < l.actor → HasHome l.homes l.m b
