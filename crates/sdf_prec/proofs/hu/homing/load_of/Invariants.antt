use Rattle.std.proofs.Common.{◌≡◌, ◌≤◌, ◌*◌, None}
use Rattle.std.specs.Prelude.{slice_index, slice_index_or}
use Rattle.sdf_limits.specs.declared.TheConstants.{MAX_BLOCK, MAX_COST}
use Rattle.sdf_prec.specs.Trying.{load}
use Rattle.sdf_prec.proofs.hu.homing.load_of.Given as goal

abbrev pub invariant-loop-actor : goal.invariant-loop-actor
invariant-loop-actor l = record {
  load : l.load ≡ load l.actor (slice_index l.weights) (λ a. slice_index_or l.homes a None) l.column;
  small : l.load ≤ MAX_BLOCK * MAX_COST * l.actor;
}
