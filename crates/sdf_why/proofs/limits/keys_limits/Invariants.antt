use Rattle.std.proofs.Common.{◌≡◌, drop}
use Rattle.sdf_kinds.specs.Rows.{keys_view}
use Rattle.sdf_why.specs.Limits.{keys_limits}
use Rattle.sdf_why.proofs.limits.keys_limits.Given as goal

abbrev pub invariant-loop-key : goal.invariant-loop-key
invariant-loop-key l = keys_limits (keys_view (drop l.key-index l.keys)) ≡ keys_limits (keys_view l.keys)
