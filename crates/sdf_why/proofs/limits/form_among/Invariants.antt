use Rattle.std.proofs.Common.{◌≡◌, drop}
use Rattle.sdf_kinds.specs.Rows.{keys_view}
use Rattle.sdf_why.specs.Limits.{form_among}
use Rattle.sdf_why.proofs.limits.form_among.Given as goal

abbrev pub invariant-loop-key : goal.invariant-loop-key
invariant-loop-key l =
    form_among l.name (keys_view (drop l.key-index l.keys)) ≡ form_among l.name (keys_view l.keys)
