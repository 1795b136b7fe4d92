use Rattle.std.proofs.Common.{string_bytes, rules}
use Rattle.sdf_filters.proofs.Values.{no_values, value_added}
use Rattle.sdf_filters.proofs.coefficients.push_values.Goals as goal

pub loop-place-init : goal.loop-place-init
loop-place-init c = no_values c.args.taps.now (string_bytes c.args.text.now)

pub loop-place-preserved : goal.loop-place-preserved
loop-place-preserved c =
    value_added c.args.taps.now c.loop-place.place _ (string_bytes c.args.text.now)
    (string_bytes c.loop-place.text) (string_bytes c.push_value.new.text) (search rules) c.loop-place.invariant
    c.in_ok-push_value.ensures
