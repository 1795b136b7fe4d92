use Rattle.std.proofs.Common.{◌≡◌, ◌++◌, drop, option_map}
use Rattle.toml.specs.View.{items_view}
use Rattle.sdf_document.specs.Values.{integers_in}
use Rattle.sdf_document.proofs.value.integers_in.Given as goal

abbrev pub invariant-loop-item : goal.invariant-loop-item
invariant-loop-item l = option_map (λ zs. l.numbers.items ++ zs)
    (integers_in (items_view (drop l.item-index l.items))) ≡ integers_in (items_view l.items)
