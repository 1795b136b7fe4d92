use Rattle.std.proofs.Common.{◌≡◌, ◌++◌, string_bytes, take, codes}
use Rattle.std.specs.List.{flat_map}
use Rattle.sdf_kinds.specs.Rows.{keys_view}
use Rattle.sdf_kinds.specs.Listing.{key_text}
use Rattle.sdf_kinds.proofs.listing.push_keys.Given as goal

abbrev pub invariant-loop-key : goal.invariant-loop-key
invariant-loop-key l = string_bytes l.text ≡ string_bytes l.initial.text
    ++ flat_map (λ k. codes ", " ++ key_text k) (keys_view (take l.key-index l.rest))
