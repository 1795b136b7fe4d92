-- The rows of kinds have no list under a name that `type_of` does not know, and no other value under a list's name.
use Rattle.std.proofs.Common.{◌≡◌, ℕ, List, ◌++◌, map, refl}
use Rattle.std.specs.Prelude.{codes, if◌then◌else◌}
use Rattle.std.specs.List.{flat_map}
use Rattle.sdf_kinds.specs.declared.row.Kind.{Kind}
use Rattle.sdf_kinds.specs.Rows.{KeyFormValue, row_of, shared_keys, kinds}
use Rattle.sdf_why.specs.Limits.{is_list}
use Rattle.sdf_why.specs.Types.{type_of}

-- all keys of rows
abbrev pub row_keys : List KeyFormValue
row_keys = flat_map (λ (k : Kind). (row_of k).keys) kinds ++ shared_keys

-- the type that a row's key needs, by its form
abbrev pub form_type : KeyFormValue → List ℕ
form_type k = if is_list k then codes "a list of whole numbers" else codes "a whole number"

-- the names of keys give the types of their forms
pub types_of_rows : map (λ (k : KeyFormValue). type_of k.name) row_keys ≡ map form_type row_keys
unfolding type_of
types_of_rows = refl
