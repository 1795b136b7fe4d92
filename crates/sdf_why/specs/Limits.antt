-- The limits of a key, as the rows of kinds have them.
use Rattle.std.specs.Prelude.{ℕ, ◌&&◌, ◌||◌, Bool, List, codes, find, Option, Some, None, option_map, option_and_then}
use Rattle.std.specs.Prelude.{is_some, bytes_eq}
use Rattle.std.specs.Option.{option_or}
use Rattle.sdf_kinds.specs.declared.row.Kind.{Kind}
use Rattle.sdf_kinds.specs.declared.row.Form.{Form}
use Rattle.sdf_kinds.specs.declared.row.Form.TheVariants.{Natural, Optional, Integer, FromLeast}
use Rattle.sdf_kinds.specs.declared.row.Form.TheVariants.{List as ListForm}
use Rattle.sdf_kinds.specs.Rows.{KeyFormValue, row_of, shared_keys}
use Rattle.sdf_kinds.specs.Listing.{limits_text}
use Rattle.sdf_document.specs.declared.list.Limits.{Limits}
use Rattle.sdf_document.specs.Kinds.{kind_named}

-- the keys of a kind, in any format
abbrev pub keys_of : List ℕ → Option (List KeyFormValue)
keys_of word = option_map (λ (k : Kind). (row_of k).keys) (kind_named 4294967295 word)

-- ---- the list that a kind has

abbrev pub list_limits : Form → Option Limits
list_limits (Natural least most absent) = None
list_limits (Optional least most) = None
list_limits (Integer least most absent) = None
list_limits (FromLeast least most absent) = None
list_limits (ListForm most width) = Some (record { most = most; width = width })

abbrev pub is_list : KeyFormValue → Bool
is_list k = is_some (list_limits k.form)

-- the limits of the first list among keys
unfoldable pub keys_limits : List KeyFormValue → Option Limits
keys_limits ks = option_and_then (λ (k : KeyFormValue). list_limits k.form) (find is_list ks)

-- the limits of the list of a kind, in any format
unfoldable pub kind_limits : List ℕ → Option Limits
kind_limits word = option_and_then keys_limits (keys_of word)

-- ---- the form of a key

-- a row's key is the one of this name, or a list that `file` may replace
unfoldable pub has_name : List ℕ → KeyFormValue → Bool
has_name key k = bytes_eq key k.name || (bytes_eq key (codes "file") && is_list k)

-- the form of the first key of this name
unfoldable pub form_among : List ℕ → List KeyFormValue → Option Form
form_among key ks = option_map (λ (k : KeyFormValue). k.form) (find (has_name key) ks)

-- the form of a key of a kind, or its form as a key that every kind has
abbrev pub form_of : List ℕ → List ℕ → Option Form
form_of word key = option_or (option_and_then (form_among key) (keys_of word)) (form_among key shared_keys)

-- the limits of a key for a kind
abbrev pub limits_of : List ℕ → List ℕ → Option (List ℕ)
limits_of word key = option_map limits_text (form_of word key)
