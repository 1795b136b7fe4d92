-- The kinds as a text: a line for each, and one for the keys that every actor may have.
use Rattle.std.specs.Prelude.{◌==◌, ◌&&◌, ℕ, ℤ, pos, negsuc, List, [], ◌∷◌, ◌++◌, codes, decimal, Option, Some, None}
use Rattle.std.specs.Prelude.{if◌then◌else◌}
use Rattle.std.specs.Fmt.{signed_decimal}
use Rattle.std.specs.Ordering.{int_eq}
use Rattle.std.specs.List.{flat_map}
use Rattle.sdf_kinds.specs.declared.row.Form.{Form}
use Rattle.sdf_kinds.specs.declared.row.Form.TheVariants.{Natural, Optional, Integer, FromLeast}
use Rattle.sdf_kinds.specs.declared.row.Form.TheVariants.{List as ListForm}
use Rattle.sdf_kinds.specs.declared.row.Kind.{Kind}
use Rattle.sdf_kinds.specs.declared.row.Width.{Width}
use Rattle.sdf_kinds.specs.declared.row.Width.TheVariants.{Bits16, Bits32}
use Rattle.sdf_kinds.specs.Rows.{KeyFormValue, RowValue, row_of, kinds, shared_keys}

-- a line feed
abbrev pub end : List ℕ
end = 10 ∷ []

-- the range from one number to another
abbrev pub between : ℕ → ℕ → List ℕ
between least most = decimal least ++ codes ".." ++ decimal most

-- the range between numbers of either sign; all numbers of 32 bits have their own words
unfoldable pub integers : ℤ → ℤ → List ℕ
integers least most = if int_eq least (negsuc 2147483647) && int_eq most (pos 2147483647)
    then codes "of 32 bits" else signed_decimal least ++ codes ".." ++ signed_decimal most

-- the range from the value of the key `least` to another number
unfoldable pub from_least : ℤ → List ℕ
from_least most = codes "least.." ++ signed_decimal most

-- the range of the values of a list
abbrev pub width_text : Width → List ℕ
width_text Bits16 = codes "of -32768..32767"
width_text Bits32 = codes "of 32 bits"

-- the limit of a list's length, and the range of its values
abbrev pub values_text : ℕ → Width → List ℕ
values_text most width = codes "1.." ++ decimal most ++ codes " values " ++ width_text width

-- the limits of a value
abbrev pub limits_text : Form → List ℕ
limits_text (Natural least most absent) = between least most
limits_text (Optional least most) = between least most ++ codes " or absent"
limits_text (Integer least most absent) = integers least most
limits_text (FromLeast least most absent) = from_least most
limits_text (ListForm most width) = values_text most width

-- what is between a key's name and its limits: `file` may stand in place of a list
abbrev pub lead_text : Form → List ℕ
lead_text (Natural least most absent) = codes " "
lead_text (Optional least most) = codes " "
lead_text (Integer least most absent) = codes " "
lead_text (FromLeast least most absent) = codes " "
lead_text (ListForm most width) = codes " or file: "

-- the default in parentheses, if there is one
unfoldable pub absent_text : Option ℤ → List ℕ
absent_text None = []
absent_text (Some z) = codes " (" ++ signed_decimal z ++ codes ")"

abbrev pub default_text : Form → List ℕ
default_text (Natural least most None) = []
default_text (Natural least most (Some absent)) = codes " (" ++ decimal absent ++ codes ")"
default_text (Optional least most) = []
default_text (Integer least most absent) = absent_text absent
default_text (FromLeast least most absent) = absent_text absent
default_text (ListForm most width) = []

-- a key, with its limits and its default
abbrev pub key_text : KeyFormValue → List ℕ
key_text k = k.name ++ lead_text k.form ++ limits_text k.form ++ default_text k.form

-- keys, in their order
abbrev pub keys_text : List KeyFormValue → List ℕ
keys_text [] = []
keys_text (k ∷ ks) = key_text k ++ flat_map (λ l. codes ", " ++ key_text l) ks

-- the first format that has a kind, unless it is format 1
abbrev pub since_text : ℕ → List ℕ
since_text n = if n == 1 then [] else codes ", format " ++ decimal n

-- a line: the word of a kind and its keys
abbrev pub line : RowValue → List ℕ
line row = row.word ++ since_text row.since ++ codes ": " ++ keys_text row.keys ++ end

-- the line of a kind
abbrev pub line_of : Kind → List ℕ
line_of k = line (row_of k)

-- a line for each of some kinds, and a line of the keys that every actor may have
abbrev pub listing_of : List Kind → List KeyFormValue → List ℕ
listing_of ks shared = flat_map line_of ks ++ codes "every kind: " ++ keys_text shared ++ end

-- all kinds and their keys
abbrev pub kinds_text : List ℕ
kinds_text = listing_of kinds shared_keys
