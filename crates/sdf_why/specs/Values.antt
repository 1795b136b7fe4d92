-- The first value of a list that does not fit.
use Rattle.std.specs.Prelude.{ℕ, ℤ, not, Bool, true, false, List, ◌++◌, codes, decimal, Option, Some, None, find}
use Rattle.std.specs.Prelude.{option_and_then}
use Rattle.std.specs.Option.{option_map_or}
use Rattle.std.specs.List.{range_with_len}
use Rattle.toml.specs.Data.{Data, Items, get, at, as_integer, as_array}
use Rattle.sdf_kinds.specs.declared.row.Width.{Width}
use Rattle.sdf_kinds.specs.declared.row.Width.TheVariants.{Bits16, Bits32}
use Rattle.sdf_document.specs.Lists.{fits}
use Rattle.sdf_why.specs.Words.{end, value_text, item_count}
use Rattle.sdf_why.specs.Actors.{lines_of}

-- ---- one value

-- a number of a width; without a width, any number
abbrev pub is_within : Option Width → ℤ → Bool
is_within None z = true
is_within (Some width) z = fits width z

-- item i of a list is not a whole number, or not of the width
unfoldable pub is_unfit : Option Width → Data → ℕ → Bool
is_unfit width list i = not (option_map_or (is_within width) (option_and_then as_integer (at i list)) false)

-- the first of n items that is not a whole number, or not of the width
unfoldable pub first_unfit : Option Width → Data → ℕ → Option ℕ
first_unfit width list n = find (is_unfit width list) (range_with_len 0 n)

-- the range of a width; without a width, the type
abbrev pub width_text : Option Width → List ℕ
width_text None = codes "a whole number"
width_text (Some Bits16) = codes "-32768..32767"
width_text (Some Bits32) = codes "-2147483648..2147483647"

-- the index of a value, and the range or the type that it needs
unfoldable pub place_text : ℕ → List ℕ
place_text i = codes "[" ++ decimal i ++ codes "] = "

abbrev pub width_needed : Option Width → List ℕ
width_needed width = codes ", needs " ++ width_text width ++ end

-- the line of a value, begun by a label of its list
unfoldable pub value_line : List ℕ → Option Width → ℕ → Data → List ℕ
value_line label width i d = label ++ place_text i ++ value_text d ++ width_needed width

unfoldable pub value_told : List ℕ → Option Width → Data → ℕ → List ℕ
value_told label width list i = lines_of (value_line label width i) (at i list)

-- the first of the n items of a list that does not fit
unfoldable pub unfit_told : List ℕ → Option Width → Data → ℕ → List ℕ
unfit_told label width list n = lines_of (value_told label width list) (first_unfit width list n)

-- ---- the list at a key of a table

unfoldable pub key_label : List ℕ → List ℕ
key_label key = codes "  " ++ key

unfoldable pub unfit_in_list : List ℕ → Option Width → Data → List ℕ
unfit_in_list key width list =
    lines_of (λ (ds : Items). unfit_told (key_label key) width list (item_count ds)) (as_array list)

-- the first value that does not fit in the list at a key
unfoldable pub unfit_at_key : List ℕ → Option Width → Data → List ℕ
unfit_at_key key width d = lines_of (unfit_in_list key width) (get key d)
