-- Parts of the texts.
use Rattle.std.specs.Prelude.{ℕ, List, [], ◌++◌, ◌==◌, if◌then◌else◌, length, sum, codes, decimal}
use Rattle.std.specs.Prelude.{encode_utf8}
use Rattle.std.specs.Prelude.{slice_index_or}
use Rattle.std.specs.List.{flat_map}
use Rattle.std.specs.Str.{chars}
use Rattle.sdf_file.specs.Designs.{DesignValue}
use Rattle.sdf_draw.specs.declared.texts.Within.{Within}
use Rattle.sdf_draw.specs.declared.texts.Within.TheVariants.{Marks, Quotes}

-- a text and a number
abbrev pub number_text : List ℕ → ℕ → List ℕ
number_text word n = word ++ decimal n

-- two texts, each with a number behind it
unfoldable pub pair_text : List ℕ → ℕ → List ℕ → ℕ → List ℕ
pair_text one x other y = number_text one x ++ number_text other y

-- a character escaped for markup (& < > " and ' as entities) or for a text between quotes (" and \ behind a \)
abbrev pub escaped_char : Within → ℕ → List ℕ
escaped_char Marks c =
    if c == 38 then codes "&amp;" else (if c == 60 then codes "&lt;" else (if c == 62 then codes "&gt;"
    else (if c == 34 then codes "&quot;" else (if c == 39 then codes "&#39;" else encode_utf8 c))))
escaped_char Quotes c = if c == 34 then codes "\\\"" else (if c == 92 then codes "\\\\" else encode_utf8 c)

abbrev pub escaped : Within → List ℕ → List ℕ
escaped within text = flat_map (escaped_char within) (chars text)

unfoldable pub name_text : DesignValue → ℕ → List ℕ
name_text d a = escaped Marks (slice_index_or d.names a [])

-- the samples that firings with these rates move: the only rate, or the sum of a cycle and its number of firings
unfoldable pub rate_text : List ℕ → List ℕ
rate_text rates =
    number_text [] (sum rates) ++ (if length rates == 1 then [] else number_text (codes "/") (length rates))
