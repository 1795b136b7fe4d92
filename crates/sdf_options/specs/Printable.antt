-- Texts as they are printed.
use Rattle.std.specs.Prelude.{ℕ, List, [], ◌∷◌, ◌++◌, false, encode_utf8, if◌then◌else◌, ◌==◌}
use Rattle.std.specs.List.{flat_map}
use Rattle.std.specs.Char.{is_control}
use Rattle.std.specs.Fmt.{digits}
use Rattle.std.specs.Str.{chars}

-- a control character, below U+0020 or from U+007F to U+009F, as `\u{..}` with its number in lower-case hexadecimal,
-- and any other as it is
abbrev pub printable_char : ℕ → List ℕ
printable_char c = if is_control c then 92 ∷ 117 ∷ 123 ∷ digits 16 false c ++ 125 ∷ [] else encode_utf8 c

-- a text on one line
abbrev pub printable_text : List ℕ → List ℕ
printable_text text = flat_map printable_char (chars text)

-- a line end as it is, and any other character as on one line
abbrev pub line_char : ℕ → List ℕ
line_char c = if c == 10 then encode_utf8 c else printable_char c

-- a text of several lines
abbrev pub printable_lines : List ℕ → List ℕ
printable_lines text = flat_map line_char (chars text)
