-- The diagnostic for a word that is not a kind of the graph file's format.
use Rattle.std.specs.Prelude.{ℕ, ℤ, pos, Bool, false, List, [], ◌++◌, codes, map, Option, Some, None}
use Rattle.std.specs.Prelude.{is_some, option_and_then, if◌then◌else◌}
use Rattle.std.specs.Option.{option_map_or}
use Rattle.std.specs.Ordering.{int_eq}
use Rattle.toml.specs.Data.{Data, get, as_integer}
use Rattle.sdf_similar.specs.Similar.{nearest}
use Rattle.sdf_kinds.specs.declared.row.Kind.{Kind}
use Rattle.sdf_kinds.specs.Rows.{row_of, kinds}
use Rattle.sdf_document.specs.Kinds.{kind_named}
use Rattle.sdf_why.specs.Words.{listed, key_line, hint_line, end}
use Rattle.sdf_why.specs.Tables.{actor_text}
use Rattle.sdf_why.specs.Actors.{lines_of}
use Rattle.sdf_why.specs.Near.{other_told}
use Rattle.sdf_why.specs.declared.synonyms.Purpose.{Purpose}
use Rattle.sdf_why.specs.Synonyms.{advice_of, kind_of, purpose_of}

-- ---- words

abbrev pub kind_words : List (List ℕ)
kind_words = map (λ (k : Kind). (row_of k).word) kinds

-- the line with all kinds
abbrev pub kinds_line : List ℕ
kinds_line = codes "  kinds: " ++ listed kind_words ++ end

-- ---- the format

-- the whole number at the key `format`
abbrev pub format_of : Data → Option ℤ
format_of d = option_and_then as_integer (get (codes "format") d)

abbrev pub is_format_one : Data → Bool
is_format_one d = option_map_or (λ z. int_eq z (pos 1)) (format_of d) false

-- the line of the key `format` with a kind that needs format 2, if the graph file is of format 1
unfoldable pub kind_format : List ℕ → Data → List ℕ
kind_format kind d = if is_format_one d
    then key_line (codes "format") (get (codes "format") d) (Some (codes "2 for " ++ kind)) else []

-- the format that a kind needs, if format 1 does not have it
abbrev pub format_for : Data → List ℕ → List ℕ
format_for d kind = if is_some (kind_named 1 kind) then [] else kind_format kind d

-- ---- the kind that was meant

-- the likely kind, unless it is the word itself, and the format that it needs; without one, all kinds
abbrev pub meant_told : Data → List ℕ → Option (List ℕ) → List ℕ
meant_told d word None = kinds_line
meant_told d word (Some kind) = other_told word (Some kind) ++ format_for d kind

abbrev pub kind_for : Purpose → List ℕ
kind_for purpose = (row_of (kind_of purpose)).word

-- the kind that serves a purpose, how it does so, the format that it needs, and all kinds
unfoldable pub purpose_told : Data → Purpose → List ℕ
purpose_told d purpose =
    hint_line (kind_for purpose) ++ advice_of purpose ++ format_for d (kind_for purpose) ++ kinds_line

-- a word for a purpose leads to the kind that serves it, another word to the kind that it is most like
abbrev pub known_told : Data → List ℕ → Option Purpose → List ℕ
known_told d word None = meant_told d word (nearest word kind_words)
known_told d word (Some purpose) = purpose_told d purpose

unfoldable pub word_told : Data → List ℕ → List ℕ
word_told d word = known_told d word (purpose_of word)

unfoldable pub kind_told : ℕ → Data → List ℕ
kind_told a d = lines_of (word_told d) (actor_text (codes "kind") d a)
