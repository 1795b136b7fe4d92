-- Names that are like a word.
use Rattle.std.specs.Prelude.{ℕ, ◌+◌, ◌/◌, List, [], ◌∷◌, length, min, find, nat_eq, nat_lt, nat_le, Option, None}
use Rattle.std.specs.Prelude.{if◌then◌else◌}
use Rattle.std.specs.Str.{chars}
use Rattle.strsim.specs.Edits.{levenshtein_row}

-- the least number of characters to insert, delete or change to make one text from the other
abbrev pub edits : List ℕ → List ℕ → ℕ
edits from to = levenshtein_row nat_eq (chars from) (chars to) (length (chars to))

-- a name is like a word if fewer edits lead to it than this
abbrev pub edit_bound : List ℕ → ℕ
edit_bound word = length word / 3 + 2

-- the least of n and of the edits that lead from the word to each name
abbrev pub fewest_edits : List ℕ → ℕ → List (List ℕ) → ℕ
fewest_edits word n [] = n
fewest_edits word n (name ∷ names) = fewest_edits word (min n (edits word name)) names

-- the first of the names that at most n edits lead to
abbrev pub first_within : List ℕ → ℕ → List (List ℕ) → Option (List ℕ)
first_within word n names = find (λ name. nat_le (edits word name) n) names

abbrev pub fewest : List ℕ → List (List ℕ) → ℕ
fewest word names = fewest_edits word (edit_bound word) names

-- the first name with the fewest edits from the word, if it is like the word
unfoldable pub nearest : List ℕ → List (List ℕ) → Option (List ℕ)
nearest word names =
    if nat_lt (fewest word names) (edit_bound word) then first_within word (fewest word names) names else None
