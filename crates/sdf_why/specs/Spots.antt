-- The line of a key or a table among the lines of a file, counted from 0.
use Rattle.std.specs.Prelude.{ℕ, ◌&&◌, ◌==◌, ◌-◌, ◌+◌, Bool, List, [], find, slice_index, bytes_eq, min}
use Rattle.std.specs.Prelude.{Option, Some, None, if◌then◌else◌}
use Rattle.std.specs.Option.{option_map_or}
use Rattle.std.specs.Str.{trim, trim_start}
use Rattle.std.specs.List.{range_with_len, slice_get}
use Rattle.sdf_why.specs.Marks.{before, after_mark, has_mark}

-- ---- one line; 91 and 93 are brackets, 61 is an equals sign

unfoldable pub line_at : List (List ℕ) → ℕ → List ℕ
line_at ls at = option_map_or (λ line. line) (slice_get ls at) []

-- the line begins a table
unfoldable pub is_table : List ℕ → Bool
is_table line = slice_index (trim_start line) 0 == 91

-- the text behind the first one or two brackets
unfoldable pub behind_brackets : List ℕ → List ℕ
behind_brackets text =
    if has_mark 91 (after_mark 91 text) then after_mark 91 (after_mark 91 text) else after_mark 91 text

-- the line begins a table of this name, as `[[actor]]` does for `actor`
unfoldable pub begins : List ℕ → List ℕ → Bool
begins name line = is_table line && bytes_eq (trim (behind_brackets (before 93 line))) name

-- the line begins with this key
unfoldable pub has_key : List ℕ → List ℕ → Bool
has_key key line = has_mark 61 line && bytes_eq (trim (before 61 line)) key

-- ---- n lines

-- the first line from `from` on that begins a table, or the end
abbrev pub next_table : ℕ → ℕ → List (List ℕ) → Option ℕ
next_table from n ls = find (λ at. is_table (line_at ls at)) (range_with_len from (n - from))

abbrev pub or_line : ℕ → Option ℕ → ℕ
or_line n None = n
or_line n (Some at) = at

abbrev pub table_end : ℕ → ℕ → List (List ℕ) → ℕ
table_end from n ls = or_line n (next_table from n ls)

-- the line with a key in the table whose lines begin at `from`
abbrev pub key_line : List ℕ → ℕ → ℕ → List (List ℕ) → Option ℕ
key_line key from n ls =
    find (λ at. has_key key (line_at ls at)) (range_with_len from (table_end from n ls - from))

-- the line with a key in the table that begins at a line, or that line
abbrev pub line_behind : Option (List ℕ) → ℕ → List (List ℕ) → ℕ → ℕ
line_behind None n ls begin = begin
line_behind (Some key) n ls begin = or_line begin (key_line key (min (begin + 1) n) n ls)
