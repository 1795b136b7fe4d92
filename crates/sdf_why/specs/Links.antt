-- The lines about a link, from its table.
use Rattle.std.specs.Prelude.{ℕ, ◌&&◌, ◌||◌, Bool, false, List, ◌++◌, codes, Option, Some, None, option_and_then}
use Rattle.std.specs.Prelude.{bytes_eq}
use Rattle.std.specs.Prelude.{find, if◌then◌else◌}
use Rattle.std.specs.List.{range_with_len}
use Rattle.toml.specs.Data.{Data, get}
use Rattle.sdf_why.specs.Marks.{before, after_mark, has_mark}
use Rattle.sdf_why.specs.Words.{link_line, key_line}
use Rattle.sdf_why.specs.Tables.{text_at, entry}
use Rattle.sdf_why.specs.Actors.{lines_of, first_told}

-- the line of link c, with the ends in its table
abbrev pub link_is : ℕ → Data → List ℕ
link_is c d = link_line c (text_at (codes "from") d) (text_at (codes "to") d)

unfoldable pub link_told : Data → ℕ → List ℕ
link_told d c = lines_of (link_is c) (entry (codes "link") c d)

-- the line of link c, and the line of a key of its table
abbrev pub link_key_is : ℕ → List ℕ → Option (List ℕ) → Data → List ℕ
link_key_is c key limits d = link_is c d ++ key_line key (get key d) limits

unfoldable pub link_key : ℕ → List ℕ → Option (List ℕ) → Data → List ℕ
link_key c key limits d = lines_of (link_key_is c key limits) (entry (codes "link") c d)

-- the text of an end of link c, at the key `from` or `to`
unfoldable pub end_at : List ℕ → Data → ℕ → Option (List ℕ)
end_at key d c = option_and_then (text_at key) (entry (codes "link") c d)

-- the line of the first actor that an end names
abbrev pub end_is : Data → List ℕ → List ℕ
end_is d s = first_told (codes "name") (before 58 s) d

unfoldable pub end_told : List ℕ → Data → ℕ → List ℕ
end_told key d c = lines_of (end_is d) (end_at key d c)

-- link c and the actors at its ends
unfoldable pub ends_told : Data → ℕ → List ℕ
ends_told d c = link_told d c ++ end_told (codes "from") d c ++ end_told (codes "to") d c

-- the port that an end names, 0 if it names none
unfoldable pub port_of : List ℕ → List ℕ
port_of s = if has_mark 58 s then after_mark 58 s else codes "0"

unfoldable pub same_port : List ℕ → List ℕ → Bool
same_port s t = bytes_eq (before 58 s) (before 58 t) && bytes_eq (port_of s) (port_of t)

-- both ends exist and are the same port
abbrev pub same_end : Option (List ℕ) → Option (List ℕ) → Bool
same_end (Some s) (Some t) = same_port s t
same_end (Some s) None = false
same_end None t = false

-- links c and e share an end
unfoldable pub share_end : Data → ℕ → ℕ → Bool
share_end d c e = same_end (end_at (codes "from") d c) (end_at (codes "from") d e)
    || same_end (end_at (codes "to") d c) (end_at (codes "to") d e)

-- the first of n links that shares an end with link c
unfoldable pub first_sharing : Data → ℕ → ℕ → Option ℕ
first_sharing d c n = find (share_end d c) (range_with_len 0 n)
