-- The tables of a graph file.
use Rattle.std.specs.Prelude.{ℕ, Bool, false, List, codes, Option, option_map, option_and_then, bytes_eq}
use Rattle.std.specs.Prelude.{find}
use Rattle.std.specs.Option.{option_map_or}
use Rattle.std.specs.List.{range_with_len}
use Rattle.toml.specs.Data.{Data, table, get, at, as_str}
use Rattle.sdf_document.specs.Tables.{table_in}
use Rattle.sdf_document.specs.Lists.{Files, file_named}

-- the document in the bytes, if they are one
abbrev pub root : List ℕ → Option Data
root bytes = option_map table (table_in bytes)

-- the document in the coefficient file with this name, if there is one
abbrev pub file_root : List ℕ → Files → Option Data
file_root name files = option_and_then root (file_named name files)

-- the text at a key
unfoldable pub text_at : List ℕ → Data → Option (List ℕ)
text_at key d = option_and_then as_str (get key d)

-- a table of an array, by its number
unfoldable pub entry : List ℕ → ℕ → Data → Option Data
entry array number d = option_and_then (at number) (get array d)

abbrev pub is_text : List ℕ → Option (List ℕ) → Bool
is_text text said = option_map_or (bytes_eq text) said false

-- the text at a key of actor a
unfoldable pub actor_text : List ℕ → Data → ℕ → Option (List ℕ)
actor_text key d a = option_and_then (text_at key) (entry (codes "actor") a d)

-- actor a has this text at a key
unfoldable pub says : List ℕ → List ℕ → Data → ℕ → Bool
says key text d a = is_text text (actor_text key d a)

-- the first of n actors that has this text at a key
unfoldable pub first_with_text : List ℕ → List ℕ → Data → ℕ → Option ℕ
first_with_text key text d n = find (says key text d) (range_with_len 0 n)
