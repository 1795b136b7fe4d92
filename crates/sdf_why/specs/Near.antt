-- What the user may have meant: a known name that is like an unknown one.
use Rattle.std.specs.Prelude.{ℕ, List, [], ◌∷◌, ◌++◌, codes, Option, Some, None, bytes_eq, if◌then◌else◌}
use Rattle.std.specs.Option.{option_map_or}
use Rattle.std.specs.List.{flat_map, range_with_len}
use Rattle.toml.specs.Data.{Data}
use Rattle.sdf_limits.specs.declared.TheConstants.{MAX_ACTORS}
use Rattle.sdf_similar.specs.Similar.{nearest}
use Rattle.sdf_kinds.specs.declared.row.Form.{Form}
use Rattle.sdf_kinds.specs.declared.row.Form.TheVariants.{Natural, Optional, Integer, FromLeast}
use Rattle.sdf_kinds.specs.declared.row.Form.TheVariants.{List as ListForm}
use Rattle.sdf_document.specs.Fault.{Place, top, actor, link, file}
use Rattle.sdf_kinds.specs.Rows.{KeyFormValue, shared_keys}
use Rattle.sdf_document.specs.Document.{top_keys}
use Rattle.sdf_document.specs.Links.{link_keys}
use Rattle.sdf_document.specs.Lists.{file_keys}
use Rattle.sdf_why.specs.Marks.{before}
use Rattle.sdf_why.specs.Limits.{keys_of}
use Rattle.sdf_why.specs.Words.{hint_line}
use Rattle.sdf_why.specs.Tables.{actor_text}
use Rattle.sdf_why.specs.Actors.{lines_of}
use Rattle.sdf_why.specs.Links.{end_at}

-- a name that is like a word, unless it is the word itself
abbrev pub other_told : List ℕ → Option (List ℕ) → List ℕ
other_told word None = []
other_told word (Some name) = if bytes_eq name word then [] else hint_line name

-- the first of the names that is most like a word, unless it is the word itself
unfoldable pub near_told : List (List ℕ) → List ℕ → List ℕ
near_told names word = other_told word (nearest word names)

-- ---- keys

-- `file` may stand in place of a list
abbrev pub file_beside : Form → List (List ℕ)
file_beside (Natural least most absent) = []
file_beside (Optional least most) = []
file_beside (Integer least most absent) = []
file_beside (FromLeast least most absent) = []
file_beside (ListForm most width) = codes "file" ∷ []

abbrev pub key_names : KeyFormValue → List (List ℕ)
key_names k = k.name ∷ file_beside k.form

-- the names of the keys of a kind, in any format
abbrev pub kind_keys : List ℕ → List (List ℕ)
kind_keys word = option_map_or (flat_map key_names) (keys_of word) []

-- the keys that an actor of a kind may have
unfoldable pub actor_keys : List ℕ → List (List ℕ)
actor_keys word = (codes "name" ∷ codes "kind" ∷ []) ++ kind_keys word ++ flat_map key_names shared_keys

-- the key that may have been meant in the table of actor a
unfoldable pub near_actor_key : ℕ → List ℕ → Data → List ℕ
near_actor_key a key d = lines_of (λ word. near_told (actor_keys word) key) (actor_text (codes "kind") d a)

-- the key that may have been meant at a place
abbrev pub near_key : Place → List ℕ → Data → List ℕ
near_key top key d = near_told top_keys key
near_key (actor a) key d = near_actor_key a key d
near_key (link c) key d = near_told link_keys key
near_key (file name) key d = near_told file_keys key

-- ---- actors

-- the name of actor a, if it has one
unfoldable pub name_in : Data → ℕ → List (List ℕ)
name_in d a = option_map_or (λ name. name ∷ []) (actor_text (codes "name") d a) []

abbrev pub actor_names : Data → List (List ℕ)
actor_names d = flat_map (name_in d) (range_with_len 0 MAX_ACTORS)

-- the actor that may have been meant by an end of link c
abbrev pub near_actor : Data → List ℕ → List ℕ
near_actor d said = near_told (actor_names d) (before 58 said)

unfoldable pub near_end : ℕ → List ℕ → Data → List ℕ
near_end c key d = lines_of (near_actor d) (end_at key d c)
