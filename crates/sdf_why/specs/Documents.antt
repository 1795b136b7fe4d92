-- The diagnostic for a graph file that is not read, by the first test that it fails.
use Rattle.std.specs.Prelude.{ℕ, List, [], ◌++◌, codes, decimal, Some, None, is_some, bytes_eq, if◌then◌else◌}
use Rattle.toml.specs.Data.{Data, get}
use Rattle.sdf_limits.specs.declared.TheConstants.{MAX_ACTORS, MAX_LINKS}
use Rattle.sdf_document.specs.Fault.{Place, actor, file, Fault, actor_count, channel_count, kit_value}
use Rattle.sdf_document.specs.Fault.{not_toml, bad_format, unknown_key, missing_key, wrong_type, bad_name, name_twice}
use Rattle.sdf_document.specs.Fault.{unknown_kind, bad_port, no_file}
use Rattle.sdf_kinds.specs.Rows.{KeyFormValue}
use Rattle.sdf_kinds.specs.Listing.{keys_text}
use Rattle.sdf_document.specs.Lists.{Files}
use Rattle.sdf_why.specs.Limits.{keys_of}
use Rattle.sdf_why.specs.Words.{end, key_line}
use Rattle.sdf_why.specs.Tables.{root, text_at, entry, actor_text, first_with_text}
use Rattle.sdf_why.specs.Actors.{lines_of, actor_told}
use Rattle.sdf_why.specs.Links.{link_key}
use Rattle.sdf_why.specs.Coefficients.{file_user, values_told}
use Rattle.sdf_why.specs.Places.{limits_at, place_key}
use Rattle.sdf_why.specs.Types.{type_told}
use Rattle.sdf_why.specs.Kinds.{kind_told}
use Rattle.sdf_why.specs.Near.{near_key, near_end}

-- ---- by place

-- what a place is, and the line of its key with the limits
abbrev pub place_within : Place → List ℕ → Data → Files → List ℕ
place_within place key d files = place_key place key (limits_at place key d) d files

-- the line of the key `format` at a place, with its limits
abbrev pub place_format : Place → Data → Files → List ℕ
place_format (file name) d files = place_key (file name) (codes "format") (Some (codes "1")) d files
place_format place d files = key_line (codes "format") (get (codes "format") d) (Some (codes "1 or 2"))

-- ---- by fault

-- the line about the key `file` beside the list at a key, if that list is there
abbrev pub listed_at : List ℕ → Data → List ℕ
listed_at key d = if is_some (get key d) then codes "  file stands beside " ++ key ++ end else []

unfoldable pub beside_is : List ℕ → Data → List ℕ
beside_is key d =
    if bytes_eq key (codes "file") then listed_at (codes "taps") d ++ listed_at (codes "values") d else []

-- the row of a kind in the table of kinds
unfoldable pub row_is : List ℕ → List ℕ
row_is word =
    lines_of (λ (keys : List KeyFormValue). codes "  " ++ word ++ codes ": " ++ keys_text keys ++ end) (keys_of word)

unfoldable pub keys_are : List ℕ → Data → List ℕ
keys_are key d = beside_is key d ++ lines_of row_is (text_at (codes "kind") d)

-- the keys that an actor may have
unfoldable pub known_keys : Place → List ℕ → Data → List ℕ
known_keys (actor a) key d = lines_of (keys_are key) (entry (codes "actor") a d)
known_keys place key d = []

-- the first actor before actor a that has this name
abbrev pub same_name : ℕ → Data → List ℕ → List ℕ
same_name a d name = lines_of (actor_told d) (first_with_text (codes "name") name d a)

unfoldable pub name_twice_lines : ℕ → Data → List ℕ
name_twice_lines a d = actor_told d a
    ++ lines_of (same_name a d) (actor_text (codes "name") d a)

-- the rule for a name at a key
unfoldable pub name_rule : List ℕ → List ℕ
name_rule key =
    if bytes_eq key (codes "file") then
    codes "  a file's name has 1 to 64 of A-Z a-z 0-9 _ - ., the first no dot\n"
    else
    codes "  a name has 1 to 32 of A-Z a-z 0-9 _ -, the first a letter\n"

-- the limits from least to most
abbrev pub up_to : ℕ → ℕ → List ℕ
up_to least most = decimal least ++ codes ".." ++ decimal most

abbrev pub counted : List ℕ → ℕ → ℕ → Data → List ℕ
counted key least most d = key_line key (get key d) (Some (up_to least most))

abbrev pub told : Fault → Data → Files → List ℕ
told actor_count d files = counted (codes "actor") 1 MAX_ACTORS d
told channel_count d files = counted (codes "link") 0 MAX_LINKS d
told (kit_value place key) d files = place_within place key d files ++ values_told place key d files
told (not_toml place) d files = []
told (bad_format place) d files = place_format place d files
told (unknown_key place key) d files =
    place_within place key d files ++ near_key place key d ++ known_keys place key d
told (missing_key place key) d files = place_within place key d files
told (wrong_type place key) d files = type_told place key d files
told (bad_name place key) d files = place_key place key None d files ++ name_rule key
told (name_twice a) d files = name_twice_lines a d
told (unknown_kind a) d files = actor_told d a ++ kind_told a d
told (bad_port c key) d files =
    link_key c key (Some (codes "NAME or NAME:PORT, a port of 0..15")) d ++ near_end c key d
told (no_file name) d files = file_user name d

-- the diagnostic for a fault, from the bytes of a graph file
unfoldable pub document_text : Fault → List ℕ → Files → List ℕ
document_text fault graph files = lines_of (λ d. told fault d files) (root graph)
