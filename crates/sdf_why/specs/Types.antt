-- The type that a key needs, for a value of another type.
use Rattle.std.specs.Prelude.{ℕ, ◌||◌, Bool, List, [], ◌++◌, codes, Option, Some, None, bytes_eq}
use Rattle.std.specs.Prelude.{option_and_then, if◌then◌else◌}
use Rattle.toml.specs.Data.{Data, get, type_name}
use Rattle.sdf_document.specs.Fault.{Place, top, actor, link, file}
use Rattle.sdf_document.specs.Lists.{Files}
use Rattle.sdf_why.specs.Tables.{file_root, entry}
use Rattle.sdf_why.specs.Actors.{lines_of}
use Rattle.sdf_why.specs.Values.{unfit_at_key}
use Rattle.sdf_why.specs.Places.{limits_at, place_key}

-- keys of texts, and of lists; `types_of_rows` compares them with the forms of rows
abbrev pub is_text_key : List ℕ → Bool
is_text_key key = bytes_eq key (codes "name") || (bytes_eq key (codes "kind") || (bytes_eq key (codes "file")
    || (bytes_eq key (codes "from") || bytes_eq key (codes "to"))))

abbrev pub is_list_key : List ℕ → Bool
is_list_key key = bytes_eq key (codes "taps") || (bytes_eq key (codes "values") || bytes_eq key (codes "initial"))

-- the type that a key needs; all other keys are of whole numbers
unfoldable pub type_of : List ℕ → List ℕ
type_of key =
    if bytes_eq key (codes "actor") then codes "double brackets: [[actor]]" else
    if bytes_eq key (codes "link") then codes "double brackets: [[link]]" else
    if is_text_key key then codes "a text in quotes" else
    if is_list_key key then codes "a list of whole numbers" else
    codes "a whole number"

abbrev pub limits_behind : Option (List ℕ) → List ℕ
limits_behind None = []
limits_behind (Some limits) = codes ", " ++ limits

-- the type that a key needs, and its limits if it has some; those of `file` are the limits of the list in the file
abbrev pub type_within : List ℕ → Option (List ℕ) → List ℕ
type_within key limits = type_of key ++ (if is_text_key key then [] else limits_behind limits)

-- what a place is, and the line of its key with the type that it needs and the limits
abbrev pub place_type : Place → List ℕ → Data → Files → List ℕ
place_type place key d files = place_key place key (Some (type_within key (limits_at place key d))) d files

-- the table of a place
abbrev pub table_of : Place → Data → Files → Option Data
table_of top d files = Some d
table_of (actor a) d files = entry (codes "actor") a d
table_of (link c) d files = entry (codes "link") c d
table_of (file name) d files = file_root name files

-- the first value that is not a whole number in the list at a key of a place
abbrev pub non_integer_told : Place → List ℕ → Data → Files → List ℕ
non_integer_told place key d files = lines_of (unfit_at_key key None) (table_of place d files)

-- how a half is written, if the value is a number with a point
unfoldable pub half_line : Data → List ℕ
half_line d = if bytes_eq (type_name d) (codes "float") then codes "  a half is gain = 1, shift = 1\n" else []

abbrev pub half_told : Place → Data → List ℕ
half_told top d = []
half_told (actor a) d = lines_of half_line (option_and_then (get (codes "gain")) (entry (codes "actor") a d))
half_told (link c) d = []
half_told (file name) d = []

-- what follows the line of a key: for a list its first value that is not a whole number, for a gain how a half is
-- written
abbrev pub value_told : Place → List ℕ → Data → Files → List ℕ
value_told place key d files =
    if is_list_key key then non_integer_told place key d files else
    if bytes_eq key (codes "gain") then half_told place d else []

-- the line of a key of another type, and what follows it
abbrev pub type_told : Place → List ℕ → Data → Files → List ℕ
type_told place key d files = place_type place key d files ++ value_told place key d files
