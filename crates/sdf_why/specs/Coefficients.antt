-- The lines about a coefficient file, and what is outside the limits in a list.
use Rattle.std.specs.Prelude.{ℕ, ◌&&◌, List, [], ◌++◌, codes, decimal, Option, option_and_then, nat_le, bytes_eq}
use Rattle.std.specs.Prelude.{Some, if◌then◌else◌}
use Rattle.toml.specs.Data.{Data, Items, get, as_array}
use Rattle.sdf_kinds.specs.declared.row.Width.TheVariants.{Bits32}
use Rattle.sdf_document.specs.Fault.{Place, top, actor, link, file}
use Rattle.sdf_document.specs.Lists.{Files}
use Rattle.sdf_document.specs.declared.list.Limits.{Limits}
use Rattle.sdf_why.specs.Limits.{kind_limits}
use Rattle.sdf_why.specs.Words.{end, quoted, item_count, key_line}
use Rattle.sdf_why.specs.Tables.{file_root, text_at, entry}
use Rattle.sdf_why.specs.Actors.{lines_of, first_told}
use Rattle.sdf_why.specs.Values.{unfit_told, unfit_at_key}

-- ---- a key of a coefficient file

-- the first actor that names the file
abbrev pub file_user : List ℕ → Data → List ℕ
file_user name d = first_told (codes "file") name d

unfoldable pub file_key : List ℕ → List ℕ → Option (List ℕ) → Files → List ℕ
file_key name key limits files =
    lines_of (λ d. key_line key (get key d) limits) (file_root name files)

-- ---- its list

-- the beginning of a line about the values in a file
unfoldable pub values_in : List ℕ → List ℕ
values_in name = codes "  " ++ quoted name ++ codes ": values"

-- the number of values in a list, and the limits of that number
unfoldable pub count_text : ℕ → List ℕ
count_text n = codes " = a list of " ++ decimal n

unfoldable pub most_text : ℕ → List ℕ
most_text most = codes ", needs 1.." ++ decimal most ++ end

unfoldable pub count_line : List ℕ → ℕ → ℕ → List ℕ
count_line label n most = label ++ count_text n ++ most_text most

-- for a list of n items: n if it is outside the limits, and otherwise the first item that does not fit
abbrev pub items_told : List ℕ → Limits → Data → ℕ → List ℕ
items_told label limits list n = if nat_le 1 n && nat_le n limits.most
    then unfit_told label (Some limits.width) list n
    else count_line label n limits.most

unfoldable pub list_told : List ℕ → Limits → Data → List ℕ
list_told name limits list =
    lines_of (λ (ds : Items). items_told (values_in name) limits list (item_count ds)) (as_array list)

-- the list in the file with this name
abbrev pub list_in : List ℕ → Files → Option Data
list_in name files = option_and_then (get (codes "values")) (file_root name files)

unfoldable pub file_told : Files → Limits → List ℕ → List ℕ
file_told files limits name = lines_of (list_told name limits) (list_in name files)

-- what is outside the limits in the file that an actor's table names
abbrev pub named_told : Files → Data → Limits → List ℕ
named_told files d limits = lines_of (file_told files limits) (text_at (codes "file") d)

-- ---- by place

-- the limits of the list that an actor's kind has
abbrev pub list_of : Data → Option Limits
list_of d = option_and_then kind_limits (text_at (codes "kind") d)

unfoldable pub table_told : Files → Data → List ℕ
table_told files d = lines_of (named_told files d) (list_of d)

-- the first value that does not fit in the list at a key of an actor's table
unfoldable pub listed_told : List ℕ → Data → List ℕ
listed_told key d = lines_of (λ (l : Limits). unfit_at_key key (Some l.width) d) (list_of d)

-- what is outside the limits at a key of an actor: in its file, or in a list of its table
unfoldable pub actor_values : List ℕ → Files → Data → List ℕ
actor_values key files d = if bytes_eq key (codes "file") then table_told files d else listed_told key d

-- what is outside the limits in the list at a key; the values on a link have 32 bits
abbrev pub values_told : Place → List ℕ → Data → Files → List ℕ
values_told top key d files = []
values_told (actor a) key d files = lines_of (actor_values key files) (entry (codes "actor") a d)
values_told (link c) key d files = lines_of (unfit_at_key key (Some Bits32)) (entry (codes "link") c d)
values_told (file name) key d files = []
