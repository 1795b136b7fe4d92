-- Lists of whole numbers: in an array of their own, or in a coefficient file.
use Rattle.std.specs.Prelude.{ℕ, ℤ, pos, negsuc, ◌&&◌, Bool, true, false, IsTrue, List, [], ◌∷◌, length, codes, map}
use Rattle.std.specs.Prelude.{Option, Some, None, option_map, Result, Ok, Err, nat_le, int_le, bytes_eq, find}
use Rattle.std.specs.Prelude.{if◌then◌else◌, string_bytes}
use Rattle.std.specs.List.{list_all}
use Rattle.toml.specs.Data.{Data, Members, get_member, as_str}
use Rattle.sdf_kinds.specs.declared.row.Width.{Width}
use Rattle.sdf_kinds.specs.declared.row.Width.TheVariants.{Bits16, Bits32}
use Rattle.sdf_document.specs.declared.file.CoefficientFile.{CoefficientFile}
use Rattle.sdf_document.specs.declared.file.Files.{Files as FilesGiven}
use Rattle.sdf_document.specs.declared.file.Files.TheVariants as files
use Rattle.sdf_document.specs.Fault.{actor, file, Fault, kit_value, not_toml, no_file, missing_key, wrong_type}
use Rattle.sdf_document.specs.Fault.{bad_name, ◌>>=◌, or_fault}
use Rattle.sdf_document.specs.Tables.{table_in, format_at, known_keys}
use Rattle.sdf_document.specs.Values.{integers_at}
use Rattle.sdf_document.specs.Names.{is_file_name}

-- a list, and its coefficient file if it has one
pub record ListValue : Type 0 where
  pub file : Option (List ℕ)
  pub values : List ℤ

abbrev pub no_list : ListValue
no_list = record { file = None; values = [] }

-- ---- coefficient files

-- coefficient files, each a name and its bytes
abbrev pub Files : Type 0
Files = List (List ℕ × List ℕ)

abbrev pub files_view : List CoefficientFile → Files
files_view fs = map (λ (f : CoefficientFile). (string_bytes f.name, f.bytes.items)) fs

-- whether files are looked into, and which
pub data Lookup : Type 0 where
  unread : Lookup
  read : Files → Lookup

abbrev pub lookup_of : FilesGiven → Lookup
lookup_of files.Unread = unread
lookup_of (files.Given fs) = read (files_view fs.now)

abbrev pub are_read : FilesGiven → Bool
are_read files.Unread = false
are_read (files.Given fs) = true

-- the bytes of the first file that has the name
abbrev pub file_named : List ℕ → Files → Option (List ℕ)
file_named name files = option_map (λ f. f.1) (find (λ f. bytes_eq name f.0) files)

-- the keys of a coefficient file
abbrev pub file_keys : List (List ℕ)
file_keys = codes "format" ∷ codes "values" ∷ []

-- the values that a coefficient file lists
unfoldable pub coefficients : List ℕ → List ℕ → Result (List ℤ) Fault
coefficients name bytes = do
  ms ← or_fault (not_toml (file name)) (table_in bytes)
  format ← format_at (file name) 1 ms
  known ← known_keys (file name) file_keys ms
  d ← or_fault (missing_key (file name) (codes "values")) (get_member (codes "values") ms)
  integers_at (file name) (codes "values") d

-- ---- lists

-- a number of the width
abbrev pub fits : Width → ℤ → Bool
fits Bits16 z = int_le (negsuc 32767) z && int_le z (pos 32767)
fits Bits32 z = int_le (negsuc 2147483647) z && int_le z (pos 2147483647)

-- the numbers, if each is of the width
abbrev pub all_of : Width → List ℤ → Option (List ℤ)
all_of w zs = if list_all (fits w) zs then Some zs else None

-- from 1 to most values, each of the width
abbrev pub is_list : ℕ → Width → List ℤ → Bool
is_list most w zs = (nat_le 1 (length zs) && nat_le (length zs) most) && list_all (fits w) zs

-- the numbers, if they are a list within its limits; otherwise the key of actor a is at fault
abbrev pub list_within : ℕ → List ℕ → ℕ → Width → List ℤ → Result (List ℤ) Fault
list_within a key most w zs = if is_list most w zs then Ok zs else Err (kit_value (actor a) key)

-- the name in the key `file`
unfoldable pub name_in : ℕ → Data → Result (List ℕ) Fault
name_in a d = do
  name ← or_fault (wrong_type (actor a) (codes "file")) (as_str d)
  if is_file_name name then Ok name else Err (bad_name (actor a) (codes "file"))

-- the values of the file that has the name; no values if files are not looked into
unfoldable pub file_values : ℕ → ℕ → Width → Lookup → List ℕ → Result (List ℤ) Fault
file_values a most w unread name = Ok []
file_values a most w (read files) name = do
  bytes ← or_fault (no_file name) (file_named name files)
  zs ← coefficients name bytes
  list_within a (codes "file") most w zs

unfoldable pub list_in_file : ℕ → ℕ → Width → Lookup → Data → Result ListValue Fault
list_in_file a most w files d = do
  name ← name_in a d
  zs ← file_values a most w files name
  Ok (record { file = Some name; values = zs })

unfoldable pub array_in : ℕ → List ℕ → ℕ → Width → Data → Result ListValue Fault
array_in a key most w d = do
  zs ← integers_at (actor a) key d
  own ← list_within a key most w zs
  Ok (record { file = None; values = own })

abbrev pub list_in : ℕ → List ℕ → ℕ → Width → Lookup → Option Data → Option Data → Result ListValue Fault
list_in a key most w files (Some d) other = array_in a key most w d
list_in a key most w files None (Some d) = list_in_file a most w files d
list_in a key most w files None None = Err (missing_key (actor a) key)

-- the list of actor a: at its own key, otherwise in the file that the key `file` names
unfoldable pub list_at : ℕ → List ℕ → ℕ → Width → Lookup → Members → Result ListValue Fault
list_at a key most w files ms = list_in a key most w files (get_member key ms) (get_member (codes "file") ms)

-- if files are looked into, a list that was read is within its limits
abbrev pub IsListed : Bool → ℕ → Width → List ℤ → Type 0
IsListed looked most w zs = IsTrue looked → IsTrue (is_list most w zs)
