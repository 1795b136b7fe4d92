-- Tables, and the keys that they may have.
use Rattle.std.specs.Prelude.{ℕ, ℤ, pos, negsuc, ◌&&◌, List, codes, map, Option, Some, None, Result, Ok, Err, nat_le}
use Rattle.std.specs.Prelude.{bytes_eq, if◌then◌else◌}
use Rattle.std.specs.Borrow.{Bor}
use Rattle.std.specs.List.{list_any}
use Rattle.std.specs.Str.{is_utf8}
use Rattle.toml.specs.Parse.{parse_document}
use Rattle.toml.specs.Data.{Members, no_members, member, get_member, as_integer}
use Rattle.sdf_document.specs.Fault.{Place, Fault, bad_format, unknown_key, missing_key, wrong_type, ◌>>=◌, or_fault}

-- the texts that references lead to
abbrev pub texts_of : List (Bor (List ℕ)) → List (List ℕ)
texts_of ts = map (λ t. t.now) ts

-- the TOML table in the bytes, if they are one
unfoldable pub table_in : List ℕ → Option Members
table_in bytes = if is_utf8 bytes then parse_document bytes else None

-- one of the formats 1 to the last
abbrev pub format_in : Place → ℕ → ℤ → Result ℕ Fault
format_in p last (pos n) = if nat_le 1 n && nat_le n last then Ok n else Err (bad_format p)
format_in p last (negsuc n) = Err (bad_format p)

-- the whole number `format`
unfoldable pub format_at : Place → ℕ → Members → Result ℕ Fault
format_at p last ms = do
  d ← or_fault (missing_key p (codes "format")) (get_member (codes "format") ms)
  z ← or_fault (wrong_type p (codes "format")) (as_integer d)
  format_in p last z

-- the first key that is not among those known. The members of a table are in the byte order of their keys
abbrev pub first_unknown : List (List ℕ) → Members → Option (List ℕ)
first_unknown known no_members = None
first_unknown known (member k d ms) = if list_any (bytes_eq k) known then first_unknown known ms else Some k

-- a fault at what was found, if something was
abbrev pub none_of : {A : Type 0} → (A → Fault) → Option A → Result (Unit {0}) Fault
none_of f None = Ok tt
none_of f (Some x) = Err (f x)

-- no keys except those known
unfoldable pub known_keys : Place → List (List ℕ) → Members → Result (Unit {0}) Fault
known_keys p known ms = none_of (unknown_key p) (first_unknown known ms)
