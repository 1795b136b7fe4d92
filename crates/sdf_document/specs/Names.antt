-- Names of actors and of coefficient files.
use Rattle.std.specs.Prelude.{◌≡◌, ℕ, ◌==◌, ◌&&◌, ◌||◌, not, Bool, false, List, [], ◌∷◌, ◌++◌, length, nat_le}
use Rattle.std.specs.Prelude.{slice_index, map, String, string_bytes, bytes_eq, if◌then◌else◌}
use Rattle.std.specs.List.{list_all, list_any}
use Rattle.std.specs.declared.alloc.Global.{Global}

-- the texts of names, in their order
abbrev pub names_of : List (String Global) → List (List ℕ)
names_of = map string_bytes

-- a name put last, unless it is there
abbrev pub with_name : List (List ℕ) → List ℕ → List (List ℕ)
with_name names x = if list_any (bytes_eq x) names then names else names ++ x ∷ []

-- a new name, put last
abbrev pub IsNamed : List (List ℕ) → List ℕ → List (List ℕ) → Type 0
IsNamed names x named = (list_any (bytes_eq x) names ≡ false) × (named ≡ names ++ x ∷ [])

-- A-Z a-z
abbrev pub is_letter : ℕ → Bool
is_letter b = (nat_le 65 b && nat_le b 90) || (nat_le 97 b && nat_le b 122)

-- a letter, 0-9, `_` or `-`
abbrev pub is_name_byte : ℕ → Bool
is_name_byte b = is_letter b || ((nat_le 48 b && nat_le b 57) || ((b == 95) || (b == 45)))

-- 1 to 32 characters, the first a letter
unfoldable pub is_name : List ℕ → Bool
is_name s = (nat_le (length s) 32 && is_letter (slice_index s 0)) && list_all is_name_byte s

-- a letter, 0-9, `_`, `-` or a dot
abbrev pub is_file_byte : ℕ → Bool
is_file_byte b = is_name_byte b || (b == 46)

-- 1 to 64 characters, the first not a dot
unfoldable pub is_file_name : List ℕ → Bool
is_file_name s = ((nat_le 1 (length s) && nat_le (length s) 64) && not (slice_index s 0 == 46))
    && list_all is_file_byte s
