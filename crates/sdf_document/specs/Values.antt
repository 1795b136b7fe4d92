-- Values at single keys.
use Rattle.std.specs.Prelude.{ℕ, ℤ, pos, negsuc, ◌&&◌, List, [], ◌∷◌, Option, Some, None, option_map, option_and_then}
use Rattle.std.specs.Prelude.{Result, Ok, Err, nat_le, int_le, if◌then◌else◌}
use Rattle.toml.specs.Data.{Data, Items, no_items, item, Members, get_member, as_str, as_integer, as_array}
use Rattle.sdf_document.specs.Fault.{Place, actor, Fault, kit_value, missing_key, wrong_type, ◌>>=◌, or_fault}

-- the text at a key that must be there
unfoldable pub text_at : Place → List ℕ → Members → Result (List ℕ) Fault
text_at p key ms = do
  d ← or_fault (missing_key p key) (get_member key ms)
  or_fault (wrong_type p key) (as_str d)

abbrev pub within_natural : Place → List ℕ → ℕ → ℕ → ℤ → Result ℕ Fault
within_natural p key least most (pos n) = if nat_le least n && nat_le n most then Ok n else Err (kit_value p key)
within_natural p key least most (negsuc n) = Err (kit_value p key)

-- a whole number from least to most, at a key
unfoldable pub natural_in : Place → List ℕ → ℕ → ℕ → Data → Result ℕ Fault
natural_in p key least most d = do
  z ← or_fault (wrong_type p key) (as_integer d)
  within_natural p key least most z

-- a whole number from least to most, at a key that may be absent
abbrev pub optional_at : Place → List ℕ → ℕ → ℕ → Option Data → Result (Option ℕ) Fault
optional_at p key least most None = Ok None
optional_at p key least most (Some d) = natural_in p key least most d >>= λ n. Ok (Some n)

abbrev pub within_integer : ℕ → List ℕ → ℤ → ℤ → ℤ → Result ℤ Fault
within_integer a key least most z = if int_le least z && int_le z most then Ok z else Err (kit_value (actor a) key)

-- a whole number of either sign, from least to most, at a key of actor a
unfoldable pub integer_in : ℕ → List ℕ → ℤ → ℤ → Data → Result ℤ Fault
integer_in a key least most d = do
  z ← or_fault (wrong_type (actor a) key) (as_integer d)
  within_integer a key least most z

-- the whole numbers of an array, if each item is one
abbrev pub integers_in : Items → Option (List ℤ)
integers_in no_items = Some []
integers_in (item d ds) = option_and_then (λ z. option_map (λ zs. z ∷ zs) (integers_in ds)) (as_integer d)

unfoldable pub integers_at : Place → List ℕ → Data → Result (List ℤ) Fault
integers_at p key d = do
  ds ← or_fault (wrong_type p key) (as_array d)
  or_fault (wrong_type p key) (integers_in ds)
