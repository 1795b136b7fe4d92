-- The table of kinds: one row for each.
use Rattle.std.specs.Prelude.{ℕ, ℤ, pos, negsuc, List, [], ◌∷◌, codes, map, Option, Some, None}
use Rattle.sdf_limits.specs.declared.TheConstants.{LEAST_WAYS, MAX_CHANNEL, MAX_COST, MAX_DELAY, MAX_FACTOR}
use Rattle.sdf_limits.specs.declared.TheConstants.{MAX_PROCESSOR, MAX_RATE, MAX_RUN, MAX_SHIFT, MAX_TAPS}
use Rattle.sdf_limits.specs.declared.TheConstants.{MAX_VALUES, MAX_WAYS}
use Rattle.sdf_kinds.specs.declared.key.Key.{Key}
use Rattle.sdf_kinds.specs.declared.key.Key.TheVariants as keys
use Rattle.sdf_kinds.specs.declared.row.Kind.{Kind}
use Rattle.sdf_kinds.specs.declared.row.Kind.TheVariants as kind
use Rattle.sdf_kinds.specs.declared.row.Width.TheVariants.{Bits16, Bits32}
use Rattle.sdf_kinds.specs.declared.row.Form.{Form}
use Rattle.sdf_kinds.specs.declared.row.Form.TheVariants.{Natural, Optional, Integer, FromLeast}
use Rattle.sdf_kinds.specs.declared.row.Form.TheVariants.{List as ListForm}
use Rattle.sdf_kinds.specs.declared.row.KeyForm.{KeyForm}
use Rattle.sdf_kinds.specs.declared.row.Row.{Row}
use Rattle.sdf_kinds.specs.Keys.{key_name}

-- a key of a row, and the form of its value
pub record KeyFormValue : Type 0 where
  pub name : List ℕ
  pub form : Form

-- a kind: its word, the first format that has it, and its keys in the order in which they are tested
pub record RowValue : Type 0 where
  pub word : List ℕ
  pub since : ℕ
  pub keys : List KeyFormValue

abbrev pub key : Key → Form → KeyFormValue
key k form = record { name = key_name k; form = form }

abbrev pub key_view : KeyForm → KeyFormValue
key_view k = key k.0 k.1

abbrev pub keys_view : List KeyForm → List KeyFormValue
keys_view ks = map key_view ks

abbrev pub row_view : Row → RowValue
row_view r = record { word = r.word.now; since = r.since; keys = keys_view r.keys.now }

abbrev pub row : List ℕ → ℕ → List KeyFormValue → RowValue
row word since keys = record { word = word; since = since; keys = keys }

-- ---- forms that several keys have

-- from 1 to the greatest factor
abbrev pub factor : Option ℕ → Form
factor absent = Natural 1 MAX_FACTOR absent

abbrev pub ways : Form
ways = Natural LEAST_WAYS MAX_WAYS None

abbrev pub shift : Form
shift = Natural 0 MAX_SHIFT None

-- whole numbers of 16 bits
abbrev pub bits16 : Option ℤ → Form
bits16 absent = Integer (negsuc 32767) (pos 32767) absent

-- ---- the rows

-- the keys that every actor may have; they are tested after the keys of its kind
abbrev pub shared_keys : List KeyFormValue
shared_keys = key keys.Processor (Optional 0 MAX_PROCESSOR)
    ∷ key keys.Cost (Natural 1 MAX_COST (Some 1)) ∷ []

abbrev pub channel_keys : List KeyFormValue
channel_keys = key keys.Channel (Natural 0 MAX_CHANNEL None)
    ∷ key keys.Block (Natural 1 MAX_RATE (Some 1)) ∷ []

abbrev pub turn_keys : List KeyFormValue
turn_keys = key keys.Ways ways ∷ key keys.Run (Natural 1 MAX_RUN (Some 1)) ∷ []

abbrev pub row_of : Kind → RowValue
row_of kind.Input = row (codes "input") 1 channel_keys
row_of kind.Output = row (codes "output") 1 channel_keys
row_of kind.Fir =
    row (codes "fir") 1 (key keys.Up (factor (Some 1)) ∷ key keys.Down (factor (Some 1))
    ∷ key keys.Shift shift
    ∷ key keys.Taps (ListForm MAX_TAPS Bits16) ∷ [])
row_of kind.Decimate = row (codes "decimate") 1 (key keys.Factor (factor None) ∷ [])
row_of kind.Interpolate = row (codes "interpolate") 1 (key keys.Factor (factor None) ∷ [])
row_of kind.Add = row (codes "add") 1 (key keys.Ways ways ∷ [])
row_of kind.Fork = row (codes "fork") 1 (key keys.Ways ways ∷ [])
row_of kind.Gain = row (codes "gain") 1 (key keys.Gain (bits16 None)
    ∷ key keys.Shift shift ∷ [])
row_of kind.Delay = row (codes "delay") 1 (key keys.Length (Natural 0 MAX_DELAY None) ∷ [])
row_of kind.Table =
    row (codes "table") 1 (key keys.Offset (Integer (negsuc 2147483647) (pos 2147483647) None)
    ∷ key keys.Values (ListForm MAX_VALUES Bits32) ∷ [])
row_of kind.Deal = row (codes "deal") 2 turn_keys
row_of kind.Gather = row (codes "gather") 2 turn_keys
row_of kind.Clip = row (codes "clip") 2 (key keys.Least (bits16 (Some (negsuc 32767)))
    ∷ key keys.Greatest (FromLeast (negsuc 32767) (pos 32767) (Some (pos 32767))) ∷ [])
row_of kind.Offset = row (codes "offset") 2 (key keys.Value (bits16 None) ∷ [])

-- all kinds
abbrev pub kinds : List Kind
kinds =
    kind.Input ∷ kind.Output ∷ kind.Fir ∷ kind.Decimate ∷ kind.Interpolate ∷ kind.Add ∷ kind.Fork ∷ kind.Gain
    ∷ kind.Delay ∷ kind.Table
    ∷ kind.Deal ∷ kind.Gather ∷ kind.Clip ∷ kind.Offset ∷ []
