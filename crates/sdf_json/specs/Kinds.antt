-- The line that the command `kinds --json` prints.
use Rattle.std.specs.Prelude.{ℕ, ℤ, pos, negsuc, true, false, List, [], ◌∷◌, map, codes, Option, Some, None}
use Rattle.serde_json.specs.Data.{Data, null, boolean, number, string, object, no_members}
use Rattle.serde_json.specs.Find.{of_integer}
use Rattle.sdf_kinds.specs.declared.row.Kind.{Kind}
use Rattle.sdf_kinds.specs.declared.row.Width.TheVariants.{Bits16, Bits32}
use Rattle.sdf_kinds.specs.declared.row.Form.{Form}
use Rattle.sdf_kinds.specs.declared.row.Form.TheVariants.{Natural, Optional, Integer, FromLeast}
use Rattle.sdf_kinds.specs.declared.row.Form.TheVariants.{List as ListForm}
use Rattle.sdf_kinds.specs.declared.ports.PortRow.{PortRow}
use Rattle.sdf_kinds.specs.Ports.{ports_in, samples_in}
use Rattle.sdf_kinds.specs.Rows.{KeyFormValue, row_of, kinds, shared_keys}
use Rattle.sdf_json.specs.declared.ports.Amount.{Amount}
use Rattle.sdf_json.specs.declared.ports.Amount.TheVariants.{Zero, One, Block, Up, Down, Factor, Ways, Run}
use Rattle.sdf_json.specs.declared.kinds.Range.{Range}
use Rattle.sdf_json.specs.Values.{natural, with, object_of, list_of}
use Rattle.sdf_json.specs.Ports.{ports_of}

-- ---- ports

-- a number, or the name of the key that gives it
abbrev pub amount_value : Amount → Data
amount_value Zero = natural 0
amount_value One = natural 1
amount_value Block = string (codes "block")
amount_value Up = string (codes "up")
amount_value Down = string (codes "down")
amount_value Factor = string (codes "factor")
amount_value Ways = string (codes "ways")
amount_value Run = string (codes "run")

abbrev pub port_members : PortRow Amount → List (List ℕ × Data)
port_members p =
    (codes "inputs", amount_value (ports_in p.inputs)) ∷ (codes "takes", amount_value (samples_in p.inputs))
    ∷ (codes "outputs", amount_value (ports_in p.outputs)) ∷ (codes "puts", amount_value (samples_in p.outputs))
    ∷ (codes "cycle", amount_value p.cycle) ∷ []

-- ---- keys

abbrev pub needed : ℤ → ℤ → Range
needed least most = record { least = least; most = most; default = None; needed = true }

abbrev pub optional : ℤ → ℤ → Option ℤ → Range
optional least most default = record { least = least; most = most; default = default; needed = false }

-- the numbers of a form; for a list, the range of each of its numbers
abbrev pub range_of : Form → Range
range_of (Natural least most None) = needed (pos least) (pos most)
range_of (Natural least most (Some n)) = optional (pos least) (pos most) (Some (pos n))
range_of (Optional least most) = optional (pos least) (pos most) None
range_of (Integer least most None) = needed least most
range_of (Integer least most (Some z)) = optional least most (Some z)
range_of (FromLeast least most None) = needed least most
range_of (FromLeast least most (Some z)) = optional least most (Some z)
range_of (ListForm most Bits16) = needed (negsuc 32767) (pos 32767)
range_of (ListForm most Bits32) = needed (negsuc 2147483647) (pos 2147483647)

abbrev pub absent : Option ℤ → Data
absent None = null
absent (Some z) = number (of_integer z)

abbrev pub range_members : Range → List (List ℕ × Data)
range_members r =
    (codes "least", number (of_integer r.least)) ∷ (codes "most", number (of_integer r.most))
    ∷ (codes "default", absent r.default) ∷ (codes "needed", boolean r.needed) ∷ []

-- the key that a number may not be below, or the most numbers that a list may have
abbrev pub more_members : Form → List (List ℕ × Data)
more_members (Natural least most absent) = []
more_members (Optional least most) = []
more_members (Integer least most absent) = []
more_members (FromLeast least most absent) = (codes "from", string (codes "least")) ∷ []
more_members (ListForm most width) = (codes "values", natural most) ∷ []

abbrev pub key_value : KeyFormValue → Data
key_value k = object
    (with (with (with no_members ((codes "name", string k.name) ∷ [])) (range_members (range_of k.form)))
    (more_members k.form))

-- ---- kinds

-- the keys of a kind, its name, the first format that has it, and its ports
abbrev pub kind_value : Kind → Data
kind_value k = object (with (with no_members ((codes "keys", list_of (map key_value (row_of k).keys))
    ∷ (codes "name", string (row_of k).word) ∷ (codes "since", natural (row_of k).since) ∷ []))
    (port_members (ports_of k)))

-- all kinds, and the keys that every actor may have
abbrev pub kinds_value : Data
kinds_value = object_of ((codes "kinds", list_of (map kind_value kinds))
    ∷ (codes "keys", list_of (map key_value shared_keys)) ∷ [])
