-- The parts of a fault's value: its number, its name, and everything that it carries.
use Rattle.std.specs.Prelude.{ℕ, List, [], ◌∷◌, codes, string_bytes, true}
use Rattle.serde_json.specs.Data.{Data, Members, boolean, string, object, no_members}
use Rattle.sdf_document.specs.declared.fault.Place.{Place}
use Rattle.sdf_document.specs.declared.fault.Place.TheVariants as place
use Rattle.sdf_json.specs.Values.{natural, with}

-- a number and a name
abbrev pub number_and_name : ℕ → List ℕ → Members
number_and_name number name = with no_members ((codes "fault", natural number) ∷ (codes "name", string name) ∷ [])

-- a number and a name, with more members
abbrev pub told : ℕ → List ℕ → List (List ℕ × Data) → Data
told number name more = object (with (number_and_name number name) more)

abbrev pub plain_fault : ℕ → List ℕ → Data
plain_fault number name = told number name []

-- a fault with the number n under the key `word`
abbrev pub at : ℕ → List ℕ → List ℕ → ℕ → Data
at number name word n = told number name ((word, natural n) ∷ [])

-- a place under its key; the top of the graph file has no number
abbrev pub place_member : Place → List ℕ × Data
place_member place.Top = (codes "top", boolean true)
place_member (place.Actor number) = (codes "actor", natural number)
place_member (place.Link number) = (codes "link", natural number)
place_member (place.File name) = (codes "file", string (string_bytes name))

abbrev pub at_place : ℕ → List ℕ → Place → Data
at_place number name p = told number name (place_member p ∷ [])

abbrev pub at_key : ℕ → List ℕ → Place → List ℕ → Data
at_key number name p key = told number name (place_member p ∷ (codes "key", string key) ∷ [])
