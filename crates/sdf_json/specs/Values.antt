-- The parts of the schemas' values, and the printed line of a value.
use Rattle.std.specs.Prelude.{◌≡◌, ℕ, zero, suc, List, [], ◌∷◌, ◌++◌, Option, Some, None}
use Rattle.serde_json.specs.Data.{Data, Members, null, number, unsigned, array, object, no_members, put}
use Rattle.serde_json.specs.View.{items_of}
use Rattle.serde_json.specs.Read.{read}
use Rattle.serde_json.specs.Written.{IsInOrder}
use Rattle.json.specs.Lex.{tokens}
use Rattle.json.specs.Print.{print}

abbrev pub natural : ℕ → Data
natural n = number (unsigned n)

-- a number, or null if there is none
abbrev pub or_null : Option ℕ → Data
or_null None = null
or_null (Some n) = natural n

-- members with more of them put in, each a key and its value
abbrev pub with : Members → List (List ℕ × Data) → Members
with ms [] = ms
with ms (m ∷ more) = with (put m.0 m.1 ms) more

-- an object of these members; they are written in the order of their keys
abbrev pub object_of : List (List ℕ × Data) → Data
object_of ms = object (with no_members ms)

abbrev pub list_of : List Data → Data
list_of ds = array (items_of ds)

-- the values of f for 0, 1, .. below n
abbrev pub each_to : (ℕ → Data) → ℕ → List Data
each_to f zero = []
each_to f (suc n) = each_to f n ++ f n ∷ []

-- the text is one line, with its end: the line reads as the value, and has no blanks between its tokens; it has the
-- items and the members of the value in their order, each once
pub record IsLineOf (d : Data) (text : List ℕ) : Type 0 where
  pub line : List ℕ
  pub reads : read line ≡ Some d
  pub compact : line ≡ print (tokens line)
  pub in_order : IsInOrder line d
  pub is : text ≡ line ++ 10 ∷ []
