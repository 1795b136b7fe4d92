-- The names of the faults.
use Rattle.std.specs.Prelude.{◌≡◌, ℕ, ◌-◌, ◌≤◌, List, [], ◌++◌, length, map, get_or, codes, decimal}
use Rattle.sdf_cli.specs.declared.explain.names.TheConstants.{NAMES}

-- the names of the faults, in the order of their numbers from 1 on
abbrev pub names : List (List ℕ)
names = map (λ name. name.now) NAMES.now

-- the name of the fault `number` is `name`
pub record IsNamed (number : ℕ) (name : List ℕ) : Type 0 where
  pub above_0 : 1 ≤ number
  pub within : number ≤ length names
  pub named : get_or names (number - 1) [] ≡ name

-- the first line of an explanation
unfoldable pub heading : ℕ → List ℕ → List ℕ
heading number name = decimal number ++ codes " " ++ name ++ codes "\n"

-- the text begins with the number and the name of the fault `number`
abbrev pub Explains : ℕ → List ℕ → Type 0
Explains number text = (name rest : List ℕ) × IsNamed number name × (text ≡ heading number name ++ rest)
