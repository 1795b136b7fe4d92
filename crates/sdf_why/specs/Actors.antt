-- The lines about an actor, from its table.
use Rattle.std.specs.Prelude.{ℕ, List, [], ◌++◌, codes, Option, option_and_then}
use Rattle.std.specs.Option.{option_map_or}
use Rattle.toml.specs.Data.{Data, get}
use Rattle.sdf_limits.specs.declared.TheConstants.{MAX_ACTORS}
use Rattle.sdf_why.specs.Limits.{limits_of}
use Rattle.sdf_why.specs.Words.{actor_line, key_line}
use Rattle.sdf_why.specs.Tables.{text_at, entry, first_with_text}

-- the lines of a value, or nothing if there is none
abbrev pub lines_of : {A : Type 0} → (A → List ℕ) → Option A → List ℕ
lines_of line o = option_map_or line o []

-- the line of actor a, with the name and the kind in its table
abbrev pub actor_is : ℕ → Data → List ℕ
actor_is a d = actor_line a (text_at (codes "name") d) (text_at (codes "kind") d)

unfoldable pub actor_told : Data → ℕ → List ℕ
actor_told d a = lines_of (actor_is a) (entry (codes "actor") a d)

-- the limits of a key in an actor's table, by its kind
unfoldable pub actor_limits : List ℕ → Data → Option (List ℕ)
actor_limits key d = option_and_then (λ word. limits_of word key) (text_at (codes "kind") d)

-- the line of actor a, and the line of a key of its table
abbrev pub actor_key_is : ℕ → List ℕ → Option (List ℕ) → Data → List ℕ
actor_key_is a key limits d = actor_is a d ++ key_line key (get key d) limits

unfoldable pub actor_key : ℕ → List ℕ → Option (List ℕ) → Data → List ℕ
actor_key a key limits d = lines_of (actor_key_is a key limits) (entry (codes "actor") a d)

-- the line of the first actor that has this text at a key
unfoldable pub first_told : List ℕ → List ℕ → Data → List ℕ
first_told key text d = lines_of (actor_told d) (first_with_text key text d MAX_ACTORS)
