-- What an actor's table says, or the first test that it fails.
use Rattle.std.specs.Prelude.{ℕ, Bool, List, [], ◌∷◌, codes, Option, Result, Ok, Err, bytes_eq, if◌then◌else◌}
use Rattle.std.specs.Prelude.{string_bytes, map}
use Rattle.std.specs.List.{list_any}
use Rattle.toml.specs.Data.{Data, Members, as_table}
use Rattle.sdf_document.specs.declared.entry.ActorEntry.{ActorEntry}
use Rattle.sdf_document.specs.declared.entry.KindEntry.{KindEntry}
use Rattle.sdf_kinds.specs.declared.row.Kind.{Kind}
use Rattle.sdf_document.specs.declared.key.KeyValue.TheVariants.{Natural, Optional}
use Rattle.sdf_document.specs.Fault.{actor, Fault, wrong_type, bad_name, name_twice, ◌>>=◌, or_fault}
use Rattle.sdf_document.specs.Tables.{known_keys}
use Rattle.sdf_document.specs.Values.{text_at}
use Rattle.sdf_document.specs.Names.{is_name}
use Rattle.sdf_document.specs.Lists.{Lookup}
use Rattle.sdf_kinds.specs.Rows.{row_of, shared_keys}
use Rattle.sdf_document.specs.Kinds.{word_at, actor_keys, kind_at, values_at, optional, natural, first, second}
use Rattle.sdf_document.specs.Kinds.{HaveForms, IsWithin}

pub record ActorValue : Type 0 where
  pub name : List ℕ
  pub kind : KindEntry
  pub processor : Option ℕ
  pub cost : ℕ

abbrev pub actor_view : ActorEntry → ActorValue
actor_view a = record { name = string_bytes a.name; kind = a.kind; processor = a.processor; cost = a.cost }

-- the names of actors, in their order
abbrev pub names_in : List ActorValue → List (List ℕ)
names_in es = map (λ (e : ActorValue). e.name) es

-- an actor's values are within their limits: those of its kind, and those that every actor has
abbrev pub IsActorWithin : Bool → ActorEntry → Type 0
IsActorWithin looked a = IsWithin looked a.kind × HaveForms looked shared_keys
    (Optional a.processor ∷ Natural a.cost ∷ [])

-- the name of actor a, given the names of the actors before it
unfoldable pub name_at : ℕ → List (List ℕ) → Members → Result (List ℕ) Fault
name_at a names ms = do
  s ← text_at (actor a) (codes "name") ms
  named ← if is_name s then Ok s else Err (bad_name (actor a) (codes "name"))
  if list_any (bytes_eq s) names then Err (name_twice a) else Ok s

-- actor a has only keys that an actor of its kind may have
abbrev pub keys_at : ℕ → Kind → Members → Result (Unit {0}) Fault
keys_at a word ms = known_keys (actor a) (actor_keys (row_of word).keys ms) ms

-- the values that every actor has: its processor, if it has one, and its cost
unfoldable pub shared_at : ℕ → Lookup → Members → Result (Option ℕ × ℕ) Fault
shared_at a files ms = do
  values ← values_at a files shared_keys ms
  Ok (optional (first values), natural (second values))

-- actor a, given the names of the actors before it
unfoldable pub actor_at : ℕ → ℕ → Lookup → List (List ℕ) → Data → Result ActorValue Fault
actor_at a format files names d = do
  ms ← or_fault (wrong_type (actor a) (codes "actor")) (as_table d)
  name ← name_at a names ms
  word ← word_at a format ms
  known ← keys_at a word ms
  kind ← kind_at a files word ms
  shared ← shared_at a files ms
  Ok (record { name = name; kind = kind; processor = shared.0; cost = shared.1 })
