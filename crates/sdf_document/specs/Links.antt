-- What a link's table says, or the first test that it fails.
use Rattle.std.specs.Prelude.{ℕ, ℤ, Bool, List, [], ◌∷◌, length, codes, Option, Some, None, option_map, option_and_then}
use Rattle.std.specs.Prelude.{Result, Ok, Err, nat_lt, eqb, bytes_eq, if◌then◌else◌}
use Rattle.std.specs.List.{list_all, position, position_or_len, before_first, after_first}
use Rattle.toml.specs.Data.{Data, Members, get_member, as_table}
use Rattle.sdf_document.specs.declared.entry.LinkEntry.{LinkEntry}
use Rattle.sdf_document.specs.Fault.{link, Fault, kit_value, wrong_type, bad_port, ◌>>=◌, or_fault}
use Rattle.sdf_document.specs.Tables.{known_keys}
use Rattle.sdf_document.specs.Values.{text_at, integers_at}
use Rattle.sdf_kinds.specs.declared.row.Width.TheVariants.{Bits32}
use Rattle.sdf_document.specs.Lists.{fits}

pub record LinkValue : Type 0 where
  pub from : ℕ × ℕ
  pub to : ℕ × ℕ
  pub initial : List ℤ

abbrev pub link_view : LinkEntry → LinkValue
link_view l = record { from = l.from; to = l.to; initial = l.initial.items }

-- the ports that a text can name
abbrev pub port_texts : List (List ℕ)
port_texts = codes "0" ∷ codes "1" ∷ codes "2" ∷ codes "3" ∷ codes "4" ∷ codes "5" ∷ codes "6" ∷ codes "7"
    ∷ codes "8" ∷ codes "9"
    ∷ codes "10" ∷ codes "11" ∷ codes "12" ∷ codes "13" ∷ codes "14" ∷ codes "15" ∷ []

abbrev pub port_of : List ℕ → Option ℕ
port_of s = position (bytes_eq s) port_texts

-- the number of the actor that is called s
abbrev pub named : List (List ℕ) → List ℕ → Option ℕ
named names s = position (bytes_eq s) names

abbrev pub is_colon : ℕ → Bool
is_colon b = eqb b 58

abbrev pub both_of : Option ℕ → Option ℕ → Option (ℕ × ℕ)
both_of a p = option_and_then (λ x. option_map (λ y. (x, y)) p) a

-- an actor and a port: a name, a colon and a port, or a name alone for port 0
unfoldable pub end_of : List (List ℕ) → List ℕ → Option (ℕ × ℕ)
end_of names s =
    if nat_lt (position_or_len is_colon s) (length s)
    then both_of (named names (before_first is_colon s)) (port_of (after_first is_colon s))
    else both_of (named names s) (Some 0)

unfoldable pub end_at : ℕ → List ℕ → List (List ℕ) → Members → Result (ℕ × ℕ) Fault
end_at l key names ms = do
  s ← text_at (link l) key ms
  or_fault (bad_port l key) (end_of names s)

abbrev pub initial_in : ℕ → Option Data → Result (List ℤ) Fault
initial_in l None = Ok []
initial_in l (Some d) = do
  zs ← integers_at (link l) (codes "initial") d
  if list_all (fits Bits32) zs then Ok zs else Err (kit_value (link l) (codes "initial"))

unfoldable pub initial_at : ℕ → Members → Result (List ℤ) Fault
initial_at l ms = initial_in l (get_member (codes "initial") ms)

abbrev pub link_keys : List (List ℕ)
link_keys = codes "from" ∷ codes "to" ∷ codes "initial" ∷ []

-- link l, given the names of all actors
unfoldable pub link_at : ℕ → List (List ℕ) → Data → Result LinkValue Fault
link_at l names d = do
  ms ← or_fault (wrong_type (link l) (codes "link")) (as_table d)
  known ← known_keys (link l) link_keys ms
  from ← end_at l (codes "from") names ms
  to ← end_at l (codes "to") names ms
  initial ← initial_at l ms
  Ok (record { from = from; to = to; initial = initial })
