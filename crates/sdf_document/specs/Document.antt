-- What a whole graph file says, or the first test that it fails.
use Rattle.std.specs.Prelude.{◌≡◌, ℕ, suc, ◌+◌, ◌&&◌, not, List, [], ◌∷◌, ◌++◌, codes, map, Option, None, Result, Ok}
use Rattle.std.specs.Prelude.{Err, ◌≤◌, IfSome}
use Rattle.std.specs.Prelude.{nat_le, bytes_eq, if◌then◌else◌}
use Rattle.std.specs.List.{filter, filter_map}
use Rattle.toml.specs.Data.{Data, Items, no_items, item, get_member, as_array}
use Rattle.toml.specs.View.{items_view}
pub use Rattle.toml.specs.Data.{Members}
pub use Rattle.toml.specs.View.{table_view}
use Rattle.sdf_document.specs.declared.entry.Document.{Document}
use Rattle.sdf_document.specs.declared.document.FileParts.{FileParts}
use Rattle.sdf_document.specs.Fault.{top, Fault, actor_count, channel_count, not_toml, missing_key, wrong_type, ◌>>=◌}
use Rattle.sdf_document.specs.Fault.{or_fault}
use Rattle.sdf_document.specs.Tables.{table_in, format_at, known_keys}
use Rattle.sdf_document.specs.Values.{optional_at}
use Rattle.sdf_document.specs.Lists.{Files, Lookup, unread, read}
use Rattle.sdf_limits.specs.declared.TheConstants.{MAX_ACTORS, MAX_LINKS}
use Rattle.sdf_document.specs.declared.document.TheConstants.{MAX_HZ}
use Rattle.sdf_document.specs.declared.entry.KindEntry.{KindEntry}
use Rattle.sdf_document.specs.declared.entry.KindEntry.TheVariants.{Fir, Table}
use Rattle.sdf_document.specs.Actors.{ActorValue, actor_view, names_in, actor_at}
use Rattle.sdf_document.specs.Links.{LinkValue, link_view, link_at}

-- ---- items in turn

-- each item in turn, from number i on, given what the items before it gave
unfoldable pub each_from : {E : Type 0} → (ℕ → List E → Data → Result E Fault) → ℕ → List E → Items →
    Result (List E) Fault
each_from one i done no_items = Ok done
each_from one i done (item d ds) = one i done d >>= λ e. each_from one (i + 1) (done ++ e ∷ []) ds

abbrev pub actor_after : ℕ → Lookup → ℕ → List ActorValue → Data → Result ActorValue Fault
actor_after format files a done d = actor_at a format files (names_in done) d

abbrev pub link_after : List (List ℕ) → ℕ → List LinkValue → Data → Result LinkValue Fault
link_after names l done d = link_at l names d

abbrev pub actors_in : ℕ → Lookup → Items → Result (List ActorValue) Fault
actors_in format files = each_from (actor_after format files) 0 []

abbrev pub links_in : List (List ℕ) → Items → Result (List LinkValue) Fault
links_in names = each_from (link_after names) 0 []

-- ---- the document

unfoldable pub array_at : List ℕ → Members → Result Items Fault
array_at key ms = do
  d ← or_fault (missing_key top key) (get_member key ms)
  or_fault (wrong_type top key) (as_array d)

abbrev pub item_count : Items → ℕ
item_count no_items = 0
item_count (item d ds) = suc (item_count ds)

-- the count n is from least to most, otherwise fault f
abbrev pub count_within : Fault → ℕ → ℕ → ℕ → Result (Unit {0}) Fault
count_within f least most n = if nat_le least n && nat_le n most then Ok tt else Err f

abbrev pub top_keys : List (List ℕ)
top_keys = codes "format" ∷ codes "rate" ∷ codes "actor" ∷ codes "link" ∷ []

-- the rate in Hz of the sound that the design is made for, if the file has the key
unfoldable pub rate_at : Members → Result (Option ℕ) Fault
rate_at ms = optional_at top (codes "rate") 1 MAX_HZ (get_member (codes "rate") ms)

-- the format, the rate, and the items of `actor` and of `link`
pub record FilePartsValue : Type 0 where
  pub format : ℕ
  pub rate : Option ℕ
  pub actors : Items
  pub links : Items

abbrev pub parts_view : FileParts → FilePartsValue
parts_view p =
    record { format = p.format; rate = p.rate; actors = items_view p.actors.now; links = items_view p.links.now }

unfoldable pub parts_at : Members → Result FilePartsValue Fault
parts_at ms = do
  format ← format_at top 2 ms
  known ← known_keys top top_keys ms
  rate ← rate_at ms
  actors ← array_at (codes "actor") ms
  links ← array_at (codes "link") ms
  some_actors ← count_within actor_count 1 MAX_ACTORS (item_count actors)
  few_links ← count_within channel_count 0 MAX_LINKS (item_count links)
  Ok (record { format = format; rate = rate; actors = actors; links = links })

pub record DocumentValue : Type 0 where
  pub rate : Option ℕ
  pub actors : List ActorValue
  pub links : List LinkValue

abbrev pub document_view : Document → DocumentValue
document_view d =
    record { rate = d.rate; actors = map actor_view d.actors.items; links = map link_view d.links.items }

-- the rate, the actors, and the links between them
abbrev pub entries_at : Files → FilePartsValue → Result DocumentValue Fault
entries_at files parts = do
  actors ← actors_in parts.format (read files) parts.actors
  links ← links_in (names_in actors) parts.links
  Ok (record { rate = parts.rate; actors = actors; links = links })

-- the TOML table in the bytes of a graph file
unfoldable pub graph_table : List ℕ → Result Members Fault
graph_table bytes = or_fault (not_toml top) (table_in bytes)

-- what the table of a graph file says, with its coefficient files
unfoldable pub document_in : Members → Files → Result DocumentValue Fault
document_in ms files = do
  parts ← parts_at ms
  entries_at files parts

-- what the bytes of a graph file say, with its coefficient files
unfoldable pub document_of : List ℕ → Files → Result DocumentValue Fault
document_of bytes files = do
  ms ← graph_table bytes
  document_in ms files

-- ---- the coefficient files that it names

-- the coefficient file of a kind's list, if it has one
abbrev pub kind_file : KindEntry → Option (List ℕ)
kind_file (Fir up down shift taps) = taps.file
kind_file (Table offset values) = values.file
kind_file other = None

abbrev pub actor_file : ActorValue → Option (List ℕ)
actor_file a = kind_file a.kind

-- each name once, in first-seen order
abbrev pub first_seen : List (List ℕ) → List (List ℕ)
first_seen [] = []
first_seen (x ∷ xs) = x ∷ filter (λ y. not (bytes_eq x y)) (first_seen xs)

-- a rate, if there is one, is within its limits
abbrev pub IsRated : Option ℕ → Type 0
IsRated rate = IfSome rate (λ n. (1 ≤ n) × (n ≤ MAX_HZ))

-- no name is there twice
abbrev pub AreDistinct : List (List ℕ) → Type 0
AreDistinct names = first_seen names ≡ names

-- the coefficient files that a graph file's table names; links and the files themselves are not tested
unfoldable pub file_names_in : Members → Result (List (List ℕ)) Fault
file_names_in ms = do
  parts ← parts_at ms
  actors ← actors_in parts.format unread parts.actors
  Ok (first_seen (filter_map actor_file actors))

-- the coefficient files that the bytes of a graph file name; links and the files themselves are not tested
unfoldable pub file_names_of : List ℕ → Result (List (List ℕ)) Fault
file_names_of bytes = do
  ms ← graph_table bytes
  file_names_in ms
