-- What a fault is about: its place, the key there, the value of the key and what it needs.
use Rattle.std.specs.Prelude.{ℕ, List, codes, Option, Some, None, option_map, option_and_then}
use Rattle.std.specs.Option.{option_map_or}
use Rattle.toml.specs.Data.{Data, get}
use Rattle.sdf_limits.specs.declared.TheConstants.{MAX_ACTORS, MAX_LINKS}
use Rattle.sdf_graph.specs.declared.fault.GraphFault.{GraphFault}
use Rattle.sdf_graph.specs.declared.fault.GraphFault.TheVariants as graph
use Rattle.sdf_actor.specs.declared.fault.NetFault.{NetFault}
use Rattle.sdf_actor.specs.declared.fault.NetFault.TheVariants as net
use Rattle.sdf_document.specs.Fault.{Place, top, actor, link, file, Fault, actor_count, channel_count, kit_value}
use Rattle.sdf_document.specs.Fault.{not_toml, bad_format, unknown_key, missing_key, wrong_type, bad_name, name_twice}
use Rattle.sdf_document.specs.Fault.{unknown_kind, bad_port, no_file}
use Rattle.sdf_document.specs.Lists.{Files}
use Rattle.sdf_why.specs.Words.{value_text}
use Rattle.sdf_why.specs.Tables.{entry, file_root, first_with_text}
use Rattle.sdf_why.specs.Places.{limits_at}
use Rattle.sdf_why.specs.Types.{type_within}
use Rattle.sdf_why.specs.Documents.{up_to}

-- ---- at a place, where the graph file may be no document

-- the first actor that names a coefficient file
abbrev pub user_of : List ℕ → Data → Option ℕ
user_of name d = first_with_text (codes "file") name d MAX_ACTORS

-- the actor at a place, or the first that names its coefficient file
abbrev pub actor_at : Place → Option Data → Option ℕ
actor_at top o = None
actor_at (actor a) o = Some a
actor_at (link c) o = None
actor_at (file name) o = option_and_then (user_of name) o

-- the table at a place of the graph file
abbrev pub table_at : Place → Option Data → Option Data
table_at top o = o
table_at (actor a) o = option_and_then (entry (codes "actor") a) o
table_at (link c) o = option_and_then (entry (codes "link") c) o
table_at (file name) o = None

-- the value of a key at a place
abbrev pub value_in : Place → Option Data → Files → List ℕ → Option Data
value_in top o files key = option_and_then (get key) (table_at top o)
value_in (actor a) o files key = option_and_then (get key) (table_at (actor a) o)
value_in (link c) o files key = option_and_then (get key) (table_at (link c) o)
value_in (file name) o files key = option_and_then (get key) (file_root name files)

-- the same as a text, if there is a key
abbrev pub value_told : Place → Option Data → Files → Option (List ℕ) → Option (List ℕ)
value_told place o files key = option_and_then (λ k. option_map value_text (value_in place o files k)) key

-- ---- by fault

-- the place of an actor, or the top
abbrev pub actor_or_top : Option ℕ → Place
actor_or_top None = top
actor_or_top (Some a) = actor a

-- the place of a fault; a file that is missing is the fault of the first actor that names it
abbrev pub place_of : Fault → Option Data → Place
place_of actor_count o = top
place_of channel_count o = top
place_of (kit_value place key) o = place
place_of (not_toml place) o = place
place_of (bad_format place) o = place
place_of (unknown_key place key) o = place
place_of (missing_key place key) o = place
place_of (wrong_type place key) o = place
place_of (bad_name place key) o = place
place_of (name_twice a) o = actor a
place_of (unknown_kind a) o = actor a
place_of (bad_port c key) o = link c
place_of (no_file name) o = actor_or_top (option_and_then (user_of name) o)

abbrev pub key_of : Fault → Option (List ℕ)
key_of actor_count = Some (codes "actor")
key_of channel_count = Some (codes "link")
key_of (kit_value place key) = Some key
key_of (not_toml place) = None
key_of (bad_format place) = Some (codes "format")
key_of (unknown_key place key) = Some key
key_of (missing_key place key) = Some key
key_of (wrong_type place key) = Some key
key_of (bad_name place key) = Some key
key_of (name_twice a) = Some (codes "name")
key_of (unknown_kind a) = Some (codes "kind")
key_of (bad_port c key) = Some key
key_of (no_file name) = Some (codes "file")

-- the type that a key at a place needs, with its limits
abbrev pub type_limits : Place → List ℕ → Data → List ℕ
type_limits place key d = type_within key (limits_at place key d)

abbrev pub format_limits : Place → List ℕ
format_limits top = codes "1 or 2"
format_limits (actor a) = codes "1 or 2"
format_limits (link c) = codes "1 or 2"
format_limits (file name) = codes "1"

-- what the key of a fault needs
abbrev pub limits_in : Fault → Data → Option (List ℕ)
limits_in actor_count d = Some (up_to 1 MAX_ACTORS)
limits_in channel_count d = Some (up_to 0 MAX_LINKS)
limits_in (kit_value place key) d = limits_at place key d
limits_in (not_toml place) d = None
limits_in (bad_format place) d = Some (format_limits place)
limits_in (unknown_key place key) d = None
limits_in (missing_key place key) d = limits_at place key d
limits_in (wrong_type place key) d = Some (type_limits place key d)
limits_in (bad_name place key) d = None
limits_in (name_twice a) d = None
limits_in (unknown_kind a) d = None
limits_in (bad_port c key) d = Some (codes "NAME or NAME:PORT, a port of 0..15")
limits_in (no_file name) d = None

-- ---- by a net's fault

abbrev pub graph_place : GraphFault → Place
graph_place graph.OutOfMemory = top
graph_place graph.ActorCount = top
graph_place graph.ChannelCount = top
graph_place (graph.BadEnd channel) = link channel
graph_place (graph.BadRate channel) = link channel
graph_place (graph.InitialCount channel) = link channel
graph_place (graph.CycleLength channel) = link channel
graph_place (graph.NotConnected a) = actor a
graph_place (graph.Inconsistent channel meeting) = link channel
graph_place graph.PeriodTooLong = top

abbrev pub net_place : NetFault → Place
net_place net.OutOfMemory = top
net_place (net.Graph f) = graph_place f
net_place (net.NoPort c) = link c
net_place (net.PortTwice c) = link c
net_place (net.PortOpen a side port) = actor a
net_place (net.ExtTwice a) = actor a
net_place (net.InputRates a) = actor a
net_place (net.OutputRates a) = actor a
net_place net.NoInput = top
net_place (net.NoOutput channel) = top
