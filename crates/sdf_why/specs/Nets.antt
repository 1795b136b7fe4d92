-- The diagnostic for a net that is refused, by the first test that it fails.
use Rattle.std.specs.Prelude.{◌&&◌, ℕ, ℤ, Bool, false, List, [], ◌++◌, codes, decimal, Option, Some, None, find}
use Rattle.std.specs.Prelude.{option_and_then, bytes_eq, if◌then◌else◌}
use Rattle.std.specs.Ordering.{int_eq}
use Rattle.std.specs.List.{flat_map, range_with_len}
use Rattle.toml.specs.Data.{Data, get, as_integer}
use Rattle.sdf_limits.specs.declared.TheConstants.{MAX_ACTORS, MAX_INITIAL}
use Rattle.sdf_graph.specs.declared.fault.GraphFault.{GraphFault}
use Rattle.sdf_graph.specs.declared.fault.GraphFault.TheVariants as graph
use Rattle.sdf_actor.specs.declared.fault.NetFault.{NetFault}
use Rattle.sdf_actor.specs.declared.fault.NetFault.TheVariants.{OutOfMemory, Graph, NoPort, PortTwice, PortOpen}
use Rattle.sdf_actor.specs.declared.fault.NetFault.TheVariants.{ExtTwice, InputRates, OutputRates, NoInput, NoOutput}
use Rattle.sdf_why.specs.Tables.{entry, actor_text, says, first_with_text}
use Rattle.sdf_why.specs.Actors.{lines_of, actor_told, actor_key}
use Rattle.sdf_why.specs.Links.{link_told, link_key, ends_told, first_sharing}

-- ---- actors that are compared

-- the first actor of a kind, and the line of a key of its table
unfoldable pub first_of : List ℕ → List ℕ → Data → List ℕ
first_of kind key d = lines_of (λ a. actor_key a key None d) (first_with_text (codes "kind") kind d MAX_ACTORS)

-- actor a if it is of a kind, and the line of a key of its table
unfoldable pub one_of : List ℕ → List ℕ → Data → ℕ → List ℕ
one_of kind key d a = if says (codes "kind") kind d a then actor_key a key None d else []

-- all actors of a kind, and the lines of a key of their tables
unfoldable pub all_of : List ℕ → List ℕ → Data → List ℕ
all_of kind key d = flat_map (one_of kind key d) (range_with_len 0 MAX_ACTORS)

-- the whole number at a key of actor a
unfoldable pub number_at : List ℕ → Data → ℕ → Option ℤ
number_at key d a = option_and_then (λ t. option_and_then as_integer (get key t)) (entry (codes "actor") a d)

abbrev pub same_number : Option ℤ → Option ℤ → Bool
same_number (Some x) (Some y) = int_eq x y
same_number (Some x) None = false
same_number None y = false

abbrev pub same_text : Option (List ℕ) → Option (List ℕ) → Bool
same_text (Some s) (Some t) = bytes_eq s t
same_text (Some s) None = false
same_text None t = false

-- actors a and b are of one kind and of one channel
unfoldable pub rival : Data → ℕ → ℕ → Bool
rival d a b = same_text (actor_text (codes "kind") d a) (actor_text (codes "kind") d b)
    && same_number (number_at (codes "channel") d a) (number_at (codes "channel") d b)

-- the first of n actors that has the kind and the channel of actor a
unfoldable pub first_rival : Data → ℕ → ℕ → Option ℕ
first_rival d a n = find (rival d a) (range_with_len 0 n)

-- ---- by fault

-- actor a, its channel, and the earlier actor with the same kind and channel
unfoldable pub rival_lines : Data → ℕ → List ℕ
rival_lines d a = actor_key a (codes "channel") None d ++ lines_of (actor_told d) (first_rival d a a)

-- actor a with its block, and the first actor of a kind with its block
unfoldable pub differing_blocks : List ℕ → Data → ℕ → List ℕ
differing_blocks kind d a = actor_key a (codes "block") None d ++ first_of kind (codes "block") d

-- link c, and the first link before it that shares an end with it
unfoldable pub sharing_told : Data → ℕ → List ℕ
sharing_told d c = link_told d c ++ lines_of (link_told d) (first_sharing d c c)

-- link c and its initial samples, with their limit
unfoldable pub initial_line : Data → ℕ → List ℕ
initial_line d c = link_key c (codes "initial") (Some (codes "at most " ++ decimal MAX_INITIAL)) d

-- for actors that are not connected the whole diagnostic is in `More`
abbrev pub graph_told : GraphFault → Data → List ℕ
graph_told graph.OutOfMemory d = []
graph_told graph.ActorCount d = []
graph_told graph.ChannelCount d = []
graph_told (graph.BadEnd c) d = ends_told d c
graph_told (graph.BadRate c) d = ends_told d c
graph_told (graph.InitialCount c) d = initial_line d c
graph_told (graph.CycleLength c) d = ends_told d c
graph_told (graph.NotConnected a) d = []
graph_told (graph.Inconsistent c m) d = ends_told d c
graph_told graph.PeriodTooLong d = []

abbrev pub net_told : NetFault → Data → List ℕ
net_told OutOfMemory d = []
net_told (Graph fault) d = graph_told fault d
net_told (NoPort c) d = ends_told d c
net_told (PortTwice c) d = sharing_told d c
net_told (PortOpen a side port) d = actor_key a (codes "ways") None d
net_told (ExtTwice a) d = rival_lines d a
net_told (InputRates a) d = differing_blocks (codes "input") d a
net_told (OutputRates a) d = differing_blocks (codes "output") d a
net_told NoInput d = []
net_told (NoOutput e) d = all_of (codes "output") (codes "channel") d
