-- The part of a net's diagnostic that needs more than the tables: actors that are not connected, the channel balance
-- at a link, and numbers of ports.
use Rattle.std.specs.Prelude.{◌≡◌, ℕ, Bool, None, Ok, Err, Some, List, [], ◌++◌, length, codes, decimal, Option}
use Rattle.std.specs.Prelude.{nat_lt, slice_index_or, if◌then◌else◌}
use Rattle.std.specs.List.{flat_map, range_with_len}
use Rattle.toml.specs.Data.{Data}
use Rattle.sdf_graph.specs.Rates.{GraphValue, ChannelValue, no_channel}
use Rattle.sdf_graph.specs.Faults.{numbers_fault}
use Rattle.sdf_graph.specs.Marks.{is_marked, AreJoined}
use Rattle.sdf_graph.specs.declared.fault.GraphFault.{GraphFault}
use Rattle.sdf_graph.specs.declared.fault.GraphFault.TheVariants.{NotConnected, Inconsistent}
use Rattle.sdf_graph.specs.declared.balance.Balance.{Balance}
use Rattle.sdf_actor.specs.declared.fault.NetFault.{NetFault}
use Rattle.sdf_actor.specs.declared.fault.NetFault.TheVariants.{Graph, NoPort}
use Rattle.sdf_document.specs.Fault.{Fault}
use Rattle.sdf_document.specs.Lists.{Files}
use Rattle.sdf_document.specs.Document.{DocumentValue, document_of}
use Rattle.sdf_why.specs.Words.{end, name_text, end_text}
use Rattle.sdf_why.specs.Tables.{root, actor_text}
use Rattle.sdf_why.specs.Actors.{actor_told}
use Rattle.sdf_why.specs.Links.{end_at}
use Rattle.sdf_why.specs.Channels.{graph_in}
use Rattle.sdf_why.specs.Ports.{ports_told}

-- ---- unlinked actors

-- the line of an actor, if it has no mark
unfoldable pub unlinked_told : Data → List Bool → ℕ → List ℕ
unlinked_told d marked a = if is_marked marked a then [] else actor_told d a

-- the lines of all actors, in their order, that links in either direction do not join to actor 0
pub record IsUnlinkedText (d : Data) (g : GraphValue) (text : List ℕ) : Type 0 where
  pub marked : List Bool
  pub joined : AreJoined g marked
  pub told : text ≡ flat_map (unlinked_told d marked) (range_with_len 0 g.actors)

-- ---- the channel balance at a link

-- a count and the name of what is counted
unfoldable pub count_of : ℕ → Option (List ℕ) → List ℕ
count_of n name = decimal n ++ codes " of " ++ name_text name

-- the firings of a link's two actors, as the other links set them
unfoldable pub firings_line : Balance → Option (List ℕ) → Option (List ℕ) → List ℕ
firings_line m source target =
    codes "  firings by the other links: " ++ count_of m.source source ++ codes ", " ++ count_of m.target target ++ end

-- the samples that an end of a link moves, with the verb for it
unfoldable pub moves_text : Option (List ℕ) → List ℕ → ℕ → List ℕ
moves_text at verb n = end_text at ++ verb ++ decimal n

-- the samples that the firings of m put on a link and take from it
unfoldable pub samples_line : Balance → Option (List ℕ) → Option (List ℕ) → List ℕ
samples_line m from to =
    codes "  samples on this link: " ++ moves_text from (codes " puts ") m.puts ++ codes ", "
    ++ moves_text to (codes " takes ") m.takes ++ end

unfoldable pub firings_told : Data → ChannelValue → Balance → List ℕ
firings_told d e m = firings_line m (actor_text (codes "name") d e.from) (actor_text (codes "name") d e.to)

unfoldable pub samples_told : Data → ℕ → Balance → List ℕ
samples_told d c m = samples_line m (end_at (codes "from") d c) (end_at (codes "to") d c)

-- the lines about the channel balance at link c, or nothing if there is no link c
unfoldable pub balance_told : Data → List ChannelValue → ℕ → Balance → List ℕ
balance_told d channels c m = if nat_lt c (length channels) then
    firings_told d (slice_index_or channels c no_channel) m ++ samples_told d c m else []

-- ---- by fault

-- the rest of the diagnostic for a fault of a graph. Connection is only tested if the numbers of the graph have no
-- fault
abbrev pub IsGraphMore : Data → GraphValue → GraphFault → List ℕ → Type 0
IsGraphMore d g (NotConnected a) text = numbers_fault g ≡ None → IsUnlinkedText d g text
IsGraphMore d g (Inconsistent c m) text = text ≡ balance_told d g.channels c m
IsGraphMore d g fault text = text ≡ []

-- the rest of the diagnostic for a fault of the net of a document
abbrev pub IsMoreOf : Data → DocumentValue → NetFault → List ℕ → Type 0
IsMoreOf d document (Graph fault) text = IsGraphMore d (graph_in document) fault text
IsMoreOf d document (NoPort c) text = text ≡ ports_told document c
IsMoreOf d document fault text = text ≡ []

-- the rest of the diagnostic for a fault of files, or nothing if they give no document
pub data IsMore (fault : NetFault) (graph : List ℕ) (files : Files) (text : List ℕ) : Type 0 where
  read :
      (d : Data) (document : DocumentValue) → root graph ≡ Some d → document_of graph files ≡ Ok document →
      IsMoreOf d document fault text → IsMore fault graph files text
  no_tables : root graph ≡ None → text ≡ [] → IsMore fault graph files text
  unread : (f : Fault) → document_of graph files ≡ Err f → text ≡ [] → IsMore fault graph files text
