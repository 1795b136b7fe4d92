-- The faults of designs as values.
use Rattle.std.specs.Prelude.{ℕ, List, [], ◌∷◌, codes, string_bytes}
use Rattle.serde_json.specs.Data.{Data, string}
use Rattle.sdf_graph.specs.declared.fault.GraphFault.{GraphFault}
use Rattle.sdf_graph.specs.declared.fault.GraphFault.TheVariants as graph
use Rattle.sdf_actor.specs.declared.sides.Side.{Side}
use Rattle.sdf_actor.specs.declared.sides.Side.TheVariants as side
use Rattle.sdf_actor.specs.declared.fault.NetFault.{NetFault}
use Rattle.sdf_actor.specs.declared.fault.NetFault.TheVariants as net
use Rattle.sdf_document.specs.declared.fault.DocumentFault.{DocumentFault}
use Rattle.sdf_document.specs.declared.fault.DocumentFault.TheVariants as document
use Rattle.sdf_file.specs.declared.fault.FileFault.{FileFault}
use Rattle.sdf_file.specs.declared.fault.FileFault.TheVariants as file
use Rattle.sdf_json.specs.Values.{natural}
use Rattle.sdf_json.specs.FaultMembers.{told, plain_fault, at, at_place, at_key}

abbrev pub graph_value : GraphFault → Data
graph_value graph.OutOfMemory = plain_fault 1 (codes "OutOfMemory")
graph_value graph.ActorCount = plain_fault 2 (codes "ActorCount")
graph_value graph.ChannelCount = plain_fault 3 (codes "ChannelCount")
graph_value (graph.BadEnd channel) = at 4 (codes "BadEnd") (codes "link") channel
graph_value (graph.BadRate channel) = at 5 (codes "BadRate") (codes "link") channel
graph_value (graph.InitialCount channel) = at 6 (codes "InitialCount") (codes "link") channel
graph_value (graph.CycleLength channel) = at 63 (codes "CycleLength") (codes "link") channel
graph_value (graph.NotConnected actor) = at 7 (codes "NotConnected") (codes "actor") actor
graph_value (graph.Inconsistent channel meeting) = at 8 (codes "Inconsistent") (codes "link") channel
graph_value graph.PeriodTooLong = plain_fault 9 (codes "PeriodTooLong")

abbrev pub side_word : Side → List ℕ
side_word side.Input = codes "input"
side_word side.Output = codes "output"

abbrev pub open_value : ℕ → List ℕ → ℕ → Data
open_value actor side port =
    told 22 (codes "PortOpen") ((codes "actor", natural actor) ∷ (codes "side", string side)
    ∷ (codes "port", natural port)
    ∷ [])

abbrev pub net_value : NetFault → Data
net_value net.OutOfMemory = plain_fault 1 (codes "OutOfMemory")
net_value (net.Graph f) = graph_value f
net_value (net.NoPort link) = at 20 (codes "NoPort") (codes "link") link
net_value (net.PortTwice link) = at 21 (codes "PortTwice") (codes "link") link
net_value (net.PortOpen actor side port) = open_value actor (side_word side) port
net_value (net.ExtTwice actor) = at 23 (codes "ExtTwice") (codes "actor") actor
net_value (net.InputRates actor) = at 24 (codes "InputRates") (codes "actor") actor
net_value (net.OutputRates actor) = at 25 (codes "OutputRates") (codes "actor") actor
net_value net.NoInput = plain_fault 26 (codes "NoInput")
net_value (net.NoOutput channel) = at 27 (codes "NoOutput") (codes "channel") channel

abbrev pub document_value : DocumentFault → Data
document_value document.ActorCount = plain_fault 2 (codes "ActorCount")
document_value document.ChannelCount = plain_fault 3 (codes "ChannelCount")
document_value (document.KitValue p key) = at_key 28 (codes "KitValue") p key.now
document_value (document.NotToml p) = at_place 49 (codes "NotToml") p
document_value (document.Format p) = at_place 50 (codes "Format") p
document_value (document.UnknownKey p key) = at_key 51 (codes "UnknownKey") p (string_bytes key)
document_value (document.MissingKey p key) = at_key 52 (codes "MissingKey") p key.now
document_value (document.WrongType p key) = at_key 53 (codes "WrongType") p key.now
document_value (document.BadName p key) = at_key 54 (codes "BadName") p key.now
document_value (document.NameTwice actor) = at 55 (codes "NameTwice") (codes "actor") actor
document_value (document.UnknownKind actor) = at 56 (codes "UnknownKind") (codes "actor") actor
document_value (document.BadPort link key) =
    told 57 (codes "BadPort") ((codes "link", natural link) ∷ (codes "key", string key.now) ∷ [])
document_value (document.NoFile name) =
    told 58 (codes "NoFile") ((codes "file", string (string_bytes name)) ∷ [])

abbrev pub file_value : FileFault → Data
file_value file.OutOfMemory = plain_fault 1 (codes "OutOfMemory")
file_value (file.Document f) = document_value f
file_value (file.Net f) = net_value f
