-- The values of faults do not nest deep.
use Rattle.std.proofs.Common.{◌≤◌, ℕ, List, [], ◌∷◌, arith}
use Rattle.std.specs.Prelude.{codes, string_bytes}
use Rattle.std.specs.List.{AllByRecursion}
use Rattle.serde_json.specs.Data.{Data, no_members, members_depth, string}
use Rattle.sdf_graph.specs.declared.fault.GraphFault.{GraphFault}
use Rattle.sdf_graph.specs.declared.fault.GraphFault.TheVariants as graph
use Rattle.sdf_actor.specs.declared.fault.NetFault.{NetFault}
use Rattle.sdf_actor.specs.declared.fault.NetFault.TheVariants as net
use Rattle.sdf_document.specs.declared.fault.Place.{Place}
use Rattle.sdf_document.specs.declared.fault.Place.TheVariants as place
use Rattle.sdf_document.specs.declared.fault.DocumentFault.{DocumentFault}
use Rattle.sdf_document.specs.declared.fault.DocumentFault.TheVariants as document
use Rattle.sdf_file.specs.declared.fault.FileFault.{FileFault}
use Rattle.sdf_file.specs.declared.fault.FileFault.TheVariants as file
use Rattle.sdf_prec.specs.declared.firing.Firing.{Firing}
use Rattle.sdf_prec.specs.declared.fault.PrecFault.{PrecFault}
use Rattle.sdf_prec.specs.declared.fault.PrecFault.TheVariants as prec
use Rattle.sdf_wav.specs.declared.fault.FormatFault.{FormatFault}
use Rattle.sdf_wav.specs.declared.fault.FormatFault.TheVariants as format
use Rattle.sdf_json.specs.Values.{natural}
use Rattle.sdf_json.specs.FaultMembers.{number_and_name, told, plain_fault, at, place_member, at_place, at_key}
use Rattle.sdf_json.specs.DesignFaults.{graph_value, side_word, open_value, net_value, document_value, file_value}
use Rattle.sdf_json.specs.RunFaults.{firing_value, in_row_members, row_fault, prec_value, format_value}
use Rattle.sdf_json.proofs.Depths.{IsFlat, with_flat}

begun_flat : (number : ℕ) (name : List ℕ) → members_depth (number_and_name number name) ≤ 2
begun_flat number name =
    with_flat 2 no_members ((codes "fault", natural number) ∷ (codes "name", string name) ∷ []) (omega arith)
    (omega arith, (omega arith, tt))

pub told_flat : (number : ℕ) (name : List ℕ) (more : List (List ℕ × Data)) →
    AllByRecursion (λ (m : List ℕ × Data). IsFlat 2 m.1) more → IsFlat 3 (told number name more)
told_flat number name more flat =
    let inner = with_flat 2 (number_and_name number name) more (begun_flat number name) flat in omega (arith, inner)

pub plain_flat : (number : ℕ) (name : List ℕ) → IsFlat 3 (plain_fault number name)
plain_flat number name = told_flat number name [] tt

pub at_flat : (number : ℕ) (name word : List ℕ) (n : ℕ) → IsFlat 3 (at number name word n)
at_flat number name word n = told_flat number name ((word, natural n) ∷ []) (omega arith, tt)

place_flat : (p : Place) → IsFlat 2 (place_member p).1
place_flat place.Top = omega arith
place_flat (place.Actor n) = omega arith
place_flat (place.Link n) = omega arith
place_flat (place.File name) = omega arith

pub at_place_flat : (number : ℕ) (name : List ℕ) (p : Place) → IsFlat 3 (at_place number name p)
at_place_flat number name p = told_flat number name (place_member p ∷ []) (place_flat p, tt)

pub at_key_flat : (number : ℕ) (name : List ℕ) (p : Place) (key : List ℕ) → IsFlat 3 (at_key number name p key)
at_key_flat number name p key =
    told_flat number name (place_member p ∷ (codes "key", string key) ∷ []) (place_flat p, (omega arith, tt))

open_flat : (actor : ℕ) (side : List ℕ) (port : ℕ) → IsFlat 3 (open_value actor side port)
open_flat actor side port =
    told_flat 22 (codes "PortOpen") ((codes "actor", natural actor) ∷ (codes "side", string side)
    ∷ (codes "port", natural port) ∷ []) (omega arith, (omega arith, (omega arith, tt)))

firing_flat : (f : Firing) → IsFlat 2 (firing_value f)
firing_flat f =
    let inner = with_flat 1 no_members ((codes "actor", natural f.actor) ∷ (codes "number", natural f.number) ∷ [])
    (omega arith) (omega arith, (omega arith, tt)) in
    omega (arith, inner)

in_row_flat : (number : ℕ) (name : List ℕ) (row : ℕ) (firing : Firing) (more : List (List ℕ × Data)) →
    AllByRecursion (λ (m : List ℕ × Data). IsFlat 2 m.1) more → IsFlat 3 (row_fault number name row firing more)
in_row_flat number name row firing more flat =
    let members = with_flat 2 (number_and_name number name) ((codes "row", natural row)
    ∷ (codes "firing", firing_value firing) ∷ [])
    (begun_flat number name) (omega arith, (firing_flat firing, tt)) in
    let inner = with_flat 2 (in_row_members number name row firing) more members flat in omega (arith, inner)

pub graph_flat : (f : GraphFault) → IsFlat 3 (graph_value f)
graph_flat graph.OutOfMemory = plain_flat 1 (codes "OutOfMemory")
graph_flat graph.ActorCount = plain_flat 2 (codes "ActorCount")
graph_flat graph.ChannelCount = plain_flat 3 (codes "ChannelCount")
graph_flat (graph.BadEnd channel) = at_flat 4 (codes "BadEnd") (codes "link") channel
graph_flat (graph.BadRate channel) = at_flat 5 (codes "BadRate") (codes "link") channel
graph_flat (graph.InitialCount channel) = at_flat 6 (codes "InitialCount") (codes "link") channel
graph_flat (graph.CycleLength channel) = at_flat 63 (codes "CycleLength") (codes "link") channel
graph_flat (graph.NotConnected actor) = at_flat 7 (codes "NotConnected") (codes "actor") actor
graph_flat (graph.Inconsistent channel meeting) = at_flat 8 (codes "Inconsistent") (codes "link") channel
graph_flat graph.PeriodTooLong = plain_flat 9 (codes "PeriodTooLong")

pub net_flat : (f : NetFault) → IsFlat 3 (net_value f)
net_flat net.OutOfMemory = plain_flat 1 (codes "OutOfMemory")
net_flat (net.Graph f) = graph_flat f
net_flat (net.NoPort link) = at_flat 20 (codes "NoPort") (codes "link") link
net_flat (net.PortTwice link) = at_flat 21 (codes "PortTwice") (codes "link") link
net_flat (net.PortOpen actor side port) = open_flat actor (side_word side) port
net_flat (net.ExtTwice actor) = at_flat 23 (codes "ExtTwice") (codes "actor") actor
net_flat (net.InputRates actor) = at_flat 24 (codes "InputRates") (codes "actor") actor
net_flat (net.OutputRates actor) = at_flat 25 (codes "OutputRates") (codes "actor") actor
net_flat net.NoInput = plain_flat 26 (codes "NoInput")
net_flat (net.NoOutput channel) = at_flat 27 (codes "NoOutput") (codes "channel") channel

pub document_flat : (f : DocumentFault) → IsFlat 3 (document_value f)
document_flat document.ActorCount = plain_flat 2 (codes "ActorCount")
document_flat document.ChannelCount = plain_flat 3 (codes "ChannelCount")
document_flat (document.KitValue p key) = at_key_flat 28 (codes "KitValue") p key.now
document_flat (document.NotToml p) = at_place_flat 49 (codes "NotToml") p
document_flat (document.Format p) = at_place_flat 50 (codes "Format") p
document_flat (document.UnknownKey p key) = at_key_flat 51 (codes "UnknownKey") p (string_bytes key)
document_flat (document.MissingKey p key) = at_key_flat 52 (codes "MissingKey") p key.now
document_flat (document.WrongType p key) = at_key_flat 53 (codes "WrongType") p key.now
document_flat (document.BadName p key) = at_key_flat 54 (codes "BadName") p key.now
document_flat (document.NameTwice actor) = at_flat 55 (codes "NameTwice") (codes "actor") actor
document_flat (document.UnknownKind actor) = at_flat 56 (codes "UnknownKind") (codes "actor") actor
document_flat (document.BadPort link key) = told_flat 57 (codes "BadPort")
    ((codes "link", natural link) ∷ (codes "key", string key.now) ∷ [])
    (omega arith, (omega arith, tt))
document_flat (document.NoFile name) = told_flat 58 (codes "NoFile") ((codes "file", string (string_bytes name)) ∷ [])
    (omega arith, tt)

pub file_flat : (f : FileFault) → IsFlat 3 (file_value f)
file_flat file.OutOfMemory = plain_flat 1 (codes "OutOfMemory")
file_flat (file.Document f) = document_flat f
file_flat (file.Net f) = net_flat f

pub prec_flat : (f : PrecFault) → IsFlat 3 (prec_value f)
prec_flat prec.OutOfMemory = plain_flat 1 (codes "OutOfMemory")
prec_flat prec.BlockingFactor = plain_flat 11 (codes "BlockingFactor")
prec_flat prec.WorkerCount = plain_flat 12 (codes "WorkerCount")
prec_flat prec.BlockTooLong = plain_flat 13 (codes "BlockTooLong")
prec_flat (prec.FiringMissing firing) = told_flat 14 (codes "FiringMissing")
    ((codes "firing", firing_value firing) ∷ [])
    (firing_flat firing, tt)
prec_flat (prec.FiringTwice row firing) = in_row_flat 15 (codes "FiringTwice") row firing [] tt
prec_flat (prec.FiringUnknown row firing) = in_row_flat 16 (codes "FiringUnknown") row firing [] tt
prec_flat (prec.RowTooWide row) = at_flat 17 (codes "RowTooWide") (codes "row") row
prec_flat (prec.TooEarly row firing needs) = in_row_flat 18 (codes "TooEarly") row firing
    ((codes "needs", firing_value needs) ∷ [])
    (firing_flat needs, tt)
prec_flat (prec.BadHome actor) = at_flat 19 (codes "BadHome") (codes "actor") actor
prec_flat (prec.BadCost actor) = at_flat 62 (codes "BadCost") (codes "actor") actor

pub format_flat : (f : FormatFault) → IsFlat 3 (format_value f)
format_flat format.NotRiff = plain_flat 34 (codes "NotRiff")
format_flat format.NotWave = plain_flat 35 (codes "NotWave")
format_flat format.NoFormat = plain_flat 36 (codes "NoFormat")
format_flat format.ShortFormat = plain_flat 37 (codes "ShortFormat")
format_flat format.NotPcm16 = plain_flat 38 (codes "NotPcm16")
format_flat format.Channels = plain_flat 39 (codes "Channels")
format_flat format.RateZero = plain_flat 40 (codes "RateZero")
format_flat format.BadAlign = plain_flat 41 (codes "BadAlign")
format_flat format.NoData = plain_flat 42 (codes "NoData")
format_flat format.Truncated = plain_flat 43 (codes "Truncated")
format_flat format.PartialFrame = plain_flat 44 (codes "PartialFrame")
format_flat format.TooLong = plain_flat 45 (codes "TooLong")
format_flat format.RateTooLarge = plain_flat 46 (codes "RateTooLarge")
