-- The design of a graph file and its coefficient files.
use Rattle.std.specs.Prelude.{◌≡◌, ◌≤◌, ◌<◌, ◌+◌, ℕ, ℤ, List, length, map, slice_index, Option, Result, Ok, Err}
use Rattle.sdf_limits.specs.declared.TheConstants.{MAX_CHANNEL, MAX_COST}
use Rattle.sdf_document.specs.Fault.{Fault, fault_view}
use Rattle.sdf_document.specs.Lists.{Files}
use Rattle.sdf_document.specs.declared.entry.KindEntry.{KindEntry}
use Rattle.sdf_document.specs.declared.entry.KindEntry.TheVariants as entry
use Rattle.sdf_document.specs.Actors.{ActorValue}
use Rattle.sdf_document.specs.Links.{LinkValue}
use Rattle.sdf_document.specs.Document.{DocumentValue, AreDistinct, IsRated, document_of, file_names_of}
use Rattle.sdf_actor.specs.declared.node.Node.{Node}
use Rattle.sdf_actor.specs.declared.node.Node.TheVariants.{Source, Sink, Inner}
use Rattle.sdf_actor.specs.declared.fault.NetFault.{NetFault}
use Rattle.sdf_actor.specs.declared.fault.NetFault.TheVariants as nets
use Rattle.sdf_actor.specs.Nets.{Wire, Netlist}
use Rattle.sdf_actor.specs.Sides.{list_count}
use Rattle.sdf_actor.specs.declared.sides.Lists.TheVariants.{Inputs, Outputs}
use Rattle.sdf_actor.specs.NetFaults.{IsAccepted, IsNetFault}
use Rattle.sdf_kit.specs.declared.kit.Kit.{Kit}
use Rattle.sdf_kit.specs.declared.kit.Kit.TheVariants as kits
use Rattle.sdf_kit.specs.Kit.{kit_steps}
use Rattle.sdf_file.specs.declared.fault.FileFault.{FileFault}
use Rattle.sdf_file.specs.declared.fault.FileFault.TheVariants.{OutOfMemory, Document, Net}

-- the rate in Hz of the sound that it is made for, if it has one, and a net, with the name, the home processor and the
-- cost of a firing of each actor
pub record DesignValue : Type 0 where
  pub rate : Option ℕ
  pub net : Netlist Kit ℤ
  pub names : List (List ℕ)
  pub homes : List (Option ℕ)
  pub costs : List ℕ

-- ---- the design of a document

-- the node of a kind
abbrev pub node_of : KindEntry → Node Kit
node_of (entry.Input channel block) = Source channel block
node_of (entry.Output channel block) = Sink channel block
node_of (entry.Fir up down shift taps) = Inner (kits.Fir
    (record { up = up; down = down; taps = taps.values; shift = shift }))
node_of (entry.Decimate factor) = Inner (kits.Decimate factor)
node_of (entry.Interpolate factor) = Inner (kits.Interpolate factor)
node_of (entry.Add ways) = Inner (kits.Add ways)
node_of (entry.Fork ways) = Inner (kits.Fork ways)
node_of (entry.Gain g shift) = Inner (kits.Gain (record { gain = g; shift = shift }))
node_of (entry.Delay length) = Inner (kits.Delay length)
node_of (entry.Table offset values) = Inner (kits.Table (record { offset = offset; values = values.values }))
node_of (entry.Deal ways run) = Inner (kits.Deal (record { ways = ways; run = run }))
node_of (entry.Gather ways run) = Inner (kits.Gather (record { ways = ways; run = run }))
node_of (entry.Clip least greatest) = Inner (kits.Clip (record { least = least; greatest = greatest }))
node_of (entry.Offset value) = Inner (kits.Offset value)

abbrev pub wire_of : LinkValue → Wire ℤ
wire_of l = record { from = l.from; to = l.to; initial = l.initial }

abbrev pub design_of : DocumentValue → DesignValue
design_of d = record {
  rate = d.rate;
  net = record { nodes = map (λ (a : ActorValue). node_of a.kind) d.actors; wires = map wire_of d.links };
  names = map (λ (a : ActorValue). a.name) d.actors;
  homes = map (λ (a : ActorValue). a.processor) d.actors;
  costs = map (λ (a : ActorValue). a.cost) d.actors;
}

-- ---- the design of files: the design of their document, if its net passes all tests of nets

-- the design of what was read
pub record IsDesignFrom (read : Result DocumentValue Fault) (d : DesignValue) : Type 0 where
  pub document : DocumentValue
  pub says : read ≡ Ok document
  pub is : d ≡ design_of document
  pub period : List ℕ
  pub accepted : IsAccepted kit_steps d.net period

abbrev pub IsDesignOf : List ℕ → Files → DesignValue → Type 0
IsDesignOf graph files = IsDesignFrom (document_of graph files)

-- the net has the fault. A refused allocation is not a fault of a net
abbrev pub HasNetFault : Netlist Kit ℤ → NetFault → Type 0
HasNetFault n nets.OutOfMemory = ⊥
HasNetFault n fault = IsNetFault kit_steps n fault

abbrev pub IsMadeFault : Netlist Kit ℤ → FileFault → Type 0
IsMadeFault n OutOfMemory = Unit {0}
IsMadeFault n (Document fault) = ⊥
IsMadeFault n (Net fault) = HasNetFault n fault

-- the first test that fails. Tests of the document come before tests of the net, and an allocation may be refused at
-- any point
abbrev pub IsFaultFrom : Result DocumentValue Fault → FileFault → Type 0
IsFaultFrom read OutOfMemory = Unit {0}
IsFaultFrom read (Document fault) = read ≡ Err (fault_view fault)
IsFaultFrom read (Net fault) = (d : DocumentValue) × (read ≡ Ok d) × HasNetFault (design_of d).net fault

abbrev pub IsFileFault : List ℕ → Files → FileFault → Type 0
IsFileFault graph files = IsFaultFrom (document_of graph files)

-- ---- what is read before a net is made

-- the first test that fails, or a refused allocation
abbrev pub IsReadFault : {A : Type 0} → Result A Fault → FileFault → Type 0
IsReadFault read OutOfMemory = Unit {0}
IsReadFault read (Document fault) = read ≡ Err (fault_view fault)
IsReadFault read (Net fault) = ⊥

-- the files that a graph file names
abbrev pub AreFileNames : List ℕ → List (List ℕ) → Type 0
AreFileNames graph names = file_names_of graph ≡ Ok names

abbrev pub IsNamesFault : List ℕ → FileFault → Type 0
IsNamesFault graph = IsReadFault (file_names_of graph)

-- ---- what is true of every design

-- each of n actors has a cost, within its limits
pub record HaveCosts (n : ℕ) (costs : List ℕ) : Type 0 where
  pub all : length costs ≡ n
  pub each : (a : ℕ) → a < n → (1 ≤ slice_index costs a) × (slice_index costs a ≤ MAX_COST)

-- the rate is within its limits; each node has a name of its own, a home or none, and a cost; a WAV file can have a
-- channel for each input, and one for each output
pub record IsDesign (d : DesignValue) : Type 0 where
  pub rated : IsRated d.rate
  pub named : length d.names ≡ length d.net.nodes
  pub distinct : AreDistinct d.names
  pub housed : length d.homes ≡ length d.net.nodes
  pub priced : HaveCosts (length d.net.nodes) d.costs
  pub inputs : list_count Inputs d.net.nodes ≤ MAX_CHANNEL + 1
  pub outputs : list_count Outputs d.net.nodes ≤ MAX_CHANNEL + 1
