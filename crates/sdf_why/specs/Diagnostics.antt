-- The diagnostic for each fault, from the files of the design.
use Rattle.std.specs.Prelude.{◌≡◌, ℕ, ◌-◌, List, [], ◌++◌, codes, Some, None, sum}
use Rattle.toml.specs.Data.{Data}
use Rattle.sdf_graph.specs.Rates.{rates}
use Rattle.sdf_graph.specs.Periods.{IsLeastPeriod}
use Rattle.sdf_actor.specs.declared.fault.NetFault.{NetFault}
use Rattle.sdf_actor.specs.declared.sides.Lists.TheVariants.{Inputs, Outputs}
use Rattle.sdf_actor.specs.Sides.{list_count, period_samples}
use Rattle.sdf_actor.specs.Graphs.{graph_of}
use Rattle.sdf_kit.specs.Kit.{kit_steps}
use Rattle.sdf_document.specs.Fault.{fault_view}
use Rattle.sdf_document.specs.Lists.{Files}
use Rattle.sdf_file.specs.declared.fault.FileFault.{FileFault}
use Rattle.sdf_file.specs.declared.fault.FileFault.TheVariants.{OutOfMemory, Document, Net}
use Rattle.sdf_file.specs.Designs.{DesignValue, IsDesignOf, IsFileFault}
use Rattle.sdf_why.specs.declared.cycle.Halt.{Halt}
use Rattle.sdf_why.specs.declared.sound.Header.{Header}
use Rattle.sdf_why.specs.Tables.{root, entry}
use Rattle.sdf_why.specs.Actors.{lines_of, actor_is}
use Rattle.sdf_why.specs.Documents.{document_text, counted}
use Rattle.sdf_why.specs.Nets.{net_told}
use Rattle.sdf_why.specs.More.{IsMore}
use Rattle.sdf_why.specs.Cycles.{IsCycleText}
use Rattle.sdf_why.specs.Sounds.{channels_told, rate_line}
use Rattle.sdf_why.specs.Blocks.{block_line}

-- the part of a net's diagnostic that needs only the tables of the graph file
unfoldable pub net_text : NetFault → List ℕ → List ℕ
net_text fault graph = lines_of (net_told fault) (root graph)

-- the diagnostic for a net that is refused
pub record IsNetText (fault : NetFault) (graph : List ℕ) (files : Files) (text : List ℕ) : Type 0 where
  pub more : List ℕ
  pub is_more : IsMore fault graph files more
  pub told : text ≡ net_text fault graph ++ more

-- the diagnostic for files that give no design
abbrev pub IsFileText : FileFault → List ℕ → Files → List ℕ → Type 0
IsFileText OutOfMemory graph files text = text ≡ []
IsFileText (Document fault) graph files text = text ≡ document_text (fault_view fault) graph files
IsFileText (Net fault) graph files text = IsNetText fault graph files text

-- the line of the key `processor`, with its limits
unfoldable pub processor_line : ℕ → Data → List ℕ
processor_line workers d = counted (codes "processor") 0 (workers - 1) d

-- an actor that has no home among the workers
abbrev pub home_is : ℕ → ℕ → Data → List ℕ
home_is workers a d = actor_is a d ++ processor_line workers d

unfoldable pub home_text : ℕ → ℕ → List ℕ → List ℕ
home_text workers a graph = lines_of (λ d. lines_of (home_is workers a) (entry (codes "actor") a d)) (root graph)

-- the tables and the design that files give
pub record Give (graph : List ℕ) (files : Files) (document : Data) (d : DesignValue) : Type 0 where
  pub tables : root graph ≡ Some document
  pub design : IsDesignOf graph files d

-- the graph file is not a document, or the files have a fault
pub data GiveNone (graph : List ℕ) (files : Files) : Type 0 where
  no_tables : root graph ≡ None → GiveNone graph files
  refused : (fault : FileFault) → IsFileFault graph files fault → (fault ≡ OutOfMemory → ⊥) → GiveNone graph files

-- P is true of the tables and the design, or the text is empty if the files give none
pub data IsDesignText (graph : List ℕ) (files : Files) (P : Data → DesignValue → Type 0) (text : List ℕ) : Type 0 where
  told : (document : Data) (d : DesignValue) → Give graph files document d → P document d →
      IsDesignText graph files P text
  nothing : GiveNone graph files → text ≡ [] → IsDesignText graph files P text

-- the diagnostic for a deadlock whose actors stopped as in halts
abbrev pub IsDeadlockText : List ℕ → Files → List Halt → List ℕ → Type 0
IsDeadlockText graph files halts text =
    IsDesignText graph files (λ document d. IsCycleText document (graph_of kit_steps d.net) halts text) text

-- the diagnostic for a sound that lacks a channel of the design
abbrev pub IsChannelsText : List ℕ → Files → Header → List ℕ → Type 0
IsChannelsText graph files header text =
    IsDesignText graph files
    (λ document d. text ≡ channels_told document (list_count Inputs d.net.nodes) header.channels) text

-- the line about the rate of a design's output, with the repetition vector q
abbrev pub IsRateOf : DesignValue → Header → List ℕ → Type 0
IsRateOf d header text = (q : List ℕ) → IsLeastPeriod (rates (graph_of kit_steps d.net)) q → text ≡
    rate_line header.rate (period_samples d.net.nodes Outputs q) (period_samples d.net.nodes Inputs q)

abbrev pub IsRateText : List ℕ → Files → Header → List ℕ → Type 0
IsRateText graph files header text = IsDesignText graph files (λ document d. IsRateOf d header text) text

-- the line about the longest block of a design, with the repetition vector q
abbrev pub IsBlockOf : DesignValue → List ℕ → Type 0
IsBlockOf d text = (q : List ℕ) → IsLeastPeriod (rates (graph_of kit_steps d.net)) q → text ≡ block_line (sum q)

abbrev pub IsBlockText : List ℕ → Files → List ℕ → Type 0
IsBlockText graph files text = IsDesignText graph files (λ document d. IsBlockOf d text) text
