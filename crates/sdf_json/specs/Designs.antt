-- The line that the command `check --json` prints.
use Rattle.std.specs.Prelude.{ℕ, List, [], ◌∷◌, length, sum, codes, slice_index, Option, Some, None}
use Rattle.serde_json.specs.Data.{Data, string}
use Rattle.sdf_graph.specs.Rates.{rates}
use Rattle.sdf_graph.specs.Periods.{IsLeastPeriod}
use Rattle.sdf_actor.specs.Graphs.{graph_of}
use Rattle.sdf_actor.specs.Nets.{wire}
use Rattle.sdf_actor.specs.Sides.{period_samples}
use Rattle.sdf_actor.specs.declared.sides.Lists.TheVariants.{Inputs, Outputs}
use Rattle.sdf_kit.specs.Kit.{kit_steps}
use Rattle.sdf_file.specs.Designs.{DesignValue}
use Rattle.sdf_texts.specs.Schedules.{name_of}
use Rattle.sdf_json.specs.Values.{natural, object_of, list_of, each_to, IsLineOf}

-- actor a, and how often it fires in a period: q is the repetition vector
abbrev pub actor_value : DesignValue → List ℕ → ℕ → Data
actor_value d q a =
    object_of ((codes "name", string (name_of d a)) ∷ (codes "firings", natural (slice_index q a)) ∷ [])

-- an end of a link: an actor's name and a port
abbrev pub end_value : DesignValue → ℕ × ℕ → Data
end_value d e = object_of ((codes "actor", string (name_of d e.0)) ∷ (codes "port", natural e.1) ∷ [])

-- the ends of link c
abbrev pub ends_of : DesignValue → ℕ → List (List ℕ × Data)
ends_of d c =
    (codes "from", end_value d (wire d.net c).from) ∷ (codes "to", end_value d (wire d.net c).to) ∷ []

abbrev pub link_value : DesignValue → ℕ → Data
link_value d c = object_of (ends_of d c)

-- the rate in Hz that a design is made for, if it has one
abbrev pub rate_member : Option ℕ → List (List ℕ × Data)
rate_member None = []
rate_member (Some n) = (codes "rate", natural n) ∷ []

-- a design with repetition vector q: its actors and links in file order; then the firings, the samples that each input
-- puts, and the samples that each output takes, all in a period; and the rate, if there is one
abbrev pub check_value : DesignValue → List ℕ → Data
check_value d q = object_of (
    (codes "actors", list_of (each_to (actor_value d q) (length d.net.nodes)))
    ∷ (codes "links", list_of (each_to (link_value d) (length d.net.wires)))
    ∷ (codes "period", natural (sum q))
    ∷ (codes "input", natural (period_samples d.net.nodes Inputs q))
    ∷ (codes "output", natural (period_samples d.net.nodes Outputs q))
    ∷ rate_member d.rate)

-- the text of a design, whose repetition vector is the least
pub record IsCheckJson (d : DesignValue) (text : List ℕ) : Type 0 where
  pub period : List ℕ
  pub least : IsLeastPeriod (rates (graph_of kit_steps d.net)) period
  pub is : IsLineOf (check_value d period) text
