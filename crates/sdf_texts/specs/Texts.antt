-- The texts of designs.
use Rattle.std.specs.Prelude.{◌≡◌, ℕ, List, [], ◌∷◌, ◌++◌, length, sum, codes, decimal, slice_index, slice_index_or}
use Rattle.std.specs.Prelude.{Option, Some, None}
use Rattle.std.specs.List.{flat_map, range_with_len}
use Rattle.sdf_graph.specs.Rates.{rates}
use Rattle.sdf_graph.specs.Periods.{IsLeastPeriod}
use Rattle.sdf_actor.specs.Graphs.{graph_of}
use Rattle.sdf_actor.specs.Sides.{period_samples}
use Rattle.sdf_actor.specs.declared.sides.Lists.TheVariants.{Inputs, Outputs}
use Rattle.sdf_kit.specs.Kit.{kit_steps}
use Rattle.sdf_file.specs.Designs.{DesignValue}

-- a line feed
abbrev pub end : List ℕ
end = 10 ∷ []

-- an actor's name, and the number of its firings in a period
abbrev pub q_line : List ℕ → ℕ → List ℕ
q_line name count = codes "q " ++ name ++ codes " " ++ decimal count ++ end

-- the lines of the first n actors, with repetition vector q
abbrev pub q_lines : DesignValue → List ℕ → ℕ → List ℕ
q_lines d q n = flat_map (λ a. q_line (slice_index_or d.names a []) (slice_index q a)) (range_with_len 0 n)

-- the number of firings in a period with repetition vector q, and the lines of the actors
abbrev pub period_text : DesignValue → List ℕ → List ℕ
period_text d q = codes "period " ++ decimal (sum q) ++ end ++ q_lines d q (length d.net.nodes)

-- the rate in Hz that a design is made for, if it has one
abbrev pub rate_line : Option ℕ → List ℕ
rate_line None = []
rate_line (Some n) = codes "rate " ++ decimal n ++ end

-- what `check` prints of a design with repetition vector q
abbrev pub check_text : DesignValue → List ℕ → List ℕ
check_text d q =
    codes "actors " ++ decimal (length d.net.nodes) ++ end
    ++ codes "links " ++ decimal (length d.net.wires) ++ end
    ++ period_text d q
    ++ codes "input " ++ decimal (period_samples d.net.nodes Inputs q) ++ codes " output "
    ++ decimal (period_samples d.net.nodes Outputs q) ++ end
    ++ rate_line d.rate

-- the text of a design, by its least repetition vector
pub record IsCheckText (d : DesignValue) (text : List ℕ) : Type 0 where
  pub period : List ℕ
  pub least : IsLeastPeriod (rates (graph_of kit_steps d.net)) period
  pub is : text ≡ check_text d period
