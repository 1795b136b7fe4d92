-- The table of a design by the placement of the options, or why there is none.
use Rattle.std.specs.Prelude.{◌≡◌, ℕ, true, false, slice_index}
use Rattle.sdf_graph.specs.Rates.{Rates, rates}
use Rattle.sdf_graph.specs.Sequences.{repeated}
use Rattle.sdf_actor.specs.Graphs.{graph_of}
use Rattle.sdf_kit.specs.Kit.{kit_steps}
use Rattle.sdf_sched.specs.Period.{Schedule}
use Rattle.sdf_prec.specs.declared.fault.PrecFault.{PrecFault}
use Rattle.sdf_prec.specs.Blocks.{block, IsSizeFault as IsBlockSizeFault}
use Rattle.sdf_prec.specs.ByHomes.{AreByHomes, AreRunsByHomes, IsHomesFault}
use Rattle.sdf_prec.specs.HuTables.{IsHuTable}
use Rattle.sdf_prec.specs.Long.{IsLongest, IsLongSize, IsSpreadFault, IsSpreadTable}
use Rattle.sdf_prec.specs.Tables.{TableValue, IsTable}
use Rattle.sdf_file.specs.Designs.{DesignValue}
use Rattle.sdf_options.specs.declared.options.Options.{Options}
use Rattle.sdf_options.specs.declared.options.Placement.{Placement}
use Rattle.sdf_options.specs.declared.options.Placement.TheVariants.{Hu, Homed, File, Spread}
use Rattle.sdf_options.specs.declared.options.Policy.{Policy}
use Rattle.sdf_options.specs.declared.options.Policy.TheVariants.{Round, Lean, Runs}
use Rattle.sdf_plan.specs.Weights.{weights_of}

abbrev pub rates_of : DesignValue → Rates
rates_of d = rates (graph_of kit_steps d.net)

-- the periods of a block: of a long block if the actors are spread, otherwise the number in the options
abbrev pub ArePeriodsBy : Placement → DesignValue → ℕ → Schedule → ℕ → Type 0
ArePeriodsBy Spread d asked s j = IsLongest (rates_of d) s.repetitions j
ArePeriodsBy placement d asked s j = j ≡ asked

abbrev pub ArePeriodsOf : DesignValue → Options → Schedule → ℕ → Type 0
ArePeriodsOf d o s j = ArePeriodsBy o.placement d o.blocking s j

-- the number of firings of each actor in a block
abbrev pub firings_of : ℕ → Schedule → ℕ → ℕ
firings_of j s = slice_index (block j s.repetitions)

-- one firing a row at the homes of the design: the period's order j times, or by the policy of runs the whole block in
-- runs
abbrev pub AreAtHome : Policy → DesignValue → ℕ → ℕ → Schedule → TableValue → Type 0
AreAtHome Round d j m s t = AreByHomes d.homes m (repeated j s.order) t.rows
AreAtHome Lean d j m s t = AreByHomes d.homes m (repeated j s.order) t.rows
AreAtHome Runs d j m s t = AreRunsByHomes (rates_of d) (firings_of j s) d.homes m t.rows

-- the table by a placement for blocks of j periods and m workers: by Hu's rule with the costs of the design, free or
-- homed; or one firing a row, at the homes of the design, or at the homes by which its weight is spread
abbrev pub IsPlaced : Placement → Policy → DesignValue → ℕ → ℕ → Schedule → TableValue → Type 0
IsPlaced Hu policy d j m s t = IsHuTable (rates_of d) (firings_of j s) (slice_index d.costs) m false t
IsPlaced Homed policy d j m s t = IsHuTable (rates_of d) (firings_of j s) (slice_index d.costs) m true t
IsPlaced File policy d j m s t = IsTable (rates_of d) (firings_of j s) m t × AreAtHome policy d j m s t
IsPlaced Spread policy d j m s t = IsSpreadTable (rates_of d) s.repetitions j m (weights_of d s.repetitions) t

-- the first reason why there is no table
abbrev pub IsPlaceFault : Placement → DesignValue → ℕ → ℕ → Schedule → PrecFault → Type 0
IsPlaceFault Hu d j m s f = IsBlockSizeFault j m s.repetitions f
IsPlaceFault Homed d j m s f = IsBlockSizeFault j m s.repetitions f
IsPlaceFault File d j m s f = IsHomesFault j m s.repetitions d.homes f
IsPlaceFault Spread d j m s f = IsSpreadFault j m s.repetitions f

-- the table of a design's period for blocks of j periods by options
pub record IsTableBy (d : DesignValue) (o : Options) (s : Schedule) (j : ℕ) (t : TableValue) : Type 0 where
  pub size : IsLongSize j o.workers s.repetitions
  pub placed : IsPlaced o.placement o.policy d j o.workers s t
