-- Statements of the laws.
use Rattle.std.specs.Prelude.{◌≡◌, ℕ, List}
use Rattle.sdf_graph.specs.Rates.{rates}
use Rattle.sdf_actor.specs.Graphs.{graph_of}
use Rattle.sdf_kit.specs.Kit.{kit_steps}
use Rattle.sdf_sched.specs.Period.{Schedule, IsPeriodOf}
use Rattle.sdf_wav.specs.Sound.{Sound}
use Rattle.sdf_file.specs.Designs.{DesignValue}
use Rattle.sdf_process.specs.Run.{HasOutput}

-- two outputs of one design and one input are equal, whatever the order of firings in their periods
abbrev pub OneOutput : DesignValue → Type 0
OneOutput d =
    (s t : Schedule) (input : List ℕ) (x y : Sound) →
    IsPeriodOf (rates (graph_of kit_steps d.net)) s → IsPeriodOf (rates (graph_of kit_steps d.net)) t →
    HasOutput d.net s.repetitions input x → HasOutput d.net t.repetitions input y → x ≡ y
