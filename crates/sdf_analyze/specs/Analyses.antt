-- The text that the command `analyze` prints.
use Rattle.std.specs.Prelude.{◌≡◌, ℕ, List}
use Rattle.sdf_sched.specs.Period.{Schedule}
use Rattle.sdf_prec.specs.Tables.{TableValue}
use Rattle.sdf_file.specs.Designs.{DesignValue}
use Rattle.sdf_options.specs.declared.options.Options.{Options}
use Rattle.sdf_plan.specs.Schedules.{IsDesignSchedule}
use Rattle.sdf_analyze.specs.Figures.{FiguresValue, AreFiguresOf}
use Rattle.sdf_analyze.specs.Texts.{analysis_text}

-- the periods of a block, the table that options o give design d, and the table's figures
pub record IsAnalysisOf (d : DesignValue) (o : Options) (periods : ℕ) (t : TableValue) (f : FiguresValue) : Type 0 where
  pub period : Schedule
  pub design_schedule : IsDesignSchedule d o periods period t
  pub are : AreFiguresOf d periods o.workers period t f

-- the text of the figures and the capacities of the table that options o give design d
pub record IsAnalysis (d : DesignValue) (o : Options) (text : List ℕ) : Type 0 where
  pub periods : ℕ
  pub table : TableValue
  pub figures : FiguresValue
  pub analysis_of : IsAnalysisOf d o periods table figures
  pub is : text ≡ analysis_text d figures table.caps
