-- The drawing of a design by options.
use Rattle.std.specs.Prelude.{◌≡◌, ℕ, List, length}
use Rattle.sdf_sched.specs.Period.{Schedule}
use Rattle.sdf_prec.specs.Tables.{TableValue}
use Rattle.sdf_file.specs.Designs.{DesignValue}
use Rattle.sdf_options.specs.declared.options.Options.{Options}
use Rattle.sdf_plan.specs.Schedules.{IsDesignSchedule}
use Rattle.sdf_analyze.specs.Figures.{FiguresValue, AreFiguresOf}
use Rattle.sdf_draw.specs.declared.layout.BoxPlace.{BoxPlace}
use Rattle.sdf_draw.specs.declared.layout.Route.{Route}
use Rattle.sdf_draw.specs.declared.page.Drawing.{Drawing}
use Rattle.sdf_draw.specs.Layouts.{IsLayout}
use Rattle.sdf_draw.specs.Bars.{AreDrawable}

-- the period and the table of a schedule, and the table's figures; a box for each actor, a route for each link, and the
-- numbers of lanes above the boxes and below them
pub record DrawingValue : Type 0 where
  pub period : Schedule
  pub table : TableValue
  pub figures : FiguresValue
  pub places : List BoxPlace
  pub routes : List Route
  pub above : ℕ
  pub below : ℕ

abbrev pub drawing_value : Drawing → DrawingValue
drawing_value w = record {
  period = w.period;
  table = w.table;
  figures = w.figures;
  places = w.layout.places.items;
  routes = w.layout.routes.items;
  above = w.layout.above;
  below = w.layout.below;
}

-- the table that options give a design, with its figures, and boxes and routes by the order of its period
pub record IsDrawing (d : DesignValue) (o : Options) (w : DrawingValue) : Type 0 where
  pub periods : ℕ
  pub design_schedule : IsDesignSchedule d o periods w.period w.table
  pub figures : AreFiguresOf d periods o.workers w.period w.table w.figures
  pub layout : IsLayout d w.period.order w.places w.above w.below w.routes
  pub drawable : AreDrawable d o.workers w.table w.figures.starts
  pub capacities : length w.table.caps ≡ length d.net.wires
  pub fire : length w.period.repetitions ≡ length d.net.nodes
