-- The text of a picture.
use Rattle.std.specs.Prelude.{◌≡◌, ℕ, ◌+◌, ◌-◌, ◌*◌, List, ◌++◌, codes, max}
use Rattle.sdf_file.specs.Designs.{DesignValue}
use Rattle.sdf_options.specs.declared.options.Options.{Options}
use Rattle.sdf_draw.specs.declared.page.TheConstants.{LEFT, ZERO, HEAD_TEXT, STYLE, LEGEND}
use Rattle.sdf_draw.specs.declared.chart.TheConstants.{CHART, ROW}
use Rattle.sdf_draw.specs.declared.layout.BoxPlace.{BoxPlace}
use Rattle.sdf_draw.specs.Layouts.{rightmost, lane_below}
use Rattle.sdf_draw.specs.Texts.{number_text}
use Rattle.sdf_draw.specs.Drawings.{DrawingValue, IsDrawing}
use Rattle.sdf_draw.specs.Arrows.{arrows_text}
use Rattle.sdf_draw.specs.Boxes.{boxes_text}
use Rattle.sdf_draw.specs.Charts.{chart_text}

-- the beginning of a picture, with its width and height; then the part that is shown
unfoldable pub size_text : ℕ → ℕ → List ℕ
size_text width height = HEAD_TEXT.now ++ number_text (codes " width='") width
    ++ number_text (codes "' height='") height

unfoldable pub view_text : ℕ → ℕ → List ℕ
view_text width height =
    number_text (codes "' viewBox='") LEFT ++ number_text (codes " 0 ") width ++ number_text (codes " ") height
    ++ codes "'>\n"

-- the styles, and the page behind everything
unfoldable pub page_text : ℕ → ℕ → List ℕ
page_text width height =
    STYLE.now ++ number_text (codes "<rect class='page' x='") LEFT ++ number_text (codes "' width='") width
    ++ number_text (codes "' height='") height ++ codes "'/>\n"

unfoldable pub legend_text : List ℕ
legend_text = number_text (codes "<text class='soft' y='24' x='") (LEFT + 20) ++ codes "'>" ++ LEGEND.now
    ++ codes "</text>\n"

-- the text before the arrows
abbrev pub head_text : ℕ → ℕ → List ℕ
head_text width height =
    size_text width height ++ view_text width height ++ page_text width height ++ legend_text

unfoldable pub origin_text : ℕ → List ℕ
origin_text top = number_text (codes "<g transform='translate(") ZERO ++ number_text (codes ",") top ++ codes ")'>\n"

-- the y at which the times begin: below the lanes under the boxes
abbrev pub chart_top : List BoxPlace → ℕ → ℕ
chart_top ps below = lane_below ps below + 80

-- wide enough for the boxes and for the times; high enough for the boxes with the times below them, which have a lane
-- for each of m workers
abbrev pub width_of : List BoxPlace → ℕ
width_of ps = max (rightmost ps) (ZERO + CHART) + 100 - LEFT

abbrev pub height_of : List BoxPlace → ℕ → ℕ → ℕ
height_of ps below m = chart_top ps below + ROW * m + 40

-- the text of a drawing for m workers, part after part: an arrow for each link, a box for each actor, and the bars of
-- each worker
abbrev pub picture_text : DesignValue → ℕ → DrawingValue → List ℕ
picture_text d m w =
    head_text (width_of w.places) (height_of w.places w.below m)
    ++ arrows_text d w.table.caps w.places w.routes
    ++ boxes_text d w.period.repetitions w.places
    ++ origin_text (chart_top w.places w.below)
    ++ chart_text d w.table w.figures m ++ codes "</g>\n</svg>\n"

-- the text of a drawing of the design by the options
pub record IsPicture (d : DesignValue) (o : Options) (text : List ℕ) : Type 0 where
  pub what : DrawingValue
  pub drawing : IsDrawing d o what
  pub is : text ≡ picture_text d o.workers what
