-- The text of a table against time.
use Rattle.std.specs.Prelude.{ℕ, ◌+◌, ◌-◌, ◌*◌, ◌%◌, List, ◌++◌, codes, length, nat_lt, slice_index}
use Rattle.std.specs.List.{flat_map}
use Rattle.sdf_prec.specs.Tables.{TableValue}
use Rattle.sdf_times.specs.Times.{start_in}
use Rattle.sdf_file.specs.Designs.{DesignValue}
use Rattle.sdf_analyze.specs.Figures.{FiguresValue}
use Rattle.sdf_analyze.specs.Texts.{lines_to}
use Rattle.sdf_draw.specs.declared.bars.Bar.{Bar}
use Rattle.sdf_draw.specs.declared.chart.TheConstants.{CHART, ROW, MAX_BARS}
use Rattle.sdf_draw.specs.declared.texts.TheConstants.{COLOURS}
use Rattle.sdf_draw.specs.Bars.{bar_of, bars_to, scaled}
use Rattle.sdf_draw.specs.Texts.{number_text, pair_text, name_text}

-- a bar in a colour up to its title: its start and its width as times, and its y
unfoldable pub rect_text : ℕ → ℕ → ℕ → ℕ → List ℕ
rect_text colour start width y =
    number_text (codes "<rect class='f") colour ++ number_text (codes "' x='") start
    ++ number_text (codes "' width='") width ++ number_text (codes "' y='") y ++ codes "' height='22'><title>"

-- the name of a bar's actor, and the bar's times
unfoldable pub title_text : DesignValue → ℕ → ℕ → ℕ → List ℕ
title_text d a start end =
    name_text d a ++ pair_text (codes " ") start (codes " to ") end ++ codes "</title></rect>\n"

-- a bar of worker k, in the colour of its actor, from its start to its end
abbrev pub bar_text : DesignValue → ℕ → Bar → List ℕ
bar_text d k b =
    rect_text (b.actor % COLOURS) b.start (b.end - b.start) (ROW * k + 4) ++ title_text d b.actor b.start b.end

-- the bars of worker k: of its firings in row order, joined if the table has many firings
abbrev pub bars_of : DesignValue → TableValue → List (List ℕ) → ℕ → List Bar
bars_of d t starts k =
    bars_to (nat_lt MAX_BARS (length t.order)) (bar_of (slice_index d.costs) (start_in starts)) t.rows k
    (length t.rows)

unfoldable pub lane_text : DesignValue → TableValue → List (List ℕ) → ℕ → List ℕ
lane_text d t starts k = flat_map (bar_text d k) (bars_of d t starts k)

-- the beginning of the bars' frame: the makespan, in units of time, is as wide as the chart
unfoldable pub frame_text : ℕ → ℕ → List ℕ
frame_text makespan end =
    number_text (codes "<svg preserveAspectRatio='none' width='") CHART ++ number_text (codes "' height='") end
    ++ number_text (codes "' viewBox='0 0 ") makespan ++ number_text (codes " ") end ++ codes "'>\n"

-- the bars of each of m workers
abbrev pub rows_text : DesignValue → TableValue → List (List ℕ) → ℕ → List ℕ
rows_text d t starts m = lines_to (lane_text d t starts) m

-- the bars of m workers in their frame, in units of time
abbrev pub lanes_text : DesignValue → TableValue → FiguresValue → ℕ → List ℕ
lanes_text d t f m =
    frame_text f.makespan (ROW * m) ++ rows_text d t f.starts m ++ codes "</svg>\n"

-- the name of worker k's lane, and a line under it
unfoldable pub worker_text : ℕ → List ℕ
worker_text k =
    number_text (codes "<text class='end' x='-10' y='") (ROW * k + ROW - 10) ++ number_text (codes "'>worker ") k
    ++ number_text (codes "</text><path class='rule' d='M0 ") (ROW * k + ROW) ++ number_text (codes " H") CHART
    ++ codes "'/>\n"

abbrev pub workers_text : ℕ → List ℕ
workers_text m = lines_to worker_text m

-- a vertical line at x `place`, down to y `end`
unfoldable pub mark_text : ℕ → ℕ → List ℕ
mark_text place end =
    number_text (codes "<path class='bound' d='M") place ++ number_text (codes " -8 V") end ++ codes "'/>"

-- the bound above its line
unfoldable pub label_text : ℕ → ℕ → List ℕ
label_text place bound =
    number_text (codes "<text class='end' x='") place ++ number_text (codes "' y='-12'>bound ") bound
    ++ codes "</text>\n"

-- the line of the bound, with its number
abbrev pub bound_text : FiguresValue → ℕ → List ℕ
bound_text f end =
    mark_text (scaled f.bound f.makespan) end ++ label_text (scaled f.bound f.makespan) f.bound

-- a line at each end of the times
unfoldable pub rules_text : ℕ → List ℕ
rules_text end =
    number_text (codes "<path class='rule' d='M0 0 V") end ++ number_text (codes " M") CHART
    ++ number_text (codes " 0 V") end ++ codes "'/>"

unfoldable pub makespan_text : ℕ → ℕ → List ℕ
makespan_text makespan y =
    number_text (codes "<text class='end' x='") CHART ++ number_text (codes "' y='") y
    ++ number_text (codes "'>makespan ") makespan ++ codes "</text>\n"

-- the times at both ends
abbrev pub axis_text : ℕ → ℕ → List ℕ
axis_text makespan end =
    rules_text end ++ number_text (codes "<text y='") (end + 16) ++ codes "'>0</text>"
    ++ makespan_text makespan (end + 16)

-- the chart of a table in m columns, with its figures, against time
abbrev pub chart_text : DesignValue → TableValue → FiguresValue → ℕ → List ℕ
chart_text d t f m =
    workers_text m ++ lanes_text d t f m ++ axis_text f.makespan (ROW * m) ++ bound_text f (ROW * m)
