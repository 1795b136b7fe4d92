-- The text of arrows.
use Rattle.std.specs.Prelude.{ℕ, ◌+◌, ◌-◌, ◌*◌, ◌/◌, ◌%◌, ◌==◌, List, [], ◌++◌, if◌then◌else◌, codes, length}
use Rattle.std.specs.Prelude.{slice_index}
use Rattle.sdf_graph.specs.Rates.{ChannelValue}
use Rattle.sdf_file.specs.Designs.{DesignValue}
use Rattle.sdf_analyze.specs.Texts.{lines_to}
use Rattle.sdf_draw.specs.declared.arrows.TheConstants.{STUB, TAIL, SHIFTS, SHIFT, DOT}
use Rattle.sdf_draw.specs.declared.arrows.Point.{Point}
use Rattle.sdf_draw.specs.declared.layout.TheConstants.{PORT}
use Rattle.sdf_draw.specs.declared.layout.BoxPlace.{BoxPlace}
use Rattle.sdf_draw.specs.declared.layout.Route.{Route}
use Rattle.sdf_draw.specs.declared.layout.Route.TheVariants.{Across, Above, Below}
use Rattle.sdf_draw.specs.declared.ports.End.{End}
use Rattle.sdf_draw.specs.declared.texts.TheConstants.{COLOURS}
use Rattle.sdf_draw.specs.Layouts.{place, route, left_of, right_of, lane_above, lane_below}
use Rattle.sdf_draw.specs.Edges.{edge, from_end, to_end}
use Rattle.sdf_draw.specs.Texts.{number_text, pair_text, rate_text}

-- the y of a port at a box: the ports of a side are centred on it
abbrev pub port_height : BoxPlace → ℕ → ℕ → ℕ
port_height p ports port = p.y + (p.height - PORT * ports) / 2 + PORT * port + PORT / 2

-- a link begins at the right side of a box, and ends at the left side of a box
abbrev pub start_of : List BoxPlace → End → Point
start_of ps e = record { x = right_of (place ps e.actor); y = port_height (place ps e.actor) e.ports e.port }

abbrev pub end_of : List BoxPlace → End → Point
end_of ps e = record { x = left_of (place ps e.actor); y = port_height (place ps e.actor) e.ports e.port }

-- a curve across a gap
unfoldable pub curve_text : Point → Point → List ℕ
curve_text start end =
    number_text (codes " C") (start.x + STUB + 40) ++ number_text (codes " ") start.y
    ++ number_text (codes " ") (end.x - (TAIL + 40)) ++ number_text (codes " ") end.y
    ++ number_text (codes " ") (end.x - TAIL) ++ number_text (codes " ") end.y

-- corners to a lane at this y, and from it
unfoldable pub turns_text : Point → Point → ℕ → ℕ → List ℕ
turns_text start end lane shift =
    number_text (codes " H") (start.x + STUB + shift) ++ number_text (codes " V") lane
    ++ number_text (codes " H") (end.x - (TAIL + shift)) ++ number_text (codes " V") end.y

-- vertical lines of links with successive numbers lie beside one another
abbrev pub shift_of : ℕ → ℕ
shift_of c = c % SHIFTS * SHIFT

-- the part of an arrow between its straight parts
abbrev pub route_text : List BoxPlace → Route → ℕ → Point → Point → List ℕ
route_text ps Across shift start end = curve_text start end
route_text ps (Above lane) shift start end = turns_text start end (lane_above lane) shift
route_text ps (Below lane) shift start end = turns_text start end (lane_below ps lane) shift

-- the straight part at the beginning of a line, in a colour
unfoldable pub stub_text : ℕ → Point → List ℕ
stub_text colour start =
    number_text (codes "<path class='way s") colour ++ number_text (codes "' d='M") start.x
    ++ number_text (codes " ") start.y ++ number_text (codes " H") (start.x + STUB)

unfoldable pub line_text : List BoxPlace → Route → ℕ → ℕ → Point → Point → List ℕ
line_text ps r c colour start end =
    stub_text colour start ++ route_text ps r (shift_of c) start end
    ++ number_text (codes " H") (end.x - 2) ++ codes "'/>"

-- the beginning of a text, and its position
abbrev pub at_text : List ℕ → ℕ → ℕ → List ℕ
at_text word x y = pair_text word x (codes "' y='") y

-- the samples that firings put on a link
unfoldable pub put_text : List ℕ → Point → List ℕ
put_text put start =
    at_text (codes "<text x='") (start.x + 5) (start.y - 4) ++ codes "'>" ++ rate_text put ++ codes "</text>"

-- the samples that firings take from a link
unfoldable pub take_text : List ℕ → Point → List ℕ
take_text take end =
    at_text (codes "<text class='end' x='") (end.x - 9) (end.y - 4) ++ codes "'>" ++ rate_text take ++ codes "</text>"

-- the most samples that a link holds
unfoldable pub capacity_text : ℕ → Point → List ℕ
capacity_text capacity end =
    at_text (codes "<text class='end soft' x='") (end.x - 9) (end.y + 11) ++ number_text (codes "'>") capacity
    ++ codes "</text>"

-- the samples that a link begins with: none, or a dot and their number
unfoldable pub dot_text : ℕ → Point → List ℕ
dot_text initial end =
    pair_text DOT.now (end.x - (TAIL - 4)) (codes "' cy='") end.y
    ++ at_text (codes "'/><text x='") (end.x - (TAIL - 2)) (end.y - 6)
    ++ number_text (codes "'>") initial ++ codes "</text>"

abbrev pub initial_text : ℕ → Point → List ℕ
initial_text initial end = if initial == 0 then [] else dot_text initial end

-- the numbers at both ends of an arrow
unfoldable pub ends_text : ChannelValue → Point → Point → List ℕ
ends_text e start end = put_text e.put start ++ initial_text e.initial end ++ take_text e.take end

-- the arrow of a link of this capacity, between two points
abbrev pub between_text : ChannelValue → ℕ → List BoxPlace → Route → ℕ → Point → Point → List ℕ
between_text e capacity ps r c start end =
    line_text ps r c (e.from % COLOURS) start end ++ ends_text e start end ++ capacity_text capacity end
    ++ codes "\n"

abbrev pub arrow_text : DesignValue → List ℕ → List BoxPlace → List Route → ℕ → List ℕ
arrow_text d caps ps rs c =
    between_text (edge d c) (slice_index caps c) ps (route rs c) c (start_of ps (from_end d c)) (end_of ps (to_end d c))

-- an arrow for each link, in order
abbrev pub arrows_text : DesignValue → List ℕ → List BoxPlace → List Route → List ℕ
arrows_text d caps ps rs = lines_to (arrow_text d caps ps rs) (length d.net.wires)
