-- The text of boxes.
use Rattle.std.specs.Prelude.{ℕ, ◌+◌, ◌-◌, ◌/◌, ◌%◌, List, [], ◌∷◌, ◌++◌, if◌then◌else◌, codes, length, nat_lt}
use Rattle.std.specs.Prelude.{slice_index, slice_index_or}
use Rattle.std.specs.List.{flat_map}
use Rattle.sdf_actor.specs.Nets.{node}
use Rattle.sdf_file.specs.Designs.{DesignValue}
use Rattle.sdf_analyze.specs.Texts.{lines_to}
use Rattle.sdf_draw.specs.declared.boxes.TheConstants.{POINT, CUT, FITTING}
use Rattle.sdf_draw.specs.declared.ports.Shape.{Shape}
use Rattle.sdf_draw.specs.declared.ports.Shape.TheVariants.{Source, Sink, Filter, Plain}
use Rattle.sdf_draw.specs.declared.layout.TheConstants.{WIDTH}
use Rattle.sdf_draw.specs.declared.layout.BoxPlace.{BoxPlace}
use Rattle.sdf_draw.specs.declared.texts.TheConstants.{COLOURS}
use Rattle.sdf_draw.specs.Layouts.{place, left_of, right_of, middle_of, bottom_of}
use Rattle.sdf_draw.specs.Shapes.{shape_of}
use Rattle.sdf_draw.specs.Texts.{number_text, name_text}

abbrev pub point_text : ℕ × ℕ → List ℕ
point_text p = number_text (codes " ") p.0 ++ number_text (codes ",") p.1

abbrev pub points_text : List (ℕ × ℕ) → List ℕ
points_text ps = flat_map point_text ps

-- the corners of each shape, clockwise
abbrev pub source_corners : BoxPlace → List (ℕ × ℕ)
source_corners p =
    (left_of p, p.y) ∷ (right_of p - POINT, p.y) ∷ (right_of p, middle_of p) ∷ (right_of p - POINT, bottom_of p)
    ∷ (left_of p, bottom_of p) ∷ []

abbrev pub sink_corners : BoxPlace → List (ℕ × ℕ)
sink_corners p =
    (left_of p + POINT, p.y) ∷ (right_of p, p.y) ∷ (right_of p, bottom_of p) ∷ (left_of p + POINT, bottom_of p)
    ∷ (left_of p, middle_of p) ∷ []

abbrev pub upper_corners : BoxPlace → List (ℕ × ℕ)
upper_corners p =
    (left_of p, p.y + CUT) ∷ (left_of p + CUT, p.y) ∷ (right_of p - CUT, p.y) ∷ (right_of p, p.y + CUT) ∷ []

abbrev pub lower_corners : BoxPlace → List (ℕ × ℕ)
lower_corners p =
    (right_of p, bottom_of p - CUT) ∷ (right_of p - CUT, bottom_of p) ∷ (left_of p + CUT, bottom_of p)
    ∷ (left_of p, bottom_of p - CUT) ∷ []

abbrev pub plain_corners : BoxPlace → List (ℕ × ℕ)
plain_corners p =
    (left_of p, p.y) ∷ (right_of p, p.y) ∷ (right_of p, bottom_of p) ∷ (left_of p, bottom_of p) ∷ []

unfoldable pub corners_text : Shape → BoxPlace → List ℕ
corners_text Source p = points_text (source_corners p)
corners_text Sink p = points_text (sink_corners p)
corners_text Filter p = points_text (upper_corners p) ++ points_text (lower_corners p)
corners_text Plain p = points_text (plain_corners p)

-- an actor's outline, in its colour
unfoldable pub outline_text : ℕ → Shape → BoxPlace → List ℕ
outline_text a shape p =
    number_text (codes "<polygon class='box s") (a % COLOURS) ++ codes "' points='" ++ corners_text shape p
    ++ codes "'/>"

-- the beginning of a text, and its position: in the middle of a box, at y
abbrev pub line_text : List ℕ → BoxPlace → ℕ → List ℕ
line_text word p y =
    word ++ number_text (codes " x='") (left_of p + WIDTH / 2) ++ number_text (codes "' y='") y

-- a name of more characters than fit is compressed
abbrev pub compression_text : ℕ → List ℕ
compression_text characters =
    if nat_lt FITTING characters then number_text (codes "' lengthAdjust='spacingAndGlyphs' textLength='") (WIDTH - 36)
    else []

-- a name in the middle of its box
unfoldable pub label_text : DesignValue → ℕ → BoxPlace → List ℕ
label_text d a p =
    line_text (codes "<text class='mid'") p (middle_of p - 2) ++ compression_text (length (slice_index_or d.names a []))
    ++ codes "'>" ++ name_text d a ++ codes "</text>"

-- how often an actor fires in a period, below its name
unfoldable pub firings_text : ℕ → BoxPlace → List ℕ
firings_text firings p =
    line_text (codes "<text class='mid soft'") p (middle_of p + 13) ++ number_text (codes "'>q ") firings
    ++ codes "</text>\n"

-- the box of actor a, which fires this often in a period
unfoldable pub box_text : DesignValue → ℕ → BoxPlace → ℕ → List ℕ
box_text d a p firings =
    outline_text a (shape_of (node d.net a)) p ++ label_text d a p ++ firings_text firings p

-- a box for each actor, in order, for repetition vector q
abbrev pub boxes_text : DesignValue → List ℕ → List BoxPlace → List ℕ
boxes_text d q ps = lines_to (λ a. box_text d a (place ps a) (slice_index q a)) (length d.net.nodes)
