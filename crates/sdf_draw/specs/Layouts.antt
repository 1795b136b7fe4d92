-- The places of the actors' boxes, and the routes of the links' arrows.
use Rattle.std.specs.Prelude.{◌≡◌, ℕ, ◌+◌, ◌*◌, ◌/◌, ◌<◌, ◌≤◌, ◌⊎◌, ◌==◌, if◌then◌else◌, List, [], ◌∷◌, length, take}
use Rattle.std.specs.Prelude.{slice_index}
use Rattle.std.specs.Prelude.{slice_index_or, max}
use Rattle.std.specs.List.{sum_by}
use Rattle.sdf_actor.specs.Nets.{wire, node, inputs_of, outputs_of}
use Rattle.sdf_kit.specs.Kit.{kit_steps}
use Rattle.sdf_file.specs.Designs.{DesignValue}
use Rattle.sdf_plan.specs.Placements.{rates_of}
use Rattle.sdf_draw.specs.declared.layout.TheConstants.{WIDTH, PITCH, GAP, PORT, MARGIN, LANE, HEAD}
use Rattle.sdf_draw.specs.declared.layout.BoxPlace.{BoxPlace}
use Rattle.sdf_draw.specs.declared.layout.Route.{Route}
use Rattle.sdf_draw.specs.declared.layout.Route.TheVariants.{Across, Above, Below}
use Rattle.sdf_draw.specs.declared.arrows.Point.{Point}
use Rattle.sdf_draw.specs.Depths.{AreDepths}

abbrev pub no_place : BoxPlace
no_place = record { depth = 0; y = 0; height = 0 }

abbrev pub place : List BoxPlace → ℕ → BoxPlace
place ps a = slice_index_or ps a no_place

-- the x of a box's left side
abbrev pub left_of : BoxPlace → ℕ
left_of p = PITCH * p.depth

-- the x of a box's right side
abbrev pub right_of : BoxPlace → ℕ
right_of p = left_of p + WIDTH

-- the y of a box's bottom, and half way down
abbrev pub bottom_of : BoxPlace → ℕ
bottom_of p = p.y + p.height

abbrev pub middle_of : BoxPlace → ℕ
middle_of p = p.y + p.height / 2

-- the greatest value of f on some boxes, or 0 if there are none
abbrev pub greatest_by : (BoxPlace → ℕ) → List BoxPlace → ℕ
greatest_by f [] = 0
greatest_by f (p ∷ ps) = max (f p) (greatest_by f ps)

-- the bottom of the lowest box, and the right side of the rightmost one
abbrev pub lowest : List BoxPlace → ℕ
lowest ps = greatest_by bottom_of ps

abbrev pub rightmost : List BoxPlace → ℕ
rightmost ps = greatest_by right_of ps

-- the y of a lane above the boxes, and of a lane below them
abbrev pub lane_above : ℕ → ℕ
lane_above lane = HEAD + LANE * lane

abbrev pub lane_below : List BoxPlace → ℕ → ℕ
lane_below ps lane = lowest ps + GAP + LANE * lane

-- the height that a box takes in the column of this depth: 0 if it is in another column
abbrev pub room_in : ℕ → BoxPlace → ℕ
room_in depth p = if p.depth == depth then p.height + GAP else 0

-- the height that all boxes of this depth take
abbrev pub stack_height : List BoxPlace → ℕ → ℕ
stack_height ps depth = sum_by (room_in depth) ps

-- the height of an actor's box, given by the side with more ports
abbrev pub height_of : DesignValue → ℕ → ℕ
height_of d a =
    PORT * max (max (inputs_of kit_steps (node d.net a)) (outputs_of kit_steps (node d.net a))) 1 + MARGIN

-- the box of actor a: in the column of its depth, below the boxes of earlier actors there
pub record IsPlaced (d : DesignValue) (depths : List ℕ) (top : ℕ) (ps : List BoxPlace) (a : ℕ) : Type 0 where
  pub depth : (place ps a).depth ≡ slice_index depths a
  pub y : (place ps a).y ≡ top + stack_height (take a ps) (slice_index depths a)
  pub height : (place ps a).height ≡ height_of d a

-- a box for each actor, in order
pub record ArePlaces (d : DesignValue) (depths : List ℕ) (top : ℕ) (ps : List BoxPlace) : Type 0 where
  pub all : length ps ≡ length d.net.nodes
  pub each : (a : ℕ) → a < length ps → IsPlaced d depths top ps a

-- box p is above box q or to its left, with space between them
abbrev pub IsClear : BoxPlace → BoxPlace → Type 0
IsClear p q = (right_of p < left_of q) ⊎ (bottom_of p < q.y)

-- no two boxes overlap
abbrev pub AreApart : List BoxPlace → Type 0
AreApart ps = (a b : ℕ) → a < b → b < length ps → IsClear (place ps a) (place ps b) ⊎ IsClear (place ps b) (place ps a)

-- the route of an arrow between two depths: below the boxes if it leads to no greater depth, across the gap if it leads
-- to the next depth, above the boxes if it leads farther
abbrev pub IsRoute : ℕ → ℕ → Route → Type 0
IsRoute from to Across = to ≡ from + 1
IsRoute from to (Above lane) = from + 1 < to
IsRoute from to (Below lane) = to ≤ from

-- the route's lane is one of this many lanes above or below the boxes
abbrev pub IsWithin : ℕ → ℕ → Route → Type 0
IsWithin above below Across = Unit {0}
IsWithin above below (Above lane) = lane < above
IsWithin above below (Below lane) = lane < below

abbrev pub route : List Route → ℕ → Route
route rs c = slice_index_or rs c Across

-- a route for each link, in order, each in one of the lanes of its side
pub record AreRoutes (d : DesignValue) (depths : List ℕ) (above below : ℕ) (rs : List Route) : Type 0 where
  pub all : length rs ≡ length d.net.wires
  pub each : (c : ℕ) → c < length rs → IsRoute (slice_index depths (wire d.net c).from.0)
      (slice_index depths (wire d.net c).to.0) (route rs c)
  pub within : (c : ℕ) → c < length rs → IsWithin above below (route rs c)

-- the layout of a design whose period has this order of firings: the highest boxes begin below the upper lanes
pub record IsLayout (d : DesignValue) (order : List ℕ) (ps : List BoxPlace) (above below : ℕ) (rs : List Route) : Type 0
  where
    pub depths : List ℕ
    pub are : AreDepths (rates_of d) order depths
    pub boxes : ArePlaces d depths (HEAD + LANE * above + GAP) ps
    pub apart : AreApart ps
    pub arrows : AreRoutes d depths above below rs

-- a point is in a picture of any design
abbrev pub IsNear : Point → Type 0
IsNear s = (s.x < 10000000000000) × (s.y < 10000000000000)
