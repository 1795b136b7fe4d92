-- Places in a graph file's text where costs of actors are written, or may be written.
use Rattle.std.specs.Prelude.{ℕ, suc, ◌+◌, ◌-◌, ◌==◌, ◌&&◌, ◌||◌, Bool, false, List, [], ◌∷◌, ◌++◌, codes, decimal}
use Rattle.std.specs.Prelude.{length, take, drop, slice_range, option_map, Option, Some, None, Result, Ok, Err}
use Rattle.std.specs.Prelude.{if◌then◌else◌, nat_eq, nat_le, nat_lt}
use Rattle.std.specs.Char.{is_ascii_digit, is_ascii_whitespace}
use Rattle.std.specs.List.{prefix_len, starts_with, ends_with, list_all}
use Rattle.std.specs.Cmp.Lexicographic.{pointwise}
use Rattle.std.specs.Option.{option_to_list}
use Rattle.sdf_profile.specs.declared.places.CostPlace.{CostPlace}
use Rattle.sdf_profile.specs.declared.places.Found.{Found}
use Rattle.sdf_profile.specs.declared.unwritten.Unwritten.{Unwritten}
use Rattle.sdf_profile.specs.declared.unwritten.Unwritten.TheVariants.{Cost, Tables}

-- ---- a line

abbrev pub begins : List ℕ → List ℕ → Bool
begins text with = starts_with nat_eq text with

abbrev pub ends : List ℕ → List ℕ → Bool
ends text with = ends_with nat_eq text with

-- lines, with a byte put in front of the first one
abbrev pub begun : ℕ → List (List ℕ) → List (List ℕ)
begun b [] = (b ∷ []) ∷ []
begun b (line ∷ rest) = (b ∷ line) ∷ rest

-- the lines of a text, each with its end
abbrev pub lines : List ℕ → List (List ℕ)
lines [] = []
lines (b ∷ bs) = if b == 10 then (b ∷ []) ∷ lines bs else begun b (lines bs)

-- the length of the first line, with its end
abbrev pub line_length : List ℕ → ℕ
line_length [] = 0
line_length (b ∷ bs) = if b == 10 then 1 else suc (line_length bs)

-- a carriage return and a line feed, a line feed, or nothing
abbrev pub end_length : List ℕ → ℕ
end_length line = if ends line (13 ∷ 10 ∷ []) then 2 else if ends line (10 ∷ []) then 1 else 0

-- a line without the blanks at its front
abbrev pub unindented : List ℕ → List ℕ
unindented line = drop (prefix_len is_ascii_whitespace line) line

-- a line is blank or only a comment
unfoldable pub says_nothing : List ℕ → Bool
says_nothing line = length (unindented line) == 0 || begins (unindented line) (codes "#")

-- a line has the key `cost`, bare or quoted, without escapes: no other key begins with it
unfoldable pub names_cost : List ℕ → Bool
names_cost line =
    (begins (unindented line) (codes "cost") || begins (unindented line) (codes "\"cost"))
    || begins (unindented line) (codes "'cost")

abbrev pub digits : List ℕ → ℕ
digits text = prefix_len is_ascii_digit text

abbrev pub key : List ℕ
key = codes "cost = "

-- the length of the key and its number, if these are all that the line says
unfoldable pub cost_length : List ℕ → Option ℕ
cost_length line =
    let value = drop (length key) line in
    if begins line key && (nat_lt 0 (digits value) && says_nothing (drop (digits value) value))
    then Some (length key + digits value) else None

-- ---- places

-- the place at the end of a line that begins here
abbrev pub place_behind : ℕ → List ℕ → Bool → CostPlace
place_behind start line long = record { start = start + (length line - end_length line); length = 0; long = long }

-- the places in the tables before, and the place in the current table, if that is an actor's
pub record FoundValue : Type 0 where
  pub places : List CostPlace
  pub table : Option CostPlace

abbrev pub found_view : Found → FoundValue
found_view f = record { places = f.places.items; table = f.table }

-- all places, when the last table is over
abbrev pub closed : FoundValue → List CostPlace
closed f = f.places ++ option_to_list f.table

-- what is found after a line that heads a table
unfoldable pub head_found : ℕ → List ℕ → FoundValue → FoundValue
head_found start line f = record {
  places = closed f;
  table = if begins line (codes "[[actor]]") then Some (place_behind start line (ends line (13 ∷ 10 ∷ []))) else None;
}

-- what is found after a line with the key `cost`, at the place that the key has there
abbrev pub cost_found : ℕ → FoundValue → Option ℕ → Result FoundValue Unwritten
cost_found start f None = Err (Cost (length f.places))
cost_found start f (Some n) = Ok (record f { table = Some (record { start = start; length = n; long = false }) })

-- what is found after a line of an actor's table that has a key
unfoldable pub entry_found : ℕ → List ℕ → CostPlace → FoundValue → Result FoundValue Unwritten
entry_found start line place f =
    if names_cost line then cost_found start f (cost_length line)
    else if place.length == 0 then Ok (record f { table = Some (place_behind start line place.long) })
    else Ok f

abbrev pub key_found : ℕ → List ℕ → Option CostPlace → FoundValue → Result FoundValue Unwritten
key_found start line None f = Ok f
key_found start line (Some place) f = entry_found start line place f

-- what is found after any line
unfoldable pub line_found : ℕ → List ℕ → FoundValue → Result FoundValue Unwritten
line_found start line f =
    if begins line (codes "[") then Ok (head_found start line f)
    else if says_nothing line then Ok f
    else key_found start line f.table f

abbrev pub then_found : Result FoundValue Unwritten → (FoundValue → Result FoundValue Unwritten) →
    Result FoundValue Unwritten
then_found (Ok f) next = next f
then_found (Err fault) next = Err fault

-- what is found after lines, the first of which begins here
abbrev pub found_in : ℕ → List (List ℕ) → FoundValue → Result FoundValue Unwritten
found_in start [] f = Ok f
found_in start (line ∷ rest) f = then_found (line_found start line f) (λ g. found_in (start + length line) rest g)

abbrev pub none : FoundValue
none = record { places = []; table = None }

abbrev pub closed_in : Result FoundValue Unwritten → Result (List CostPlace) Unwritten
closed_in (Ok f) = Ok (closed f)
closed_in (Err fault) = Err fault

-- the place of each actor's cost in a graph file's text, or the first table in which it is written in another form
unfoldable pub places_of : List ℕ → Result (List CostPlace) Unwritten
places_of graph = closed_in (found_in 0 (lines graph) none)

-- ---- a text with costs at its places

-- the key and a number
unfoldable pub is_cost : List ℕ → Bool
is_cost text = pointwise nat_eq (take (length key) text) key && list_all is_ascii_digit (drop (length key) text)

-- what comes before a cost that replaces a text, if that may be replaced: nothing if the text is a cost, a line end if
-- it is empty
unfoldable pub before : List ℕ → Bool → Option (List ℕ)
before old long =
    if is_cost old then Some []
    else if length old == 0 then Some (if long then 13 ∷ 10 ∷ [] else 10 ∷ []) else None

-- the text of cost n that replaces a text, if that may be replaced
unfoldable pub text_for : ℕ → List ℕ → Bool → Option (List ℕ)
text_for n old long = option_map (λ b. b ++ key ++ decimal n) (before old long)

-- what is written up to the end of a place
pub record Piece : Type 0 where
  pub new : List ℕ
  pub end : ℕ

-- what was not read up to a place, and the cost n there, if it may be written
unfoldable pub piece : List ℕ → ℕ → CostPlace → ℕ → Option Piece
piece graph read p n =
    let end = p.start + p.length in
    if nat_le read p.start && nat_le end (length graph)
    then option_map (λ new. record { new = slice_range graph read p.start ++ new; end = end })
    (text_for n (slice_range graph p.start end) p.long)
    else None

abbrev pub behind : List ℕ → Result (List ℕ) Unwritten → Result (List ℕ) Unwritten
behind text (Ok rest) = Ok (text ++ rest)
behind text (Err fault) = Err fault

-- a piece, and the rest of the text
abbrev pub joined : ℕ → Option Piece → (ℕ → Result (List ℕ) Unwritten) → Result (List ℕ) Unwritten
joined actor None rest = Err (Cost actor)
joined actor (Some p) rest = behind p.new (rest p.end)

-- what was not read, with the costs from this actor on at their places
abbrev pub written_from : List ℕ → ℕ → ℕ → List CostPlace → List ℕ → Result (List ℕ) Unwritten
written_from graph read actor (p ∷ places) (n ∷ costs) =
    joined actor (piece graph read p n) (λ end. written_from graph end (suc actor) places costs)
written_from graph read actor places costs = Ok (drop read graph)

-- a text with costs at these places, one each
unfoldable pub costed_in : List ℕ → List CostPlace → List ℕ → Result (List ℕ) Unwritten
costed_in graph places costs =
    if length places == length costs then written_from graph 0 0 places costs else Err (Tables (length places))

abbrev pub costed_at : List ℕ → List ℕ → Result (List CostPlace) Unwritten → Result (List ℕ) Unwritten
costed_at costs graph (Ok places) = costed_in graph places costs
costed_at costs graph (Err fault) = Err fault

-- a graph file's text with costs, or why it can't be made: the first table in which the cost is written in another
-- form, otherwise the number of tables, if it is not the number of costs
unfoldable pub costed_text_of : List ℕ → List ℕ → Result (List ℕ) Unwritten
costed_text_of costs graph = costed_at costs graph (places_of graph)
