-- What a diagnostic says about a fault does not nest deep.
use Rattle.std.proofs.Common.{◌≤◌, ℕ, List, [], ◌∷◌, map, Option, Some, None, arith}
use Rattle.std.specs.Prelude.{String, codes, string_bytes, option_map}
use Rattle.std.specs.declared.alloc.Global.{Global}
use Rattle.serde_json.specs.Data.{Data, Members, null, boolean, number, string, array, object, members_depth}
use Rattle.sdf_json.specs.declared.details.Details.{Details}
use Rattle.sdf_json.specs.declared.details.Held.{Held}
use Rattle.sdf_json.specs.Values.{natural, list_of}
use Rattle.sdf_json.specs.Details.{perhaps_number, perhaps_text, perhaps_hint, held_in, unless, with_subject}
use Rattle.sdf_json.specs.Details.{with_details, detailed}
use Rattle.sdf_json.proofs.Depths.{IsFlat, put_flat, map_flat}

-- the members nest at most 2 deep
abbrev AreFlat : Members → Type 0
AreFlat ms = members_depth ms ≤ 2

number_flat : (key : List ℕ) (o : Option ℕ) (ms : Members) → AreFlat ms → AreFlat (perhaps_number key o ms)
number_flat key None ms flat = flat
number_flat key (Some n) ms flat = put_flat 2 key (natural n) ms (omega arith) flat

text_flat : (key : List ℕ) (o : Option (List ℕ)) (ms : Members) → AreFlat ms → AreFlat (perhaps_text key o ms)
text_flat key None ms flat = flat
text_flat key (Some s) ms flat = put_flat 2 key (string s) ms (omega arith) flat

lines_flat : (lines : List (String Global)) → IsFlat 2 (list_of (map (λ l. string (string_bytes l)) lines))
lines_flat lines =
    let each = map_flat 0 (λ (l : String Global). string (string_bytes l)) lines (λ l. omega arith) in
    omega (arith, each)

hint_flat : (lines : List (String Global)) (ms : Members) → AreFlat ms → AreFlat (perhaps_hint lines ms)
hint_flat [] ms flat = flat
hint_flat (line ∷ lines) ms flat =
    put_flat 2 (codes "hint") (list_of (map (λ l. string (string_bytes l)) (line ∷ lines))) ms
    (lines_flat (line ∷ lines)) flat

subject_flat : (x : Details) (held : Held) (ms : Members) → AreFlat ms → AreFlat (with_subject x held ms)
subject_flat x held ms flat =
    text_flat (codes "key") (unless held.key (option_map string_bytes x.key)) _
    (number_flat (codes "link") (unless held.link x.link) _
    (number_flat (codes "actor") (unless held.actor x.actor) ms flat))

details_flat : (x : Details) (held : Held) (ms : Members) → AreFlat ms → AreFlat (with_details x held ms)
details_flat x held ms flat =
    hint_flat x.hint.items _
    (text_flat (codes "limits") (option_map string_bytes x.limits) _
    (text_flat (codes "value") (option_map string_bytes x.value) _
    (number_flat (codes "column") x.column _
    (number_flat (codes "line") x.line _
    (text_flat (codes "path") (option_map string_bytes x.path) _
    (subject_flat x held ms flat))))))

pub detailed_flat : (x : Details) (d : Data) → IsFlat 3 d → IsFlat 3 (detailed x d)
detailed_flat x (object ms) flat =
    let inner : members_depth ms ≤ 2 = omega (arith, flat) in
    let more = details_flat x (held_in (object ms)) ms inner in omega (arith, more)
detailed_flat x null flat = flat
detailed_flat x (boolean b) flat = flat
detailed_flat x (number n) flat = flat
detailed_flat x (string s) flat = flat
detailed_flat x (array ds) flat = flat
