-- What a diagnostic says about a fault, as members beside those of the fault.
use Rattle.std.specs.Prelude.{ℕ, List, [], ◌∷◌, map, codes, string_bytes, Bool, true, false, is_some, String}
use Rattle.std.specs.Prelude.{Option, Some, None, option_map, if◌then◌else◌}
use Rattle.std.specs.declared.alloc.Global.{Global}
use Rattle.serde_json.specs.Data.{Data, Members, null, boolean, number, string, array, object, put}
use Rattle.serde_json.specs.Find.{get}
use Rattle.sdf_json.specs.declared.details.Details.{Details}
use Rattle.sdf_json.specs.declared.details.Held.{Held}
use Rattle.sdf_json.specs.Values.{natural, list_of}

-- the members, with one more if there is something to say
abbrev pub perhaps_number : List ℕ → Option ℕ → Members → Members
perhaps_number key None ms = ms
perhaps_number key (Some n) ms = put key (natural n) ms

abbrev pub perhaps_text : List ℕ → Option (List ℕ) → Members → Members
perhaps_text key None ms = ms
perhaps_text key (Some s) ms = put key (string s) ms

abbrev pub perhaps_hint : List (String Global) → Members → Members
perhaps_hint [] ms = ms
perhaps_hint (line ∷ lines) ms =
    put (codes "hint") (list_of (map (λ l. string (string_bytes l)) (line ∷ lines))) ms

-- whether the value of a fault has an actor, a link and a key of its own
abbrev pub held_in : Data → Held
held_in d = record {
  actor = is_some (get (codes "actor") d);
  link = is_some (get (codes "link") d);
  key = is_some (get (codes "key") d);
}

abbrev pub unless : {A : Type 0} → Bool → Option A → Option A
unless true o = None
unless false o = o

-- the members with an actor, a link and a key; those of the fault itself stay
abbrev pub with_subject : Details → Held → Members → Members
with_subject x held ms =
    perhaps_text (codes "key") (unless held.key (option_map string_bytes x.key))
    (perhaps_number (codes "link") (unless held.link x.link)
    (perhaps_number (codes "actor") (unless held.actor x.actor) ms))

abbrev pub with_details : Details → Held → Members → Members
with_details x held ms =
    perhaps_hint x.hint.items
    (perhaps_text (codes "limits") (option_map string_bytes x.limits)
    (perhaps_text (codes "value") (option_map string_bytes x.value)
    (perhaps_number (codes "column") x.column
    (perhaps_number (codes "line") x.line
    (perhaps_text (codes "path") (option_map string_bytes x.path)
    (with_subject x held ms))))))

-- the value of a fault, with what a diagnostic says
abbrev pub detailed : Details → Data → Data
detailed x (object ms) = object (with_details x (held_in (object ms)) ms)
detailed x null = null
detailed x (boolean b) = boolean b
detailed x (number n) = number n
detailed x (string s) = string s
detailed x (array ds) = array ds
