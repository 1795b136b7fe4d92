-- The wording of diagnostics.
use Rattle.std.specs.Prelude.{ℕ, ℤ, ◌==◌, ◌||◌, Bool, List, [], ◌∷◌, ◌++◌, codes, decimal, Option, Some, None, suc}
use Rattle.std.specs.Prelude.{slice_index, if◌then◌else◌}
use Rattle.std.specs.Fmt.{signed_decimal}
use Rattle.toml.specs.Data.{Data, Items, no_items, item, as_str, as_integer, as_array, type_name}
use Rattle.sdf_options.specs.Printable.{printable_text}
use Rattle.sdf_why.specs.Marks.{has_mark}

-- a line feed
abbrev pub end : List ℕ
end = 10 ∷ []

-- words with commas between them, and `and` before the last
abbrev pub listed : List (List ℕ) → List ℕ
listed [] = []
listed (w ∷ []) = w
listed (w ∷ v ∷ []) = w ++ codes " and " ++ v
listed (w ∷ v ∷ u ∷ ws) = w ++ codes ", " ++ listed (v ∷ u ∷ ws)

-- a text from the user's file, in quotes
abbrev pub quoted : List ℕ → List ℕ
quoted s = codes "\"" ++ printable_text s ++ codes "\""

abbrev pub item_count : Items → ℕ
item_count no_items = 0
item_count (item d ds) = suc (item_count ds)

-- a text in quotes, a whole number in digits, a list by its length, and anything else by its type
abbrev pub spelled : Option (List ℕ) → Option ℤ → Option Items → List ℕ → List ℕ
spelled (Some s) z ds other = quoted s
spelled None (Some z) ds other = signed_decimal z
spelled None None (Some ds) other = codes "a list of " ++ decimal (item_count ds)
spelled None None None other = codes "a " ++ other

abbrev pub value_text : Data → List ℕ
value_text d = spelled (as_str d) (as_integer d) (as_array d) (type_name d)

-- a e i o u
abbrev pub is_vowel : ℕ → Bool
is_vowel b = (b == 97) || ((b == 101) || ((b == 105) || ((b == 111) || (b == 117))))

abbrev pub article : List ℕ → List ℕ
article word = if is_vowel (slice_index word 0) then codes "an " else codes "a "

abbrev pub name_text : Option (List ℕ) → List ℕ
name_text None = codes "without a name"
name_text (Some s) = quoted s

abbrev pub kind_text : Option (List ℕ) → List ℕ
kind_text None = codes "of no kind"
kind_text (Some s) = article s ++ printable_text s

-- an end of a link as the file has it, with port 0 if it names no port
abbrev pub end_text : Option (List ℕ) → List ℕ
end_text None = codes "?"
end_text (Some s) = printable_text s ++ (if has_mark 58 s then [] else codes ":0")

-- the line of an actor, with its name and its kind
unfoldable pub actor_line : ℕ → Option (List ℕ) → Option (List ℕ) → List ℕ
actor_line number name kind =
    codes "  actor " ++ decimal number ++ codes " is " ++ name_text name ++ codes ", " ++ kind_text kind ++ end

-- the number and the two ends of a link
unfoldable pub link_words : ℕ → Option (List ℕ) → Option (List ℕ) → List ℕ
link_words number from to =
    codes "  link " ++ decimal number ++ codes " is " ++ end_text from ++ codes " -> " ++ end_text to

abbrev pub link_line : ℕ → Option (List ℕ) → Option (List ℕ) → List ℕ
link_line number from to = link_words number from to ++ end

-- the line of a link that holds too little for the next firing of its target
abbrev pub lack_line : ℕ → Option (List ℕ) → Option (List ℕ) → ℕ → ℕ → List ℕ
lack_line number from to holds needs =
    link_words number from to ++ codes ", holds " ++ decimal holds ++ codes ", needs " ++ decimal needs ++ end

abbrev pub limits_text : Option (List ℕ) → List ℕ
limits_text None = []
limits_text (Some limits) = codes ", needs " ++ limits

-- the line of a key, with its value and its limits
unfoldable pub key_line : List ℕ → Option Data → Option (List ℕ) → List ℕ
key_line key None None = []
key_line key None (Some limits) = codes "  " ++ printable_text key ++ codes " needs " ++ limits ++ end
key_line key (Some d) limits =
    codes "  " ++ printable_text key ++ codes " = " ++ value_text d ++ limits_text limits ++ end

-- a name that may have been meant
unfoldable pub hint_line : List ℕ → List ℕ
hint_line name = codes "  did you mean " ++ quoted name ++ codes "?" ++ end

-- numbered things from the first to the last, with the noun for one of them
unfoldable pub numbered : List ℕ → ℕ → ℕ → List ℕ
numbered word first last =
    if first == last then word ++ codes " " ++ decimal first
    else word ++ codes "s " ++ decimal first ++ (if suc first == last then codes " and " else codes " to ")
    ++ decimal last

-- the line of a file with a message
unfoldable pub message_line : List ℕ → List ℕ → List ℕ
message_line name said = codes "  " ++ quoted name ++ codes ": " ++ printable_text said ++ end
