-- The kinds of actors: their words, their keys and their values.
use Rattle.std.specs.Prelude.{ℕ, ℤ, pos, ◌&&◌, Bool, ◌≤◌, ◌≤ℤ◌, List, [], ◌∷◌, ◌++◌, codes, map, find, Option, Some}
use Rattle.std.specs.Prelude.{None, Result, Ok, Err, IfSome, nat_le, bytes_eq, is_some, int_le, true}
use Rattle.std.specs.Prelude.{IsTrue, if◌then◌else◌}
use Rattle.toml.specs.Data.{Data, Members, get_member}
use Rattle.sdf_kinds.specs.declared.row.Kind.{Kind}
use Rattle.sdf_kinds.specs.declared.row.Kind.TheVariants as kind
use Rattle.sdf_kinds.specs.declared.row.Form.{Form}
use Rattle.sdf_kinds.specs.declared.row.Form.TheVariants as forms
use Rattle.sdf_document.specs.declared.key.KeyValue.{KeyValue}
use Rattle.sdf_document.specs.declared.key.KeyValue.TheVariants.{Natural, Optional, Integer, List as Listed}
use Rattle.sdf_document.specs.declared.entry.KindEntry.{KindEntry}
use Rattle.sdf_document.specs.declared.entry.KindEntry.TheVariants.{Input, Output, Fir, Decimate, Interpolate, Add}
use Rattle.sdf_document.specs.declared.entry.KindEntry.TheVariants.{Fork, Gain, Delay, Table, Deal, Gather, Clip}
use Rattle.sdf_document.specs.declared.entry.KindEntry.TheVariants.{Offset}
use Rattle.sdf_document.specs.Fault.{actor, Fault, kit_value, missing_key, unknown_kind, ◌>>=◌, or_fault}
use Rattle.sdf_kinds.specs.Rows.{KeyFormValue, row_of, kinds, shared_keys}
use Rattle.sdf_document.specs.Values.{text_at, within_natural, natural_in, optional_at, within_integer, integer_in}
use Rattle.sdf_document.specs.Lists.{Lookup, ListValue, no_list, list_at, IsListed}

-- ---- the kind that an actor's table names

abbrev pub is_kind : ℕ → List ℕ → Kind → Bool
is_kind format s k = bytes_eq s (row_of k).word && nat_le (row_of k).since format

-- the kind of a word in a format
abbrev pub kind_named : ℕ → List ℕ → Option Kind
kind_named format s = find (is_kind format s) kinds

unfoldable pub word_at : ℕ → ℕ → Members → Result Kind Fault
word_at a format ms = do
  s ← text_at (actor a) (codes "kind") ms
  or_fault (unknown_kind a) (kind_named format s)

-- ---- its keys

-- the key that a table uses for a key of a row: `file` for a list that is not at its own key
abbrev pub used_key : Members → List ℕ → Form → List ℕ
used_key ms name (forms.List most width) = if is_some (get_member name ms) then name else codes "file"
used_key ms name (forms.Natural least most absent) = name
used_key ms name (forms.Optional least most) = name
used_key ms name (forms.Integer least most absent) = name
used_key ms name (forms.FromLeast least most absent) = name

abbrev pub names_of_keys : Members → List KeyFormValue → List (List ℕ)
names_of_keys ms ks = map (λ (k : KeyFormValue). used_key ms k.name k.form) ks

-- the keys that an actor's table may have, given the keys of its kind
abbrev pub actor_keys : List KeyFormValue → Members → List (List ℕ)
actor_keys ks ms = (codes "name" ∷ codes "kind" ∷ names_of_keys ms ks) ++ names_of_keys ms shared_keys

-- ---- the values of keys, in their order

-- the number of an absent key, if it may be absent
abbrev pub absent_as : ℕ → List ℕ → ℕ → ℕ → Option ℕ → Result ℕ Fault
absent_as a key least most None = Err (missing_key (actor a) key)
absent_as a key least most (Some n) = within_natural (actor a) key least most (pos n)

abbrev pub natural_at : ℕ → List ℕ → ℕ → ℕ → Option ℕ → Option Data → Result ℕ Fault
natural_at a key least most absent None = absent_as a key least most absent
natural_at a key least most absent (Some d) = natural_in (actor a) key least most d

-- the number, of either sign, of an absent key, if it may be absent
abbrev pub absent_integer : ℕ → List ℕ → ℤ → ℤ → Option ℤ → Result ℤ Fault
absent_integer a key least most None = Err (missing_key (actor a) key)
absent_integer a key least most (Some z) = within_integer a key least most z

abbrev pub integer_at : ℕ → List ℕ → ℤ → ℤ → Option ℤ → Option Data → Result ℤ Fault
integer_at a key least most absent None = absent_integer a key least most absent
integer_at a key least most absent (Some d) = integer_in a key least most d

abbrev pub key_value_at : ℕ → Lookup → List ℕ → Form → Members → Result KeyValue Fault
key_value_at a files key (forms.Natural least most absent) ms =
    natural_at a key least most absent (get_member key ms) >>= λ n. Ok (Natural n)
key_value_at a files key (forms.Optional least most) ms =
    optional_at (actor a) key least most (get_member key ms) >>= λ n. Ok (Optional n)
key_value_at a files key (forms.Integer least most absent) ms =
    integer_at a key least most absent (get_member key ms) >>= λ z. Ok (Integer z)
key_value_at a files key (forms.FromLeast least most absent) ms =
    integer_at a key least most absent (get_member key ms) >>= λ z. Ok (Integer z)
key_value_at a files key (forms.List most width) ms = list_at a key most width files ms >>= λ l. Ok (Listed l)

-- the values at the keys of a row
unfoldable pub values_at : ℕ → Lookup → List KeyFormValue → Members → Result (List KeyValue) Fault
values_at a files [] ms = Ok []
values_at a files (k ∷ ks) ms =
    key_value_at a files k.name k.form ms >>= λ v. values_at a files ks ms >>= λ vs. Ok (v ∷ vs)

-- ---- the typed values

abbrev pub natural : KeyValue → ℕ
natural (Natural n) = n
natural (Optional n) = 0
natural (Integer z) = 0
natural (Listed l) = 0

abbrev pub optional : KeyValue → Option ℕ
optional (Natural n) = None
optional (Optional n) = n
optional (Integer z) = None
optional (Listed l) = None

abbrev pub integer : KeyValue → ℤ
integer (Natural n) = pos 0
integer (Optional n) = pos 0
integer (Integer z) = z
integer (Listed l) = pos 0

abbrev pub list : KeyValue → ListValue
list (Natural n) = no_list
list (Optional n) = no_list
list (Integer z) = no_list
list (Listed l) = l

abbrev pub first : List KeyValue → KeyValue
first [] = Optional None
first (v ∷ vs) = v

abbrev pub rest : List KeyValue → List KeyValue
rest [] = []
rest (v ∷ vs) = vs

abbrev pub second : List KeyValue → KeyValue
second vs = first (rest vs)

abbrev pub third : List KeyValue → KeyValue
third vs = second (rest vs)

abbrev pub fourth : List KeyValue → KeyValue
fourth vs = third (rest vs)

-- a kind with the values of its keys, in their order
abbrev pub entry_of : Kind → List KeyValue → KindEntry
entry_of kind.Input vs = Input (natural (first vs)) (natural (second vs))
entry_of kind.Output vs = Output (natural (first vs)) (natural (second vs))
entry_of kind.Fir vs = Fir (natural (first vs)) (natural (second vs)) (natural (third vs)) (list (fourth vs))
entry_of kind.Decimate vs = Decimate (natural (first vs))
entry_of kind.Interpolate vs = Interpolate (natural (first vs))
entry_of kind.Add vs = Add (natural (first vs))
entry_of kind.Fork vs = Fork (natural (first vs))
entry_of kind.Gain vs = Gain (integer (first vs)) (natural (second vs))
entry_of kind.Delay vs = Delay (natural (first vs))
entry_of kind.Table vs = Table (integer (first vs)) (list (second vs))
entry_of kind.Deal vs = Deal (natural (first vs)) (natural (second vs))
entry_of kind.Gather vs = Gather (natural (first vs)) (natural (second vs))
entry_of kind.Clip vs = Clip (integer (first vs)) (integer (second vs))
entry_of kind.Offset vs = Offset (integer (first vs))

-- the bounds of a clip are in order, as the form `FromLeast` says; other kinds have no bounds
abbrev pub is_ordered : KindEntry → Bool
is_ordered (Clip least greatest) = int_le least greatest
is_ordered kind = true

-- a kind whose values are in order; if they are not, the key `greatest` is at fault
abbrev pub in_order : ℕ → KindEntry → Result KindEntry Fault
in_order a k = if is_ordered k then Ok k else Err (kit_value (actor a) (codes "greatest"))

unfoldable pub kind_at : ℕ → Lookup → Kind → Members → Result KindEntry Fault
kind_at a files k ms = do
  vs ← values_at a files (row_of k).keys ms
  in_order a (entry_of k vs)

-- ---- limits

-- a value is within the limits of its form; a list is, if files were looked into
abbrev pub HasForm : Bool → Form → KeyValue → Type 0
HasForm looked (forms.Natural least most absent) v = (least ≤ natural v) × (natural v ≤ most)
HasForm looked (forms.Optional least most) v = IfSome (optional v) (λ n. (least ≤ n) × (n ≤ most))
HasForm looked (forms.Integer least most absent) v = (least ≤ℤ integer v) × (integer v ≤ℤ most)
HasForm looked (forms.FromLeast least most absent) v = (least ≤ℤ integer v) × (integer v ≤ℤ most)
HasForm looked (forms.List most width) v = IsListed looked most width (list v).values

abbrev pub HaveForms : Bool → List KeyFormValue → List KeyValue → Type 0
HaveForms looked [] vs = Unit {0}
HaveForms looked (k ∷ ks) vs = HasForm looked k.form (first vs) × HaveForms looked ks (rest vs)

-- an entry's kind, and its values in the order of the kind's row
abbrev pub kind_values : KindEntry → Kind × List KeyValue
kind_values (Input channel block) = (kind.Input, Natural channel ∷ Natural block ∷ [])
kind_values (Output channel block) = (kind.Output, Natural channel ∷ Natural block ∷ [])
kind_values (Fir up down shift taps) = (kind.Fir, Natural up ∷ Natural down ∷ Natural shift ∷ Listed taps ∷ [])
kind_values (Decimate factor) = (kind.Decimate, Natural factor ∷ [])
kind_values (Interpolate factor) = (kind.Interpolate, Natural factor ∷ [])
kind_values (Add ways) = (kind.Add, Natural ways ∷ [])
kind_values (Fork ways) = (kind.Fork, Natural ways ∷ [])
kind_values (Gain gain shift) = (kind.Gain, Integer gain ∷ Natural shift ∷ [])
kind_values (Delay length) = (kind.Delay, Natural length ∷ [])
kind_values (Table offset values) = (kind.Table, Integer offset ∷ Listed values ∷ [])
kind_values (Deal ways run) = (kind.Deal, Natural ways ∷ Natural run ∷ [])
kind_values (Gather ways run) = (kind.Gather, Natural ways ∷ Natural run ∷ [])
kind_values (Clip least greatest) = (kind.Clip, Integer least ∷ Integer greatest ∷ [])
kind_values (Offset value) = (kind.Offset, Integer value ∷ [])

-- the values of a kind are within the limits of its row, and in order
abbrev pub IsWithin : Bool → KindEntry → Type 0
IsWithin looked k = HaveForms looked (row_of (kind_values k).0).keys (kind_values k).1 × IsTrue (is_ordered k)
