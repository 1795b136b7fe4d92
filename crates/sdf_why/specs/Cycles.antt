-- The diagnostic for a deadlock: a cycle of links that hold too little, and the other links for which actors wait.
use Rattle.std.specs.Prelude.{◌≡◌, ◌==◌, ℕ, ◌<◌, Bool, List, [], ◌∷◌, ◌++◌, length, codes, Option, Some, None}
use Rattle.std.specs.Prelude.{option_and_then, is_some, slice_get, slice_index_or, drop, find, if◌then◌else◌}
use Rattle.std.specs.Option.{option_map_or}
use Rattle.std.specs.List.{flat_map, list_any, range_with_len}
use Rattle.toml.specs.Data.{Data}
use Rattle.sdf_graph.specs.Rates.{GraphValue, channel, rates, rate_at}
use Rattle.sdf_graph.specs.Sequences.{tokens}
use Rattle.sdf_why.specs.declared.cycle.Halt.{Halt}
use Rattle.sdf_why.specs.Words.{lack_line}
use Rattle.sdf_why.specs.Tables.{text_at, entry}
use Rattle.sdf_why.specs.Actors.{lines_of}
use Rattle.sdf_why.specs.Links.{link_told}

-- how often actor a has fired, and the channel that it waits for
abbrev pub done_at : List Halt → ℕ → ℕ
done_at halts a = option_map_or (λ (h : Halt). h.done) (slice_get halts a) 0

abbrev pub short_at : List Halt → ℕ → Option ℕ
short_at halts a = option_and_then (λ (h : Halt). h.short) (slice_get halts a)

-- actor a waits for channel c, which comes from actor b
pub record Waits (g : GraphValue) (halts : List Halt) (a c b : ℕ) : Type 0 where
  pub known : c < length g.channels
  pub into : (channel g c).to ≡ a
  pub told : short_at halts a ≡ Some c
  pub source : (channel g c).from ≡ b

-- channels from actor a to actor b: each actor on the way waits for the next one
abbrev pub IsChain : GraphValue → List Halt → ℕ → List ℕ → ℕ → Type 0
IsChain g halts a [] b = a ≡ b
IsChain g halts a (c ∷ cs) b = (m : ℕ) × Waits g halts a c m × IsChain g halts m cs b

-- the first actor that waits
abbrev pub first_waiting : List Halt → Option ℕ
first_waiting halts = find (λ a. is_some (short_at halts a)) (range_with_len 0 (length halts))

-- no actor waits, or the walk from the first waiting actor ends at an actor that waits for no channel
pub data HasNoCycle (g : GraphValue) (halts : List Halt) : Type 0 where
  none_waits : first_waiting halts ≡ None → HasNoCycle g halts
  ends :
      (a : ℕ) (cs : List ℕ) (b : ℕ) → first_waiting halts ≡ Some a → IsChain g halts a cs b →
      ((c m : ℕ) → Waits g halts b c m → ⊥) → HasNoCycle g halts

-- the channels of a cycle of actors that each wait for the next one
pub record IsCycle (g : GraphValue) (halts : List Halt) (cs : List ℕ) : Type 0 where
  pub actor : ℕ
  pub some : 0 < length cs
  pub round : IsChain g halts actor cs actor

-- what channel c holds, and what the next firing of its target takes
abbrev pub held : GraphValue → List Halt → ℕ → ℕ
held g halts c = tokens (rates g) (done_at halts) c

abbrev pub wanted : GraphValue → List Halt → ℕ → ℕ
wanted g halts c = rate_at (channel g c).take (done_at halts (channel g c).to)

abbrev pub lack_is : GraphValue → List Halt → ℕ → Data → List ℕ
lack_is g halts c d =
    lack_line c (text_at (codes "from") d) (text_at (codes "to") d) (held g halts c) (wanted g halts c)

unfoldable pub lack_told : Data → GraphValue → List Halt → ℕ → List ℕ
lack_told d g halts c = lines_of (lack_is g halts c) (entry (codes "link") c d)

abbrev pub is_among : List ℕ → ℕ → Bool
is_among cs c = list_any (λ other. other == c) cs

-- the link that an actor waits for, if it is not one of cs
abbrev pub other_of : Data → List ℕ → Option ℕ → List ℕ
other_of d cs None = []
other_of d cs (Some c) = if is_among cs c then [] else link_told d c

unfoldable pub other_told : Data → List Halt → List ℕ → ℕ → List ℕ
other_told d halts cs a = other_of d cs (short_at halts a)

abbrev pub others_told : Data → List Halt → List ℕ → List ℕ
others_told d halts cs = flat_map (other_told d halts cs) (range_with_len 0 (length halts))

-- the state of a walk from an actor: the channels that it took, and for each actor that it left the index in the path
pub record IsWalk (g : GraphValue) (halts : List Halt) (first : ℕ) (path : List ℕ)
    (places : List (Option ℕ)) (actor : ℕ) :
    Type 0 where
  pub all : length places ≡ length halts
  pub way : IsChain g halts first path actor
  pub left : (a p : ℕ) → slice_index_or places a None ≡ Some p →
      (p < length path) × IsChain g halts a (drop p path) actor

-- a cycle and the other links that actors wait for, or nothing if there is no cycle
pub data IsCycleText (d : Data) (g : GraphValue) (halts : List Halt) (text : List ℕ) : Type 0 where
  cycle :
      (cs : List ℕ) → IsCycle g halts cs → text ≡ flat_map (lack_told d g halts) cs ++ others_told d halts cs →
      IsCycleText d g halts text
  none : HasNoCycle g halts → text ≡ [] → IsCycleText d g halts text
