-- A loop of links through which a design may keep its samples for ever.
use Rattle.std.specs.Prelude.{◌≡◌, ℕ, ◌<◌, List, [], ◌∷◌, ◌++◌, length, codes, Bool, true, false, slice_index_or}
use Rattle.std.specs.Prelude.{Option, None, MatchOption, reverse}
use Rattle.std.specs.List.{flat_map}
use Rattle.sdf_graph.specs.Rates.{GraphValue, channel}
use Rattle.sdf_graph.specs.Marks.{is_marked}
use Rattle.sdf_why.specs.declared.cycle.Halt.{Halt}
use Rattle.sdf_why.specs.Cycles.{short_at}

-- channels that lead from actor a back to actor b, against their flow: each begins at the actor where the next one ends
abbrev pub LeadBack : GraphValue → ℕ → List ℕ → ℕ → Type 0
LeadBack g a [] b = a ≡ b
LeadBack g a (c ∷ cs) b = (c < length g.channels) × ((channel g c).to ≡ a) × LeadBack g (channel g c).from cs b

-- the channels of a loop, against its flow
pub record IsLoop (g : GraphValue) (cs : List ℕ) : Type 0 where
  pub actor : ℕ
  pub some : 0 < length cs
  pub round : LeadBack g actor cs actor

-- channel c leads from a kept actor to actor a
pub record Feeds (g : GraphValue) (kept : List Bool) (a c : ℕ) : Type 0 where
  pub known : c < length g.channels
  pub into : (channel g c).to ≡ a
  pub source : is_marked kept (channel g c).from ≡ true

-- actor a is kept, and no channel leads there from a kept actor
pub record IsUnfed (g : GraphValue) (kept : List Bool) (a : ℕ) : Type 0 where
  pub kept_yet : is_marked kept a ≡ true
  pub none : (c : ℕ) → Feeds g kept a c → ⊥

-- each actor to which one of the first n channels leads is kept
abbrev pub AreTargets : GraphValue → ℕ → List Bool → Type 0
AreTargets g n kept = (c : ℕ) → c < n → is_marked kept (channel g c).to ≡ true

-- each actor of each loop is kept
abbrev pub HoldsLoops : GraphValue → List Bool → Type 0
HoldsLoops g kept = (a : ℕ) (cs : List ℕ) → 0 < length cs → LeadBack g a cs a → is_marked kept a ≡ true

-- short is a channel that feeds actor a: none if no channel does, or if a is not kept
pub record IsFedBy (g : GraphValue) (kept : List Bool) (a : ℕ) (short : Option ℕ) : Type 0 where
  pub yes : is_marked kept a ≡ true → MatchOption short ((c : ℕ) → Feeds g kept a c → ⊥) (Feeds g kept a)
  pub no : is_marked kept a ≡ false → short ≡ None

abbrev pub AreFed : GraphValue → List Bool → List Halt → Type 0
AreFed g kept halts = (a : ℕ) → IsFedBy g kept a (short_at halts a)

-- the name of the source of channel c
abbrev pub name_at : List (List ℕ) → GraphValue → ℕ → List ℕ
name_at names g c = slice_index_or names (channel g c).from []

unfoldable pub arrow_to : List (List ℕ) → GraphValue → ℕ → List ℕ
arrow_to names g c = codes " -> " ++ name_at names g c

-- the names of the sources of several channels, with arrows between them
abbrev pub loop_line : List (List ℕ) → GraphValue → List ℕ → List ℕ
loop_line names g [] = []
loop_line names g (c ∷ cs) = name_at names g c ++ flat_map (arrow_to names g) cs

-- the names of the actors of a loop in the order of its flow, or nothing if there is no loop
pub data IsLoopText (g : GraphValue) (names : List (List ℕ)) (text : List ℕ) : Type 0 where
  loop : (cs : List ℕ) → IsLoop g cs → text ≡ loop_line names g (reverse cs) → IsLoopText g names text
  none : ((cs : List ℕ) → IsLoop g cs → ⊥) → text ≡ [] → IsLoopText g names text
