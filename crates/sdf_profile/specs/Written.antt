-- A graph file's text with other costs in it, and what it says.
use Rattle.std.specs.Prelude.{◌≡◌, ◌⊎◌, ℕ, List, [], ◌∷◌, ◌++◌, codes, decimal, Ok, Err}
use Rattle.std.specs.List.{All}
use Rattle.std.specs.Char.{IsAsciiDigit}
use Rattle.sdf_document.specs.Lists.{Files}
use Rattle.sdf_document.specs.Actors.{ActorValue}
use Rattle.sdf_document.specs.Document.{DocumentValue, document_of}
use Rattle.sdf_profile.specs.declared.unwritten.Unwritten.{Unwritten}
use Rattle.sdf_profile.specs.declared.unwritten.Unwritten.TheVariants.{OutOfMemory, Reading}
use Rattle.sdf_profile.specs.Places.{key, costed_text_of}

-- ---- the text

-- the key and a number
pub record IsCost (text : List ℕ) : Type 0 where
  pub digits : List ℕ
  pub are : All IsAsciiDigit digits
  pub is : text ≡ key ++ digits

abbrev pub IsLineEnd : List ℕ → Type 0
IsLineEnd text = (text ≡ codes "\n") ⊎ (text ≡ codes "\r\n")

-- what comes before a cost that is written: nothing if it replaces a cost, a line end if it replaces nothing
abbrev pub IsBefore : List ℕ → List ℕ → Type 0
IsBefore old before = (IsCost old × (before ≡ [])) ⊎ ((old ≡ []) × IsLineEnd before)

-- the cost n, written in place of a text
pub record IsReplaced (n : ℕ) (old new : List ℕ) : Type 0 where
  pub before : List ℕ
  pub fits : IsBefore old before
  pub is : new ≡ before ++ key ++ decimal n

-- two texts that are equal except for these costs, which are in the second one in this order
pub data DifferInCosts : List ℕ → List ℕ → List ℕ → Type 0 where
  empty : DifferInCosts [] [] []
  kept : (ns old new text : List ℕ) → DifferInCosts ns old new → DifferInCosts ns (old ++ text) (new ++ text)
  cost : (ns old new : List ℕ) (n : ℕ) (before after : List ℕ) → DifferInCosts ns old new →
      IsReplaced n before after → DifferInCosts (ns ++ n ∷ []) (old ++ before) (new ++ after)

-- ---- what it says

-- the second actor is the first one with this cost
pub record IsCosted (n : ℕ) (old new : ActorValue) : Type 0 where
  pub name : new.name ≡ old.name
  pub kind : new.kind ≡ old.kind
  pub processor : new.processor ≡ old.processor
  pub cost : new.cost ≡ n

-- the second actors are the first ones with these costs, one each
abbrev pub AreCosted : List ℕ → List ActorValue → List ActorValue → Type 0
AreCosted [] [] [] = Unit {0}
AreCosted (n ∷ ns) (a ∷ old) (b ∷ new) = IsCosted n a b × AreCosted ns old new
AreCosted ns old new = ⊥

-- the second document is the first one with these costs
pub record IsCostedDocument (ns : List ℕ) (old new : DocumentValue) : Type 0 where
  pub rate : new.rate ≡ old.rate
  pub actors : AreCosted ns old.actors new.actors
  pub links : new.links ≡ old.links

-- the second graph file says what the first one says, with these costs
pub record SaysWithCosts (ns : List ℕ) (old new : List ℕ) (files : Files) : Type 0 where
  pub document : DocumentValue
  pub written : DocumentValue
  pub said : document_of old files ≡ Ok document
  pub says : document_of new files ≡ Ok written
  pub costed : IsCostedDocument ns document written

-- why no text is written: memory was refused, it can't be made, or it does not say what the graph file says
pub data IsUnwritten (ns : List ℕ) (graph : List ℕ) (files : Files) (fault : Unwritten) : Type 0 where
  memory : fault ≡ OutOfMemory → IsUnwritten ns graph files fault
  unmade : costed_text_of ns graph ≡ Err fault → IsUnwritten ns graph files fault
  reading : (text : List ℕ) → costed_text_of ns graph ≡ Ok text → ¬ SaysWithCosts ns graph text files →
      fault ≡ Reading → IsUnwritten ns graph files fault
