-- The state while rows are made: counts of started and of ended firings, the actor that each column fired last, and
-- when that firing ends.
use Rattle.std.specs.Prelude.{◌≡◌, ℕ, ◌+◌, ◌≤◌, ◌<◌, ◌⊎◌, ◌↔◌, List, [], length, slice_index, Option, Some, None, Bool}
use Rattle.std.specs.Prelude.{IsTrue}
use Rattle.sdf_graph.specs.Rates.{Rates}
use Rattle.sdf_graph.specs.Sequences.{IsEnabled}
use Rattle.sdf_graph.specs.Adjacency.{ListsExactly}
use Rattle.sdf_prec.specs.declared.firing.Firing.{Firing}
use Rattle.sdf_prec.specs.Tables.{cell_of, firings}
use Rattle.sdf_prec.specs.Trying.{AreFilled}
use Rattle.sdf_prec.specs.TimedRows.{Timed, timed, StandsAt, Occurs, end_at, IsSettled, IsLater, AreTimed, hu_rule}

-- the firing is its actor's next one, its actor's earlier firings have ended, and the actor is enabled at the counts of
-- ended firings
pub record IsNextReady (r : Rates) (n ended started : ℕ → ℕ) (f : Firing) : Type 0 where
  pub known : f.actor < r.actors
  pub within : f.number < n f.actor
  pub next : f.number ≡ started f.actor
  pub through : ended f.actor ≡ started f.actor
  pub on : IsEnabled r ended f.actor

-- the first i columns: the ones that are idle at time now hold the first firings of the queue, the others are empty
pub record IsFilling (until : List ℕ) (now i : ℕ) (queue : List Firing) (next : ℕ)
    (cells : List (Option Firing)) : Type 0 where
  pub columns : List ℕ
  pub idle : ListsExactly (λ j. slice_index until j ≤ now) i columns
  pub filled : AreFilled queue columns cells
  pub count : next ≡ length columns
  pub wide : length cells ≡ i

-- the state after some rows, at time now
pub record IsFloor (r : Rates) (n cost : ℕ → ℕ) (width : ℕ) (past : List Timed) (now : ℕ)
    (ended started whose until : ℕ → ℕ) : Type 0 where
  pub occurs : (f : Firing) → f.actor < r.actors → (f.number < started f.actor) ↔ Occurs past f
  pub known : (i j : ℕ) (f : Firing) → StandsAt past i j f →
      (f.actor < r.actors) × (j < width) × ((timed past i).start ≤ now)
  pub within : (a : ℕ) → a < r.actors → started a ≤ n a
  pub once : (i j k m : ℕ) (f : Firing) → StandsAt past i j f → StandsAt past k m f → (i ≡ k) × (j ≡ m)
  -- a firing has ended exactly if its number is below the count of its actor's ended firings
  pub ended_is : (i j : ℕ) (f : Firing) → StandsAt past i j f →
      (end_at cost past i f ≤ now) ↔ (f.number < ended f.actor)
  -- an actor has ended all that it started, or all but the last
  pub through : (a : ℕ) → a < r.actors → (ended a ≡ started a) ⊎ (ended a + 1 ≡ started a)
  pub on : (a : ℕ) → a < r.actors → ended a < started a → IsEnabled r ended a
  -- a firing that has not ended is the last one in its column
  pub at_work : (i j : ℕ) (f : Firing) → StandsAt past i j f → now < end_at cost past i f →
      (whose j ≡ f.actor) × (until j ≡ end_at cost past i f)
  -- a column's time is the latest end of a firing in it, or 0
  pub until_above : (i j : ℕ) (f : Firing) → StandsAt past i j f → end_at cost past i f ≤ until j
  pub until_at : (j : ℕ) → (until j ≡ 0) ⊎ ((i : ℕ) × (f : Firing) × StandsAt past i j f
      × (until j ≡ end_at cost past i f))

-- the firings of a row have started at time now
pub record AreStarted (cost : ℕ → ℕ) (now i : ℕ) (cells : List (Option Firing))
    (started whose until started' whose' until' : ℕ → ℕ) : Type 0 where
  pub each : (j : ℕ) (f : Firing) → j < i → cell_of cells j ≡ Some f →
      (started' f.actor ≡ f.number + 1) × (whose' j ≡ f.actor) × (until' j ≡ now + cost f.actor)
  pub others : (a : ℕ) → ((j : ℕ) (f : Firing) → j < i → cell_of cells j ≡ Some f → f.actor ≡ a → ⊥) →
      started' a ≡ started a
  pub columns : (j : ℕ) → ((f : Firing) → j < i → cell_of cells j ≡ Some f → ⊥) →
      (whose' j ≡ whose j) × (until' j ≡ until j)

-- the least of the first i ends that is later than now
abbrev pub IsNextEnd : List ℕ → ℕ → ℕ → Option ℕ → Type 0
IsNextEnd ends now i None = (j : ℕ) → j < i → slice_index ends j ≤ now
IsNextEnd ends now i (Some t) = (now < t) × ((j : ℕ) × (j < i) × (slice_index ends j ≡ t))
    × ((j : ℕ) → j < i → now < slice_index ends j → t ≤ slice_index ends j)

-- each column whose firing ends at time now was at work for an enabled actor, and these actors differ
pub record AreAtWork (r : Rates) (now width : ℕ) (ended whose until : ℕ → ℕ) : Type 0 where
  pub known : (j : ℕ) → j < width → until j ≡ now → whose j < r.actors
  pub on : (j : ℕ) → j < width → until j ≡ now → IsEnabled r ended (whose j)
  pub apart : (j m : ℕ) → j < width → m < width → until j ≡ now → until m ≡ now → whose j ≡ whose m → j ≡ m

-- the actors whose firings in the first i columns end at time now have ended one firing more; all other counts stay
pub record AreEnded (now i : ℕ) (whose until : ℕ → ℕ) (old new : List ℕ) : Type 0 where
  pub through : (j : ℕ) → j < i → until j ≡ now →
      slice_index new (whose j) ≡ slice_index old (whose j) + 1
  pub same : (a : ℕ) → ((j : ℕ) → j < i → until j ≡ now → whose j ≡ a → ⊥) →
      slice_index new a ≡ slice_index old a

-- no ready firing can start: its home is busy, or all columns are
abbrev pub IsStuck : Rates → (ℕ → ℕ) → (ℕ → ℕ) → (ℕ → ℕ) → (ℕ → ℕ) → (ℕ → Option ℕ) → ℕ → ℕ → (homed : Bool) → Type 0
IsStuck r n ended started until homes width now homed = (f : Firing) → IsNextReady r n ended started f →
    ((k : ℕ) × IsTrue homed × (homes f.actor ≡ Some k) × (now < until k)) ⊎ ((j : ℕ) → j < width → now < until j)

-- a row is due at time now: all rows start earlier, and at no time between does the rule have a row with a firing
pub record IsDue (r : Rates) (n cost : ℕ → ℕ) (level : Firing → ℕ) (width : ℕ) (homed : Bool) (past : List Timed)
    (now : ℕ) (ended started whose until : ℕ → ℕ) (homes : ℕ → Option ℕ) : Type 0 where
  pub floor : IsFloor r n cost width past now ended started whose until
  pub rows : AreTimed width (hu_rule r n cost level width homed) past
  pub later : IsLater past now
  pub gap : (t : ℕ) → IsLater past t → t < now → (cells : List (Option Firing)) → length cells ≡ width →
      hu_rule r n cost level width homed past t cells → firings cells ≡ []
  pub begins : past ≡ [] → now ≡ 0
  pub homes_are : IsTrue homed → (a j : ℕ) → a < r.actors → (homes a ≡ Some j) ↔ IsSettled past a j

-- time now is done: its row is there or is empty, and no ready firing can start
pub record IsDone (r : Rates) (n cost : ℕ → ℕ) (level : Firing → ℕ) (width : ℕ) (homed : Bool) (past : List Timed)
    (now : ℕ) (ended started whose until : ℕ → ℕ) (homes : ℕ → Option ℕ) : Type 0 where
  pub floor : IsFloor r n cost width past now ended started whose until
  pub rows : AreTimed width (hu_rule r n cost level width homed) past
  pub starts : (i : ℕ) → i < length past → (timed past i).start ≤ now
  pub gap : (t : ℕ) → IsLater past t → t ≤ now → (cells : List (Option Firing)) → length cells ≡ width →
      hu_rule r n cost level width homed past t cells → firings cells ≡ []
  pub homes_are : IsTrue homed → (a j : ℕ) → a < r.actors → (homes a ≡ Some j) ↔ IsSettled past a j
  pub stuck : IsStuck r n ended started until homes width now homed
