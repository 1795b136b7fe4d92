-- The queue of ready firings that is kept while rows are made.
use Rattle.std.specs.Prelude.{◌≡◌, ℕ, ◌<◌, ◌==◌, List, length, slice_index, slice_index_or, Bool, true, false}
use Rattle.sdf_graph.specs.Rates.{Rates}
use Rattle.sdf_prec.specs.declared.firing.Firing.{Firing}
use Rattle.sdf_prec.specs.Tables.{firing, Stands}
use Rattle.sdf_prec.specs.Trying.{IsTriedBefore}

-- each firing of the list is tried before all firings behind it
abbrev pub AreInTurn : (Firing → ℕ) → List Firing → Type 0
AreInTurn level queue = (p m : ℕ) → p < m → m < length queue → IsTriedBefore level (firing queue p) (firing queue m)

-- ready firings in the order in which they are tried, among them all ready firings of the actors of some kind
pub record IsQueueOf (level : Firing → ℕ) (ready : Firing → Type 0) (kind : ℕ → Type 0)
    (queue : List Firing) : Type 0 where
  pub each : (f : Firing) → Stands queue f → ready f
  pub all : (f : Firing) → ready f → kind f.actor → Stands queue f
  pub sorted : AreInTurn level queue

-- the firing is its actor's next one, by the number of firings that its actor has started
abbrev pub is_next : List ℕ → Firing → Bool
is_next started f = slice_index started f.actor == f.number

-- actor a has no mark
abbrev pub IsUnmarked : List Bool → ℕ → Type 0
IsUnmarked marks a = slice_index_or marks a true ≡ false

-- actor a is not `actor`, and no channel goes from `actor` to it
pub record IsApart (r : Rates) (actor a : ℕ) : Type 0 where
  pub other : a ≡ actor → ⊥
  pub feeds : (c : ℕ) → c < r.channels → r.source c ≡ actor → r.target c ≡ a → ⊥

-- between two counts neither actor a has fired nor the source of a channel to it
pub record HasRested (r : Rates) (old new : List ℕ) (a : ℕ) : Type 0 where
  pub own : slice_index new a ≡ slice_index old a
  pub sources : (c : ℕ) → c < r.channels → r.target c ≡ a →
      slice_index new (r.source c) ≡ slice_index old (r.source c)
