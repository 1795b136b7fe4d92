-- The state of the walk over a table's cells, row by row.
use Rattle.std.specs.Prelude.{◌≡◌, ℕ, ◌+◌, ◌*◌, ◌≤◌, ◌<◌, ◌^◌, ◌⊎◌, List, [], ◌∷◌, ◌++◌, length, slice_index}
use Rattle.std.specs.Prelude.{slice_index_or, slice_set, Option, Some}
use Rattle.sdf_limits.specs.declared.TheConstants.{MAX_COST}
use Rattle.sdf_graph.specs.Rates.{Rates}
use Rattle.sdf_prec.specs.declared.firing.Firing.{Firing}
use Rattle.sdf_prec.specs.Precedence.{WaitsFor}
use Rattle.sdf_prec.specs.Tables.{cell}
use Rattle.sdf_times.specs.Times.{IsGreatest, IsStart, end_of, start_in, HasStart}

-- column m of row k is passed when the walk is before column j of row i
abbrev pub IsPast : ℕ → ℕ → ℕ → ℕ → Type 0
IsPast i j k m = (k < i) ⊎ ((k ≡ i) × (m < j))

-- the end of a passed firing in column m
abbrev pub IsColumnEnd : (ℕ → ℕ) → List (List (Option Firing)) → (ℕ → ℕ → Type 0) → (Firing → ℕ) → ℕ → ℕ → Type 0
IsColumnEnd cost rows Past start m u = (k : ℕ) × (g : Firing) × (cell rows k m ≡ Some g) × Past k m
    × (end_of cost start g ≡ u)

-- the firings of the passed cells have their starts, no other firing has one, and until has the time at which each
-- column's last passed firing ends
pub record IsWalk (r : Rates) (cost : ℕ → ℕ) (rows : List (List (Option Firing))) (Past : ℕ → ℕ → Type 0)
    (starts : List (List ℕ)) (until : List ℕ) : Type 0 where
  pub actors : length starts ≡ r.actors
  pub known : (k m : ℕ) (f : Firing) → cell rows k m ≡ Some f → Past k m → HasStart starts f
  pub only : (f : Firing) → HasStart starts f → (k : ℕ) × (m : ℕ) × (cell rows k m ≡ Some f) × Past k m
  pub each : (k m : ℕ) (f : Firing) → cell rows k m ≡ Some f → Past k m → IsStart r cost rows (start_in starts) f
  pub early : (k m : ℕ) (f : Firing) → cell rows k m ≡ Some f → Past k m → start_in starts f ≤ MAX_COST * k
  pub through : (m : ℕ) → m < length until → IsGreatest (IsColumnEnd cost rows Past (start_in starts) m)
      (slice_index until m)

-- the end of a firing that f waits for
abbrev pub IsNeedEnd : Rates → (ℕ → ℕ) → (Firing → ℕ) → Firing → ℕ → Type 0
IsNeedEnd r cost start f u = (g : Firing) × WaitsFor r f g × (end_of cost start g ≡ u)

-- g is the firing of f's actor before f, or a firing that f waits for on one of the first i of some channels
abbrev pub IsNeedAmong : Rates → Firing → List ℕ → ℕ → Firing → Type 0
IsNeedAmong r f channels i g =
    ((g.actor ≡ f.actor) × (g.number + 1 ≡ f.number)) ⊎
    ((k : ℕ) × (k < i) × (r.source (slice_index channels k) ≡ g.actor)
    × (r.initial (slice_index channels k) + r.produced (slice_index channels k) g.number <
    r.consumed (slice_index channels k) (f.number + 1)))

abbrev pub IsAmongEnd : Rates → (ℕ → ℕ) → (Firing → ℕ) → Firing → List ℕ → ℕ → ℕ → Type 0
IsAmongEnd r cost start f channels i u = (g : Firing) × IsNeedAmong r f channels i g × (end_of cost start g ≡ u)

-- all firings that f waits for have started, and their ends are small
pub record IsPrepared (r : Rates) (cost : ℕ → ℕ) (starts : List (List ℕ)) (f : Firing) : Type 0 where
  pub actors : length starts ≡ r.actors
  pub of : f.actor < r.actors
  pub started : (g : Firing) → WaitsFor r f g → HasStart starts g
  pub small : (g : Firing) → WaitsFor r f g → end_of cost (start_in starts) g < 2 ^ 40
  -- an actor's firings start one after another
  pub rise : (a k : ℕ) → k + 1 < length (slice_index_or starts a []) →
      slice_index (slice_index_or starts a []) k ≤ slice_index (slice_index_or starts a []) (k + 1)

-- firing f has started in column j: its start, and the lists starts' and until' after it
pub record IsFired (r : Rates) (cost : ℕ → ℕ) (f : Firing) (j : ℕ) (starts : List (List ℕ)) (until : List ℕ)
    (starts' : List (List ℕ)) (until' : List ℕ) : Type 0 where
  pub start : ℕ
  pub is : IsGreatest (λ u. (u ≡ slice_index until j) ⊎ IsNeedEnd r cost (start_in starts) f u) start
  pub starts_are : starts' ≡ slice_set starts f.actor (slice_index_or starts f.actor [] ++ start ∷ [])
  pub until_are : until' ≡ slice_set until j (start + cost f.actor)
