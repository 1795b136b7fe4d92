-- Firings of a queue placed one after the other.
use Rattle.std.specs.Prelude.{◌≡◌, ℕ, ◌*◌, ◌≤◌, ◌<◌, ◌⊎◌, ◌↔◌, List, length, slice_index, slice_index_or, Option, Some}
use Rattle.std.specs.Prelude.{None}
use Rattle.sdf_limits.specs.declared.TheConstants.{MAX_ACTORS, MAX_BLOCK, MAX_COST}
use Rattle.sdf_prec.specs.declared.firing.Firing.{Firing}
use Rattle.sdf_prec.specs.Tables.{firing, cell_of}
use Rattle.sdf_prec.specs.Trying.{load, IsLeast, IsHomeFor, IsPlaced}

-- a weight for each actor that `homes` lists: the cost of all its firings
pub record AreWeights (weights : List ℕ) (homes : List (Option ℕ)) : Type 0 where
  pub all : length weights ≡ length homes
  pub few : length homes ≤ MAX_ACTORS
  pub small : (a : ℕ) → a < length homes → slice_index weights a ≤ MAX_BLOCK * MAX_COST

-- the load of each column by these lists
abbrev pub load_by : List ℕ → List (Option ℕ) → ℕ → ℕ
load_by weights homes = load (length homes) (slice_index weights) (λ a. slice_index_or homes a None)

-- column j is idle at time now and still empty
abbrev pub IsOpen : List ℕ → ℕ → List (Option Firing) → ℕ → Type 0
IsOpen until now cells j = (slice_index until j ≤ now) × (cell_of cells j ≡ None)

-- of the first i columns, the free one of least load; there is none if no column is free
abbrev pub IsBest : ℕ → (ℕ → Type 0) → (ℕ → ℕ) → Option ℕ → Type 0
IsBest i free load None = (j : ℕ) → j < i → free j → ⊥
IsBest i free load (Some b) = (b < i) × free b × IsLeast i free load b

-- the first i firings of the queue are placed, and `homes` are the homes after that
pub record IsPlacing (actors width : ℕ) (weight : ℕ → ℕ) (idle : ℕ → Type 0) (before : ℕ → Option ℕ)
    (queue : List Firing) (i : ℕ) (cells : List (Option Firing)) (homes : List (Option ℕ)) : Type 0 where
  pub each : (p : ℕ) → p < i → IsPlaced actors width weight idle before queue cells p
  pub only : (j : ℕ) (f : Firing) → cell_of cells j ≡ Some f → (p : ℕ) × (p < i) × (firing queue p ≡ f)
  pub homes_are : (a j : ℕ) → a < actors → (slice_index_or homes a None ≡ Some j) ↔ IsHomeFor before queue cells i a j
  pub inside : (a j : ℕ) → slice_index_or homes a None ≡ Some j → j < width
  pub wide : length cells ≡ width
  pub all : length homes ≡ actors

-- a firing finds no column: its home is taken, or all columns are if it has no home
abbrev pub IsNowhere : ℕ → (ℕ → Type 0) → Option ℕ → Type 0
IsNowhere width open' None = (j : ℕ) → j < width → open' j → ⊥
IsNowhere width open' (Some k) = (k < width) × (open' k → ⊥)

-- each of the first i firings of the queue stands somewhere, or its home is taken, or all columns are
abbrev pub AreWaiting : List ℕ → ℕ → List Firing → ℕ → List (Option Firing) → List (Option ℕ) → Type 0
AreWaiting until now queue i cells homes = (p : ℕ) → p < i →
    ((j : ℕ) × (cell_of cells j ≡ Some (firing queue p))) ⊎
    (((k : ℕ) × (slice_index_or homes (firing queue p).actor None ≡ Some k) × (k < length until)
    × (IsOpen until now cells k → ⊥)) ⊎
    ((j : ℕ) → j < length until → IsOpen until now cells j → ⊥))
