-- Self-timed runs of a table: its blocks one after another, each firing as soon as its column, its samples and its room
-- allow, and the time that a block then takes in the long run.
use Rattle.std.specs.Prelude.{◌≡◌, ℕ, ◌+◌, ◌*◌, ◌≤◌, ◌<◌, ◌⊎◌, List, Option, Some}
use Rattle.sdf_graph.specs.Rates.{Rates, IsSound}
use Rattle.sdf_graph.specs.Sequences.{IsPeriod}
use Rattle.sdf_prec.specs.declared.firing.Firing.{Firing}
use Rattle.sdf_prec.specs.Precedence.{WaitsFor}
use Rattle.sdf_prec.specs.Tables.{cell, sequence, IsOfBlock, IsValid, IsGreatestHeld}
use Rattle.sdf_times.specs.Times.{IsGreatest, end_of}

-- what a run depends on: rates, the firings of each actor in a block, the rows of a block's table, the capacity of each
-- channel, and the cost of each actor's firings
pub record Plan : Type 0 where
  pub rates : Rates
  pub firings : ℕ → ℕ
  pub rows : List (List (Option Firing))
  pub caps : ℕ → ℕ
  pub cost : ℕ → ℕ

-- the firing b blocks later
abbrev pub later : Plan → ℕ → Firing → Firing
later p b f = record { actor = f.actor; number = b * p.firings f.actor + f.number }

-- the firing stands in column j, in row i of block b
abbrev pub IsAt : Plan → ℕ → ℕ → ℕ → Firing → Type 0
IsAt p b i j f = (g : Firing) × (cell p.rows i j ≡ Some g) × (later p b g ≡ f)

-- row k of block d is before row i of block b
abbrev pub IsSooner : ℕ → ℕ → ℕ → ℕ → Type 0
IsSooner d k b i = (d < b) ⊎ ((d ≡ b) × (k < i))

-- g stands in f's column, in an earlier row
abbrev pub IsAheadOf : Plan → Firing → Firing → Type 0
IsAheadOf p g f = (d : ℕ) × (k : ℕ) × (b : ℕ) × (i : ℕ) × (j : ℕ) × IsSooner d k b i × IsAt p d k j g × IsAt p b i j f

-- f waits for room until g has taken its samples: as long as g has not started, a channel out of f's actor has no room
-- for what f puts. A channel from an actor to itself never waits for room
abbrev pub WaitsForRoom : Plan → Firing → Firing → Type 0
WaitsForRoom p f g = (c : ℕ) × (c < p.rates.channels) × (p.rates.source c ≡ f.actor) × (p.rates.target c ≡ g.actor)
    × (p.rates.source c ≡ p.rates.target c → ⊥)
    × (p.caps c + p.rates.consumed c g.number < p.rates.initial c + p.rates.produced c (f.number + 1))

-- f starts no sooner than w after g starts: than g's end, if f waits for g or g is ahead of f in its column, and than
-- g's start, if f waits for room until then (firings take at their start and put at their end)
abbrev pub HoldsBack : Plan → Firing → Firing → ℕ → Type 0
HoldsBack p g f w = ((w ≡ p.cost g.actor) × (WaitsFor p.rates f g ⊎ IsAheadOf p g f)) ⊎ ((w ≡ 0) × WaitsForRoom p f g)

-- each firing starts as soon as the firings that hold it back allow, or at 0
abbrev pub AreSelfTimed : Plan → (Firing → ℕ) → Type 0
AreSelfTimed p start = (f : Firing) → f.actor < p.rates.actors → IsGreatest (λ t. (g : Firing) × (w : ℕ)
    × HoldsBack p g f w × (start g + w ≡ t)) (start f)

-- when the last firing of block b ends
abbrev pub IsBlockEnd : Plan → (Firing → ℕ) → ℕ → ℕ → Type 0
IsBlockEnd p start b t = IsGreatest (λ u. (f : Firing) × IsOfBlock p.rates p.firings f
    × (end_of p.cost start (later p b f) ≡ u)) t

-- a block takes t/q in the long run: q times the ends of blocks never get further from the multiples of t than some
-- bound
pub record IsIterationPeriod (end : ℕ → ℕ) (t q : ℕ) : Type 0 where
  pub some : 0 < q
  pub bound : ℕ
  pub late : (b : ℕ) → q * end b ≤ t * b + bound
  pub soon : (b : ℕ) → t * b ≤ q * end b + bound

-- what can be run: a valid table for whole periods in which each actor fires, and each channel holds as much as in row
-- order
pub record IsPlan (p : Plan) : Type 0 where
  pub sound : IsSound p.rates
  pub period : IsPeriod p.rates p.firings
  pub fires : (a : ℕ) → a < p.rates.actors → 0 < p.firings a
  pub valid : IsValid p.rates p.firings p.rows
  pub room : (c : ℕ) → c < p.rates.channels → (held : ℕ) × IsGreatestHeld p.rates (sequence p.rows) c held
      × (held ≤ p.caps c)

-- a certificate, first half: a schedule in which each block starts exactly t after the one before, in units of 1/q, and
-- no firing sooner than is allowed (Reiter 1968)
pub record IsPeriodic (p : Plan) (t q : ℕ) (x : Firing → ℕ) : Type 0 where
  pub again : (f : Firing) → f.actor < p.rates.actors → x (later p 1 f) ≡ x f + t
  pub allowed : (g f : Firing) (w : ℕ) → g.actor < p.rates.actors → f.actor < p.rates.actors → HoldsBack p g f w →
      x g + q * w ≤ x f

-- f starts no sooner than w after g, by firings each of which holds back the next
pub data Leads (p : Plan) (g : Firing) : Firing → ℕ → Type 0 where
  here : Leads p g g 0
  on : (f h : Firing) (v w : ℕ) → Leads p g f v → f.actor < p.rates.actors → h.actor < p.rates.actors →
      HoldsBack p f h w → Leads p g h (v + w)

-- a certificate, second half: a firing leads to itself d blocks later, and not sooner than t/q for each of them
pub record Attains (p : Plan) (t q : ℕ) : Type 0 where
  pub firing : Firing
  pub known : firing.actor < p.rates.actors
  pub blocks : ℕ
  pub time : ℕ
  pub leads : Leads p firing (later p blocks firing) time
  pub some : 0 < blocks
  pub is : q * time ≡ t * blocks
