-- Chains of firings that come round, as they are kept.
use Rattle.std.specs.Prelude.{◌≡◌, ℕ, zero, suc, ◌+◌, ◌-◌, ◌*◌, ◌≤◌, ◌<◌, List, length, slice_index_or, Some}
use Rattle.sdf_limits.specs.declared.TheConstants.{MAX_BLOCK}
use Rattle.sdf_graph.specs.Rates.{sum_to}
use Rattle.sdf_prec.specs.declared.firing.Firing.{Firing}
use Rattle.sdf_prec.specs.Tables.{cell, no_firing}
use Rattle.sdf_times.specs.SelfTimed.{Plan, IsSooner}
use Rattle.sdf_times.specs.declared.step.Hold.{Hold}
use Rattle.sdf_times.specs.declared.step.Hold.TheVariants.{Worker, Samples, Room}
use Rattle.sdf_times.specs.declared.step.Step.{Step}

-- firing f, d blocks later, waits for g, for this reason
abbrev pub IsHeld : Plan → Firing → Firing → ℕ → Hold → Type 0
IsHeld p g f d (Worker column from to) = (cell p.rows from column ≡ Some g) × (cell p.rows to column ≡ Some f)
    × IsSooner 0 from d to
IsHeld p g f d (Samples c) = (c < p.rates.channels) × (p.rates.target c ≡ f.actor) × (p.rates.source c ≡ g.actor)
    × (p.rates.initial c + p.rates.produced c g.number <
    p.rates.consumed c (d * p.firings f.actor + f.number + 1))
IsHeld p g f d (Room c) = (c < p.rates.channels) × (p.rates.source c ≡ f.actor) × (p.rates.target c ≡ g.actor)
    × (p.rates.source c ≡ p.rates.target c → ⊥) × (p.caps c + p.rates.consumed c g.number <
    p.rates.initial c + p.rates.produced c (d * p.firings f.actor + f.number + 1))

-- what passes between both starts: what g costs, or nothing where it makes room
abbrev pub wait_of : (ℕ → ℕ) → Firing → Hold → ℕ
wait_of cost g (Worker column from to) = cost g.actor
wait_of cost g (Samples c) = cost g.actor
wait_of cost g (Room c) = 0

abbrev pub no_step : Step
no_step = record { firing = no_firing; blocks = 0; hold = Worker 0 0 0 }

abbrev pub step_at : List Step → ℕ → Step
step_at steps i = slice_index_or steps i no_step

-- the firing before step i; before the first step it is the last step's
abbrev pub before_step : List Step → ℕ → Firing
before_step steps zero = (step_at steps (length steps - 1)).firing
before_step steps (suc i) = (step_at steps i).firing

pub record IsStep (p : Plan) (g : Firing) (s : Step) : Type 0 where
  pub from : g.actor < p.rates.actors
  pub known : s.firing.actor < p.rates.actors
  pub held : IsHeld p g s.firing s.blocks s.hold

-- how many blocks, and how much time, the first i steps take
abbrev pub blocks_to : List Step → ℕ → ℕ
blocks_to steps i = sum_to (λ i. (step_at steps i).blocks) i

abbrev pub time_to : (ℕ → ℕ) → List Step → ℕ → ℕ
time_to cost steps i = sum_to (λ i. wait_of cost (before_step steps i) (step_at steps i).hold) i

-- each firing waits for the one before, the first for the last, and this takes t/q a block
pub record IsRound (p : Plan) (steps : List Step) (t q : ℕ) : Type 0 where
  pub some : 0 < length steps
  pub short : length steps ≤ MAX_BLOCK
  pub each : (i : ℕ) → i < length steps → IsStep p (before_step steps i) (step_at steps i)
  pub later : 0 < blocks_to steps (length steps)
  pub is : q * time_to p.cost steps (length steps) ≡ t * blocks_to steps (length steps)
