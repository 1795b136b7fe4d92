-- The length of the parts of a run.
use Rattle.std.specs.Prelude.{ℕ, ◌*◌, ◌-◌, ◌^◌, ◌≤◌, ◌<◌, min}

-- at most `parts` parts of this size hold the periods; each is at least eight warm-ups long (or 2^32 - 1 periods), so
-- that less than an eighth of the work is done twice
pub record IsPartSize (periods parts warm size : ℕ) : Type 0 where
  pub some : 0 < size
  pub few : periods ≤ parts * size
  pub long : min (8 * warm) (2 ^ 32 - 1) ≤ size
