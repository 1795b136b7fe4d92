-- What a queue holds.
use Rattle.std.specs.Prelude.{ℕ, List}

-- the samples on a channel, and how many it has room for
pub record QueueValue (T : Type 0) : Type 0 where
  pub samples : List T
  pub room : ℕ
