-- Two ports. A firing moves one sample at each.
use Rattle.std.specs.Prelude.{◌≡◌, ℕ, ◌<◌, List, length, slice_index}

pub record ArePairs (ports sizes : List ℕ) : Type 0 where
  pub two : length ports ≡ 2
  pub one : (n : ℕ) → n < length ports → slice_index sizes (slice_index ports n) ≡ 1
