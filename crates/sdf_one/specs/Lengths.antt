-- How many periods a block of a run has.
use Rattle.std.specs.Prelude.{◌≡◌, ◌⊎◌, ℕ, ◌*◌, ◌≤◌, ◌<◌, List, slice_index}
use Rattle.sdf_graph.specs.Rates.{Rates}
use Rattle.sdf_one.specs.declared.lengths.TheConstants.{MAX_PUT, MAX_READ}

-- the most samples that a period of q puts on one of the first channels
pub record IsMostPut (r : Rates) (q : List ℕ) (channels most : ℕ) : Type 0 where
  pub above : (c : ℕ) → c < channels → r.produced c (slice_index q (r.source c)) ≤ most
  pub reached : (most ≡ 0) ⊎ ((c : ℕ) × (c < channels) × (r.produced c (slice_index q (r.source c)) ≡ most))

-- `many` of a run's periods together read at most MAX_READ samples of an input and put at most MAX_PUT on a channel,
-- if each reads `read` and puts `put`
pub record Fit (read put periods many : ℕ) : Type 0 where
  pub within : many ≤ periods
  pub reads : many * read ≤ MAX_READ
  pub puts : many * put ≤ MAX_PUT

-- the greatest number of periods that fit, or one if none fits
pub record AreBlock (read put periods many : ℕ) : Type 0 where
  pub some : 0 < many
  pub fit : 1 < many → Fit read put periods many
  pub most : (more : ℕ) → Fit read put periods more → more ≤ many
