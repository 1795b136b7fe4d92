-- Branches of a polyphase filter: the taps of each phase by themselves.
use Rattle.std.specs.Prelude.{ℕ, ◌≡◌, ◌+◌, ◌-◌, ◌*◌, ◌/◌, ◌%◌, ◌<◌, ◌≤◌, ℤ, pos, List, ◌++◌, length, map, take, drop}
use Rattle.std.specs.Prelude.{replicate}
use Rattle.std.specs.List.{range_with_len}
use Rattle.sdf_limits.specs.declared.TheConstants.{MAX_FACTOR, MAX_SHIFT}
use Rattle.sdf_kit.specs.Samples.{sample, rescaled, upsampled}
use Rattle.sdf_kit.specs.Fir.{convolved}
use Rattle.sdf_kit.specs.Dots.{dot}
use Rattle.sdf_kit.specs.Stretches.{IsBranch}
use Rattle.sdf_kit.specs.declared.branches.Branches.{Branches}
use Rattle.sdf_kit.specs.declared.polyphase.Firings.{Firings}

-- the branch of phase p: n taps, the last one first, with zeros for taps that the filter does not have
abbrev pub branch : List ℤ → ℕ → ℕ → ℕ → List ℤ
branch taps up p n = map (λ i. sample taps (p + (n - 1 - i) * up)) (range_with_len 0 n)

-- the branch of phase p of a table of branches
abbrev pub branch_at : Branches → ℕ → List ℤ
branch_at b p = take b.width (drop (p * b.width) b.table)

-- the stretches of the branch of phase p of a table of branches
abbrev pub stretches_at : Branches → ℕ → List ℕ
stretches_at b p = take (b.width / 16) (drop (p * (b.width / 16)) b.stretches)

-- the first `up` branches can be summed with vectors of sixteen
pub record AreQuiet (up : ℕ) (b : Branches) : Type 0 where
  pub some : 1 ≤ b.width
  pub few : b.width ≤ 1024
  pub room : up * b.width ≤ length b.table
  pub stretches_room : up * (b.width / 16) ≤ length b.stretches
  pub peak : b.limits.peak ≤ 32767
  pub each : (p : ℕ) → p < up → IsBranch b.limits (branch_at b p) (stretches_at b p)

-- the branches are a filter's, and each holds all of its taps
pub record AreBranches (taps : List ℤ) (up : ℕ) (b : Branches) : Type 0 where
  pub quiet : AreQuiet up b
  pub reach : (length taps - 1) / up < b.width
  pub are : (p : ℕ) → p < up → branch_at b p ≡ branch taps up p b.width

-- the factors and the shift of firings are within their limits
pub record AreFirings (f : Firings) : Type 0 where
  pub up : (1 ≤ f.up) × (f.up ≤ MAX_FACTOR)
  pub down : (1 ≤ f.down) × (f.down ≤ MAX_FACTOR)
  pub shift : f.shift ≤ MAX_SHIFT

-- output n of the branches on the samples of a window: outputs are `down` places apart at the higher rate
abbrev pub branch_output : Branches → ℕ → ℕ → ℕ → List ℤ → ℕ → ℤ
branch_output b up down shift samples n =
    rescaled (dot (branch_at b (n * down % up)) (take b.width (drop (n * down / up) samples))) shift

-- The output of a filter at place t is the dot product of the branch of its phase, n taps, with the n samples up to
-- its newest one. Place 0 is at the first input that is taken. Of the inputs before it, K taps meet the last
-- (K - 1) / up; zeros are before these.
abbrev pub BranchesAreTheFilter : Type 0
BranchesAreTheFilter =
    (taps : List ℤ) (up : ℕ) → 1 ≤ up → (x : List ℤ) (pad n t : ℕ) → pad + (length taps - 1) / up + 1 ≡ n →
    t / up + (length taps - 1) / up < length x →
    dot (branch taps up (t % up) n) (take n (drop (t / up) (replicate pad (pos 0) ++ x))) ≡
    convolved taps (upsampled up x) (t + (length taps - 1) / up * up)
