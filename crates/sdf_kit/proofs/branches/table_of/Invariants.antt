use Rattle.std.proofs.Common.{◌≡◌, ℕ, ◌<◌, get_or, length, pos}
use Rattle.sdf_kit.proofs.Branching.{place_tap}
use Rattle.sdf_kit.proofs.branches.table_of.Given as goal

abbrev pub invariant-loop-place : goal.invariant-loop-place
invariant-loop-place l =
    (length l.table ≡ 2048) × ((k : ℕ) → k < l.place → get_or l.table k (pos 0) ≡ place_tap l.taps l.up l.width k)
