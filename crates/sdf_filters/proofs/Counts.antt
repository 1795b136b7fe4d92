-- Numbers of taps in whole phases.
use Rattle.std.proofs.Common.{◌≡◌, ℕ, ◌+◌, ◌*◌, ◌/◌, ◌%◌, ◌<◌, ◌≤◌, ◌⊎◌, inl, inr, sym, ◌∙◌, mod-eq_of_lt, arith}
use Rattle.std.proofs.Math.Nat.{div-mul-le_self}
use Rattle.std.proofs.lemmas.Bool.{cases_lt}
use Rattle.std.proofs.lemmas.Nat.{mul-add-lt}

-- whole phases have a tap in each
pub one_each : (count up : ℕ) → 0 < count → count % up ≡ 0 → up ≤ count
one_each count up some whole = go (cases_lt count up)
  where
    go : (count < up) ⊎ (up ≤ count) → up ≤ count
    go (inl less) = let e : count ≡ 0 = sym (mod-eq_of_lt less) ∙ whole in absurd (omega arith)
    go (inr l) = l

-- the taps of a phase stand within whole phases
pub within_phases : (count up phase turn : ℕ) → phase < up → turn < count / up → turn * up + phase < count
within_phases count up phase turn of early =
    let l : turn * up + phase < up * (count / up) = mul-add-lt turn up phase (count / up) early of in
    omega (arith, div-mul-le_self count up)
