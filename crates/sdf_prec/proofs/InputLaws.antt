-- Bounds of what rows are made of.
use Rattle.std.proofs.Common.{ℕ, ◌*◌, ◌≤◌, ◌<◌, ◌⊎◌, List, get_or, inl, inr, arith}
use Rattle.std.proofs.lemmas.List.{get_or_past}
use Rattle.std.proofs.lemmas.Nat.{mul-le}
use Rattle.std.proofs.lemmas.Bool.{cases_lt}
use Rattle.sdf_limits.specs.declared.TheConstants.{MAX_BLOCK, MAX_COST}
use Rattle.sdf_prec.specs.Numbers.{NumbersValue}
use Rattle.sdf_prec.specs.Simulations.{AreInputs}
use Rattle.sdf_prec.proofs.Shifts.{within_sum}

module _ {actors : ℕ} {firings : List ℕ} {levels : NumbersValue} {costs weights : List ℕ}
    (inputs : AreInputs actors firings levels costs weights) where
  pub job_dear : (a : ℕ) → a < actors → 1 ≤ get_or costs a 0
  job_dear a l = (inputs.costs_are.each a l).0

  pub job_cheap : (a : ℕ) → a < actors → get_or costs a 0 ≤ MAX_COST
  job_cheap a l = (inputs.costs_are.each a l).1

  pub job_small : (a : ℕ) → get_or weights a 0 ≤ MAX_BLOCK * MAX_COST
  job_small a = go (cases_lt a actors)
    where
      go : (a < actors) ⊎ (actors ≤ a) → get_or weights a 0 ≤ MAX_BLOCK * MAX_COST
      go (inl l) =
          let low : get_or firings a 0 ≤ MAX_BLOCK = omega (arith, within_sum firings a, inputs.few) in
          omega (
            arith,
            inputs.weights_are a,
            mul-le (get_or firings a 0) (get_or costs a 0) MAX_BLOCK MAX_COST low
                (job_cheap a l),
          )
      go (inr h) = omega (arith, get_or_past weights a 0 (omega (arith, inputs.weights_all)))
