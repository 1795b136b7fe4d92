-- The names of faults.
use Rattle.std.proofs.Common.{◌≡◌, ℕ, ◌+◌, ◌<◌, List, sym, ◌∙◌, arith, inl, inr}
use Rattle.std.proofs.lemmas.Bool.{cases_lt}
use Rattle.sdf_cli.specs.Names.{IsNamed}

-- a fault has one name
pub one_name : (number : ℕ) (a b : List ℕ) → IsNamed number a → IsNamed number b → a ≡ b
one_name number a b x y = sym x.named ∙ y.named

-- what holds of no number before one, and not of that one, holds of none up to it
pub none_up_to : (P : ℕ → Type 0) (k n : ℕ) → ((i : ℕ) → i < n → P i → ⊥) → (P n → ⊥) → k < n + 1 → P k → ⊥
none_up_to P k n before here below held = elim (cases_lt k n) [
  | inl less ↦ before k less held
  | inr not_less ↦
      let same : k ≡ n = omega (arith, not_less, below) in
      here (rw same at held)
]
