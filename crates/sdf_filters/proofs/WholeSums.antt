-- What the taps of a phase come to where one tap is changed by any number.
use Rattle.std.proofs.Common.{◌≡◌, ℕ, ◌%◌, ◌<◌, ◌+◌, ◌⊎◌, inl, inr, ℤ, ◌+ℤ◌, ◌-ℤ◌, List, length, set, ap, ◌∙◌, sym}
use Rattle.std.proofs.Common.{arith}
use Rattle.std.proofs.lemmas.Int.{ints}
use Rattle.std.proofs.lemmas.Bool.{cases_eq}
use Rattle.sdf_filters.specs.Phases.{tap, phase_sum}
use Rattle.sdf_filters.proofs.PhaseSums.{moved_here, moved_elsewhere}

pub other_sums : (h g : List ℤ) (up phase k : ℕ) (d : ℤ) → k % up ≡ phase → g ≡ set h k (tap h k +ℤ d) → (q : ℕ) →
    (q ≡ phase → ⊥) → phase_sum g up q ≡ phase_sum h up q
other_sums h g up phase k d is e q other =
    ap (λ t. phase_sum t up q) e ∙ moved_elsewhere h up q k (tap h k +ℤ d) (λ same. other (sym same ∙ is))

-- what a phase lacks is added
pub lacking_added : (h g : List ℤ) (up phase k : ℕ) (d sum total : ℤ) → k < length h → k % up ≡ phase →
    sum ≡ phase_sum h up phase → d ≡ total -ℤ sum → g ≡ set h k (tap h k +ℤ d) → phase_sum g up phase ≡ total
lacking_added h g up phase k d sum total within is is_sum is_d e =
    ap (λ t. phase_sum t up phase) e ∙ (moved_here h up phase k d within is
    ∙ omega (arith, ints, is_sum, is_d))

-- one phase more has its sum
pub one_sum_more : (h g : List ℤ) (up phase : ℕ) (total : ℤ) → phase_sum g up phase ≡ total →
    ((q : ℕ) → (q ≡ phase → ⊥) → phase_sum g up q ≡ phase_sum h up q) →
    ((q : ℕ) → q < phase → phase_sum h up q ≡ total) → (q : ℕ) → q < phase + 1 → phase_sum g up q ≡ total
one_sum_more h g up phase total exact others before q below = go (cases_eq q phase)
  where
    go : (q ≡ phase) ⊎ (q ≡ phase → ⊥) → phase_sum g up q ≡ total
    go (inl e) = ap (phase_sum g up) e ∙ exact
    go (inr ne) = others q ne ∙ before q (omega arith)
