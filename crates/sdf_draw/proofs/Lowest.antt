-- The greatest of what a function gives for boxes.
use Rattle.std.proofs.Common.{◌≡◌, ℕ, zero, suc, ◌<◌, ◌≤◌, List, [], ◌∷◌, length, take, max, arith}
use Rattle.sdf_draw.specs.declared.layout.BoxPlace.{BoxPlace}
use Rattle.sdf_draw.specs.Layouts.{place, greatest_by}

pub greatest_take : (f : BoxPlace → ℕ) (ps : List BoxPlace) (i : ℕ) → i < length ps →
    greatest_by f (take (suc i) ps) ≡ max (greatest_by f (take i ps)) (f (place ps i))
greatest_take f [] i low = absurd (omega arith)
greatest_take f (p ∷ ps) zero low = omega arith
greatest_take f (p ∷ ps) (suc i) low = let ih = greatest_take f ps i (omega arith) in omega (arith, ih)

pub greatest_within : (f : BoxPlace → ℕ) (ps : List BoxPlace) (i a : ℕ) → a < i → i ≤ length ps →
    f (place ps a) ≤ greatest_by f (take i ps)
greatest_within f [] i a low within = absurd (omega arith)
greatest_within f (p ∷ ps) zero a low within = absurd (omega arith)
greatest_within f (p ∷ ps) (suc i) zero low within = omega arith
greatest_within f (p ∷ ps) (suc i) (suc a) low within =
    let ih = greatest_within f ps i a (omega arith) (omega arith) in omega (arith, ih)
