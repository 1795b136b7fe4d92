-- The elements of a list: the first one and those behind it, and one that is replaced.
use Rattle.std.proofs.Common.{◌≡◌, ℕ, zero, suc, ◌+◌, ◌<◌, List, [], ◌∷◌, ◌++◌, length, get_or, set, subst, sym, arith}
use Rattle.std.proofs.Common.{inl, inr, get_or-set_other}
use Rattle.std.proofs.lemmas.Bool.{cases_eq}
use Rattle.std.proofs.lemmas.Grind.{get_or-set_at}
use Rattle.std.proofs.lemmas.List.{length-set}
use denote.Ref.{MutBor}
use denote.Param.Members.{Shared}
use Rattle.std.specs.Fork.{ChangesAt}
use Rattle.std.specs.List.{All}
use Rattle.sdf_parallel.specs.Beside.{ChangesFrom}

module _ {F T : Type 0} (g : Shared F (ℕ × (MutBor T × Unit {0})) ((Unit {0}) × (MutBor T × Unit {0}))) (f : F) where
  pub changes_one : (i : ℕ) (xs : List T) (y d : T) → length xs ≡ 1 → ChangesAt g f i (get_or xs 0 d) y →
      ChangesFrom g f i xs (set xs 0 y)
  changes_one i [] y d one at = absurd (omega arith)
  changes_one i (x ∷ x' ∷ xs) y d one at = absurd (omega arith)
  changes_one i (x ∷ []) y d one at = record { each = go }
    where
      go : (j k : ℕ) (d : T) → j ≡ i + k → k < 1 → ChangesAt g f j (get_or (x ∷ []) k d) (get_or (y ∷ []) k d)
      go j zero d e l = subst (λ n. ChangesAt g f n x y) (omega arith) at
      go j (suc k) d e l = absurd (omega arith)

  pub changes_on : (i : ℕ) (xs xs' ys ys' : List T) → length xs ≡ 1 → length ys ≡ 1 → ChangesFrom g f i xs ys →
      ChangesFrom g f (i + 1) xs' ys' → ChangesFrom g f i (xs ++ xs') (ys ++ ys')
  changes_on i [] xs' ys ys' one one' first others = absurd (omega arith)
  changes_on i (x ∷ x' ∷ xs) xs' ys ys' one one' first others = absurd (omega arith)
  changes_on i (x ∷ []) xs' [] ys' one one' first others = absurd (omega arith)
  changes_on i (x ∷ []) xs' (y ∷ y' ∷ ys) ys' one one' first others = absurd (omega arith)
  changes_on i (x ∷ []) xs' (y ∷ []) ys' one one' first others = record { each = go }
    where
      go : (j k : ℕ) (d : T) → j ≡ i + k → k < length (x ∷ xs') →
          ChangesAt g f j (get_or (x ∷ xs') k d) (get_or (y ∷ ys') k d)
      go j zero d e l = first.each j 0 d e (omega arith)
      go j (suc k) d e l = others.each j k d (omega arith) (omega arith)

-- What stands at each place of a list by its number stands there also once one more is put.
pub placed : {T : Type 0} (P : ℕ → T → Type 0) (xs : List T) (i : ℕ) (x : T) →
    ((k : ℕ) (d : T) → k < length xs → P k (get_or xs k d)) → P i x → (k : ℕ) (d : T) → k < length (set xs i x) →
    P k (get_or (set xs i x) k d)
placed P xs i x all here k d l =
    elim (cases_eq k i) [
      | inl same ↦ subst (P k) (sym (get_or-set_at xs i k x d same (omega (arith, same, l, length-set xs i x))))
          (subst (λ j. P j x) (sym same) here)
      | inr other ↦ subst (P k) (sym (get_or-set_other xs i k x d other))
          (all k d (omega (arith, l, length-set xs i x)))
    ]

pub all_one : {T : Type 0} (P : T → Type 0) (x : T) → P x → All P (x ∷ [])
all_one P x is zero d l = is
all_one P x is (suc k) d l = absurd (omega arith)

pub put_behind : {T : Type 0} (P : ℕ → T → Type 0) (xs : List T) (x : T) →
    ((k : ℕ) (d : T) → k < length xs → P k (get_or xs k d)) → P (length xs) x → (k : ℕ) (d : T) →
    k < length (xs ++ x ∷ []) → P k (get_or (xs ++ x ∷ []) k d)
put_behind P [] x all here zero d l = here
put_behind P [] x all here (suc k) d l = absurd (omega arith)
put_behind P (y ∷ xs) x all here zero d l = all zero d (omega arith)
put_behind P (y ∷ xs) x all here (suc k) d l =
    put_behind (λ j. P (suc j)) xs x (λ j e m. all (suc j) e (omega arith)) here k d (omega arith)
