-- Lists with others behind them.
use Rattle.std.proofs.Common.{◌≡◌, ℕ, zero, suc, List, [], ◌∷◌, length, get_or, refl, sym, ap, append-nil, arith}
use Rattle.std.proofs.lemmas.List.{ext_get_or}
use Rattle.sdf_parallel.specs.Laws.{ListsJoin, JoinedAreAsMany}

pub joined_is : {T : Type 0} → ListsJoin T
joined_is [] [] h e = refl
joined_is [] (y ∷ ys) h e = absurd (omega arith)
joined_is (x ∷ xs) [] h zero = sym (append-nil x)
joined_is (x ∷ xs) [] h (suc e) = joined_is xs [] (omega arith) e
joined_is (x ∷ xs) (y ∷ ys) h zero = refl
joined_is (x ∷ xs) (y ∷ ys) h (suc e) = joined_is xs ys (omega arith) e

pub joined_long : {T : Type 0} → JoinedAreAsMany T
joined_long [] ys = refl
joined_long (x ∷ xs) [] = ap suc (joined_long xs [])
joined_long (x ∷ xs) (y ∷ ys) = ap suc (joined_long xs ys)

-- lists that are the same number by number
pub same_lists : {T : Type 0} (xs ys : List (List T)) → length xs ≡ length ys →
    ((e : ℕ) → get_or xs e [] ≡ get_or ys e []) → xs ≡ ys
same_lists xs ys many each = ext_get_or [] xs ys many (λ i l. each i)
