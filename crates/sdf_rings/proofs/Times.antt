-- How often a number stands between two places of a list.
use Rattle.std.proofs.Common.{◌≡◌, ℕ, zero, suc, ◌+◌, ◌-◌, ◌<◌, ◌≤◌, List, [], ◌∷◌, ◌++◌, length, Bool, eqb, cond, true}
use Rattle.std.proofs.Common.{false, slice_index, refl, arith, ◌∙◌, ap, sym, subst, add-zero}
use Rattle.std.specs.List.{between}
use Rattle.std.proofs.lemmas.Bool.{eq-eqb}
use Rattle.std.proofs.lemmas.List.Edits.{between_none, between_more, length-between}
use Rattle.std.proofs.lemmas.List.Sums.{sum_by-append, count_by-le-length}
use Rattle.sdf_graph.specs.Sequences.{times}
use Rattle.sdf_rings.specs.Seats.{times_between}

times_append : (k : ℕ) (xs ys : List ℕ) → times (xs ++ ys) k ≡ times xs k + times ys k
times_append k xs ys = sum_by-append (λ x. cond (eqb x k) 1 0) xs ys

cond_zero : (b : Bool) → ◌≡◌ {A = ℕ} 0 (cond b 0 0)
cond_zero true = refl
cond_zero false = refl

cond_one_more : (b : Bool) (n : ℕ) → cond b n 0 + cond b 1 0 ≡ cond b (suc n) 0
cond_one_more true n = omega arith
cond_one_more false n = omega arith

pub times_none : (k : ℕ) (xs : List ℕ) (i : ℕ) → times_between k xs i i ≡ 0
times_none k xs i = ap (λ w. times w k) (between_none xs i)

pub times_more : (k : ℕ) (xs : List ℕ) (from i : ℕ) → from ≤ i → i < length xs →
    times_between k xs from (i + 1) ≡ times_between k xs from i + cond (eqb (slice_index xs i) k) 1 0
times_more k xs from i le inside = ap (λ w. times w k) (between_more xs from i 0 le inside)
    ∙ times_append k (between from i xs) (slice_index xs i ∷ []) ∙ omega arith

-- so many firings of one ring node
pub times_row : (k k0 : ℕ) (xs : List ℕ) (i n : ℕ) → i + n ≤ length xs →
    ((j : ℕ) → j < n → k0 ≡ slice_index xs (i + j)) → times_between k xs i (i + n) ≡ cond (eqb k0 k) n 0
times_row k k0 xs i zero inside is = rw add-zero (times_none k xs i ∙ cond_zero (eqb k0 k))
times_row k k0 xs i (suc n) inside is =
    let before = times_row k k0 xs i n (omega arith) (λ j l. is j (omega arith)) in
    let e : i + suc n ≡ i + n + 1 = omega arith in
    let m = times_more k xs i (i + n) (omega arith) (omega arith) in
    let last : ◌≡◌ {A = ℕ} (cond (eqb (slice_index xs (i + n)) k) 1 0) (cond (eqb k0 k) 1 0) =
    ap (λ a. cond (eqb a k) 1 0) (sym (is n (omega arith))) in
    let both = cond_one_more (eqb k0 k) n in
    ap (times_between k xs i) e ∙ omega arith

pub times_join : (k : ℕ) (xs : List ℕ) (a b n : ℕ) → a ≤ b → b + n ≤ length xs →
    times_between k xs a (b + n) ≡ times_between k xs a b + times_between k xs b (b + n)
times_join k xs a b zero le fits = rw add-zero (let e = times_none k xs b in omega arith)
times_join k xs a b (suc n) le fits =
    let e : b + suc n ≡ (b + n) + 1 = omega arith in
    let p = times_join k xs a b n le (omega arith) in
    let q = times_more k xs a (b + n) (omega arith) (omega arith) in
    let r = times_more k xs b (b + n) (omega arith) (omega arith) in
    rw e (omega arith)

pub times_to : (k : ℕ) (xs : List ℕ) (a b c : ℕ) → a ≤ b → b ≤ c → c ≤ length xs →
    times_between k xs a c ≡ times_between k xs a b + times_between k xs b c
times_to k xs a b c le more fits = let e : b + (c - b) ≡ c = omega arith in
    subst (λ (z : ℕ). times_between k xs a z ≡ times_between k xs a b + times_between k xs b z) e
    (times_join k xs a b (c - b) le (omega arith))

pub times_fits : (k : ℕ) (xs : List ℕ) (a b : ℕ) → a ≤ b → b ≤ length xs → times_between k xs a b ≤ b - a
times_fits k xs a b le fits = let l = count_by-le-length (λ x. eqb x k) (between a b xs) in let e =
    length-between xs a b fits in omega arith

-- where the first places of what is left are one ring node's, so many firings are left of it
pub row_left : (xs : List ℕ) (i n done asked : ℕ) → i + n ≤ length xs →
    ((j : ℕ) → j < n → slice_index xs i ≡ slice_index xs (i + j)) →
    done + times_between (slice_index xs i) xs i (length xs) ≡ asked → done + n ≤ asked
row_left xs i n done asked inside same counts =
    let k : ℕ = slice_index xs i in
    let row = times_row k k xs i n inside same in
    let all : cond (eqb k k) n 0 ≡ n = ap (λ t. cond t n 0) (eq-eqb k k refl) in
    let split = times_to k xs i (i + n) (length xs) (omega arith) inside (omega arith) in
    omega (arith, row, all, split, counts)
