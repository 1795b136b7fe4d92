-- A sequence is as long as the counts of its actors come to, and so is the order of a table.
use Rattle.std.proofs.Common.{◌≡◌, ℕ, zero, suc, ◌+◌, ◌*◌, ◌<◌, List, [], ◌∷◌, length, get_or, cond, eqb, refl, sym, ap}
use Rattle.std.proofs.Common.{◌∙◌, arith}
use Rattle.std.specs.Prelude.{sum}
use Rattle.std.proofs.Math.Dec.{eqb-suc-zero, eqb-zero-suc, eqb-suc-suc}
use Rattle.std.proofs.lemmas.List.Sums.{sum_by-cons}
use Rattle.sdf_graph.specs.Sequences.{times}
use Rattle.sdf_prec.specs.Blocks.{block}
use Rattle.sdf_prec.specs.Counts.{TablesCount}
use Rattle.sdf_prec.specs.Tables.{sequence}
use Rattle.sdf_prec.proofs.Periods.{block_sum, block_length, repeated_length}
use Rattle.sdf_prec.proofs.Orders.{orders_are_admissible}

-- the sum of the first values
abbrev total : (ℕ → ℕ) → ℕ → ℕ
total f zero = 0
total f (suc m) = f 0 + total (λ i. f (suc i)) m

total_both : (f g : ℕ → ℕ) (m : ℕ) → total (λ i. f i + g i) m ≡ total f m + total g m
total_both f g zero = omega arith
total_both f g (suc m) = let ih = total_both (λ i. f (suc i)) (λ i. g (suc i)) m in omega (arith, ih)

total_same : (f g : ℕ → ℕ) (m : ℕ) → ((i : ℕ) → i < m → f i ≡ g i) → total f m ≡ total g m
total_same f g zero same = refl
total_same f g (suc m) same = let ih = total_same (λ i. f (suc i)) (λ i. g (suc i)) m
    (λ i h. same (suc i) (omega arith)) in omega (arith, ih, same 0 (omega arith))

total_none : (m : ℕ) → total (λ a. 0) m ≡ 0
total_none zero = refl
total_none (suc m) = let ih = total_none m in omega (arith, ih)

total_list : (xs : List ℕ) → total (λ a. get_or xs a 0) (length xs) ≡ sum xs
total_list [] = refl
total_list (x ∷ xs) = let ih = total_list xs in omega (arith, ih, sum_by-cons (λ y. y) x xs)

abbrev one_at : ℕ → ℕ → ℕ
one_at x a = cond (eqb x a) 1 0

total_one : (x m : ℕ) → x < m → total (one_at x) m ≡ 1
total_one x zero h = absurd (omega arith)
total_one zero (suc m) h =
    let rest : total (λ i. one_at 0 (suc i)) m ≡ total (λ a. 0) m =
    total_same (λ i. one_at 0 (suc i)) (λ a. 0) m (λ i l. ap (λ t. cond t 1 0) (eqb-zero-suc i)) in
    let first : one_at 0 0 ≡ 1 = refl in
    omega (arith, rest, total_none m, first)
total_one (suc x) (suc m) h =
    let ih = total_one x m (omega arith) in
    let rest : total (λ i. one_at (suc x) (suc i)) m ≡ total (one_at x) m =
    total_same (λ i. one_at (suc x) (suc i)) (one_at x) m (λ i l. ap (λ t. cond t 1 0) (eqb-suc-suc x i)) in
    let first : one_at (suc x) 0 ≡ 0 = ap (λ t. cond t 1 0) (eqb-suc-zero x) in
    omega (arith, rest, ih, first)

counted : (w : List ℕ) (m : ℕ) → ((i : ℕ) → i < length w → get_or w i 0 < m) → total (times w) m ≡ length w
counted [] m known = total_none m
counted (x ∷ w) m known =
    let ih = counted w m (λ i h. known (suc i) (omega arith)) in
    let split : total (times (x ∷ w)) m ≡ total (λ a. one_at x a + times w a) m =
    total_same (times (x ∷ w)) (λ a. one_at x a + times w a) m (λ a h. sum_by-cons (λ b. cond (eqb b a) 1 0) x w) in
    omega (arith, ih, split, total_both (one_at x) (times w) m, total_one x m (known 0 (omega arith)))

pub tables_count : TablesCount
tables_count r q j width t b all is =
    let pass = orders_are_admissible r (λ a. get_or (block j q) a 0) t.rows is.valid in
    let w = sequence t.rows in
    let long : total (times w) r.actors ≡ length w = counted w r.actors (λ i h. (pass.0 i h).0) in
    let same : total (times w) r.actors ≡ total (λ a. get_or (block j q) a 0) r.actors =
    total_same (times w) (λ a. get_or (block j q) a 0) r.actors pass.1 in
    let sums : total (λ a. get_or (block j q) a 0) r.actors ≡ j * sum q =
    ap (total (λ a. get_or (block j q) a 0)) (sym all ∙ sym (block_length j q))
    ∙ (total_list (block j q) ∙ block_sum j q) in
    repeated_length b t.order ∙ ap (λ m. b * m) (ap (λ (xs : List ℕ). length xs) is.exact.order_is
    ∙ (sym long ∙ (same ∙ sums)))
