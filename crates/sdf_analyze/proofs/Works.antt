-- The work of a block is small, and figures by a net's graph and by the costs of a table are those of the design. None
-- are wanting but for memory.
use Rattle.std.proofs.Common.{◌≡◌, ◌≤◌, ◌*◌, ℕ, zero, suc, List, [], ◌∷◌, get_or}
use Rattle.std.proofs.Common.{sum, subst, refl}
use Rattle.std.proofs.Common.{arith}
use Rattle.std.specs.Prelude.{slice_index, MatchResult, Result, Ok, Err}
use Rattle.std.proofs.lemmas.List.Sums.{sum_by-cons}
use Rattle.std.proofs.lemmas.Nat.{mul-le}
use Rattle.sdf_limits.specs.declared.TheConstants.{MAX_BLOCK, MAX_COST}
use Rattle.sdf_graph.specs.Rates.{GraphValue, rates}
use Rattle.sdf_sched.specs.Period.{Schedule}
use Rattle.sdf_prec.specs.declared.fault.PrecFault.{PrecFault}
use Rattle.sdf_prec.specs.declared.fault.PrecFault.TheVariants.{OutOfMemory, BlockTooLong}
use Rattle.sdf_prec.specs.Blocks.{block, IsShort, IsLengthFault}
use Rattle.sdf_prec.specs.Costs.{AreCosts}
use Rattle.sdf_prec.specs.Tables.{TableValue}
use Rattle.sdf_times.specs.Times.{work_of, IsSpan}
use Rattle.sdf_plan.specs.Placements.{firings_of}
use Rattle.sdf_analyze.specs.Figures.{FiguresValue, AreFigures}

pub figures_of : (g h : GraphValue) (costs others : List ℕ) (j m : ℕ) (s : Schedule) (t : TableValue)
    (f : FiguresValue) → g ≡ h →
    costs ≡ others → AreFigures (rates g) (slice_index costs) j m s t f →
    AreFigures (rates h) (slice_index others) j m s t f
figures_of g h costs others j m s t f graph same are =
    subst (λ x. AreFigures (rates x) (slice_index others) j m s t f) graph
    (subst (λ xs. AreFigures (rates g) (slice_index xs) j m s t f) same are)

block_at : (j : ℕ) (reps : List ℕ) (a : ℕ) → get_or (block j reps) a 0 ≡ j * get_or reps a 0
block_at j [] a = omega arith
block_at j (x ∷ xs) zero = refl
block_at j (x ∷ xs) (suc a) = block_at j xs a

within_sum : (xs : List ℕ) (a : ℕ) → get_or xs a 0 ≤ sum xs
within_sum [] a = omega arith
within_sum (x ∷ xs) zero = omega (arith, sum_by-cons (λ y. y) x xs)
within_sum (x ∷ xs) (suc a) = let ih = within_sum xs a in omega (arith, ih, sum_by-cons (λ y. y) x xs)

firings_few : (j : ℕ) (reps : List ℕ) (a : ℕ) → IsShort j reps → get_or (block j reps) a 0 ≤ MAX_BLOCK
firings_few j reps a short =
    let low = mul-le j (get_or reps a 0) j (sum reps) (omega arith) (within_sum reps a) in
    omega (arith, low, short, block_at j reps a)

-- the work of the first n actors of a block
pub work_small : (j : ℕ) (reps costs : List ℕ) (m n : ℕ) → IsShort j reps → AreCosts m costs → n ≤ m →
    work_of n (λ a. get_or (block j reps) a 0) (λ a. get_or costs a 0) ≤ MAX_BLOCK * MAX_COST * n
work_small j reps costs m zero short priced within = omega arith
work_small j reps costs m (suc n) short priced within =
    let so_far = work_small j reps costs m n short priced (omega (arith, within)) in
    let cheap = (priced.each n (omega (arith, within))).1 in
    let low = mul-le (get_or (block j reps) n 0) (get_or costs n 0) MAX_BLOCK MAX_COST
    (firings_few j reps n short) cheap in
    omega (arith, so_far, low)

-- where a block is short nothing is wrong with its length
only_memory : (j : ℕ) (reps : List ℕ) (e : PrecFault) → IsShort j reps → IsLengthFault j reps e → e ≡ OutOfMemory
only_memory j reps OutOfMemory short is = refl
only_memory j reps BlockTooLong short is = absurd (is short)
only_memory j reps _ short is = absurd is

-- the span of a short block by a net's graph and by the costs of a table is that of the design
pub span_of : (g h : GraphValue) (costs others : List ℕ) (j : ℕ) (s : Schedule) (r : Result ℕ PrecFault) → g ≡ h →
    costs ≡ others → IsShort j s.repetitions →
    MatchResult r (λ t. IsShort j s.repetitions × IsSpan (rates g) (firings_of j s) (slice_index costs) t)
    (IsLengthFault j s.repetitions) →
    MatchResult r (IsSpan (rates h) (firings_of j s) (slice_index others)) (λ fault. fault ≡ OutOfMemory)
span_of g h costs others j s (Ok t) graph same short is =
    subst (λ x. IsSpan (rates x) (firings_of j s) (slice_index others) t) graph
    (subst (λ xs. IsSpan (rates g) (firings_of j s) (slice_index xs) t) same is.1)
span_of g h costs others j s (Err fault) graph same short is = only_memory j s.repetitions fault short is
