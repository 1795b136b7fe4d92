-- What firings need is there: a least number of firings, and balance over a block.
use Rattle.std.proofs.Common.{◌≡◌, ℕ, zero, suc, ◌+◌, ◌-◌, ◌*◌, ◌≤◌, ◌<◌, List, length, get_or, sum, sym, ap, ◌∙◌}
use Rattle.std.proofs.Common.{subst, inl, inr, ◌⊎◌, arith, zero-add}
use Rattle.std.proofs.Math.Nat.{mul-le-mul_left}
use Rattle.std.proofs.lemmas.Bool.{cases_lt, cases_eq}
use Rattle.sdf_graph.specs.Rates.{Rates, IsSound, IsCycle, rates, channel, sum_to, rate_at}
use Rattle.sdf_graph.specs.Sequences.{IsPeriod}
use Rattle.sdf_graph.proofs.Theorems.{cycles_begin_anew}
use Rattle.sdf_prec.specs.Blocks.{block}
use Rattle.sdf_prec.specs.Laws.{NeedsExist}
use Rattle.sdf_prec.proofs.Periods.{block_at}

-- some number is the least at which a function reaches an amount, where it reaches it at all
module _ (f : ℕ → ℕ) (amount : ℕ) where
  abbrev Least : Type 0
  Least = (i : ℕ) × (amount ≤ f i) × ((j : ℕ) → amount ≤ f j → i ≤ j)

  low_or_least : (n : ℕ) → ((j : ℕ) → j < n → f j < amount) ⊎ Least
  low_or_least zero = inl (λ j l. absurd (omega arith))
  low_or_least (suc n) = go (low_or_least n) (cases_lt (f n) amount)
    where
      go : ((j : ℕ) → j < n → f j < amount) ⊎ Least → (f n < amount) ⊎ (amount ≤ f n) →
          ((j : ℕ) → j < suc n → f j < amount) ⊎ Least
      go (inr least) x = inr least
      go (inl low) (inl here) = inl (λ j l. one j l (cases_eq j n))
        where
          one : (j : ℕ) → j < suc n → (j ≡ n) ⊎ (j ≡ n → ⊥) → f j < amount
          one j l (inl e) = subst (λ j. f j < amount) (sym e) here
          one j l (inr ne) = low j (omega arith)
      go (inl low) (inr reached) = inr (n, reached, λ j h. one j h (cases_lt j n))
        where
          one : (j : ℕ) → amount ≤ f j → (j < n) ⊎ (n ≤ j) → n ≤ j
          one j h (inl l) = absurd (omega (arith, low j l))
          one j h (inr l) = l

  least_from : (n : ℕ) → amount ≤ f n → Least
  least_from n reached = go (low_or_least (suc n))
    where
      go : ((j : ℕ) → j < suc n → f j < amount) ⊎ Least → Least
      go (inr least) = least
      go (inl low) = absurd (omega (arith, low n (omega arith)))

cycles_reach : (n : ℕ) (xs : List ℕ) → IsCycle n xs → (amount : ℕ) →
    amount ≤ sum_to (rate_at xs) (amount * length xs)
cycles_reach n xs ok amount = omega (
  arith,
  cycles_begin_anew xs amount 0,
  ap (sum_to (rate_at xs)) (zero-add (amount * length xs)),
  mul-le-mul_left amount (let h : 1 ≤ sum xs = omega (arith, ok.moves) in h),
)

pub needs_exist : NeedsExist
needs_exist g ok c k l =
    let taken = (rates g).consumed c (k + 1) in
    let there = (rates g).initial c in
    let put = rate_at (channel g c).put in
    let least = least_from (sum_to put) (taken - there) ((taken - there) * length (channel g c).put)
    (cycles_reach _ _ (ok.put c l) (taken - there)) in
    (least.0, record { suffice = omega (arith, least.1); least = λ j enough. least.2 j (omega arith) })

-- a block of j periods puts on each channel what it takes
module _ (r : Rates) (s : IsSound r) (q : ℕ → ℕ) (period : IsPeriod r q) (c : ℕ) (l : c < r.channels) where
  put_by : (j : ℕ) → r.produced c (j * q (r.source c)) ≡ j * r.produced c (q (r.source c))
  put_by zero = ap (r.produced c) (let e : zero * q (r.source c) ≡ 0 = omega arith in e)
      ∙ omega (arith, s.produced_none c)
  put_by (suc j) =
      ap (r.produced c) (let e : suc j * q (r.source c) ≡ j * q (r.source c) + q (r.source c) = omega arith in e) ∙
      omega (arith, period.produced_anew c (j * q (r.source c)) l, put_by j)

  taken_by : (j : ℕ) → r.consumed c (j * q (r.target c)) ≡ j * r.consumed c (q (r.target c))
  taken_by zero = ap (r.consumed c) (let e : zero * q (r.target c) ≡ 0 = omega arith in e)
      ∙ omega (arith, s.consumed_none c)
  taken_by (suc j) =
      ap (r.consumed c) (let e : suc j * q (r.target c) ≡ j * q (r.target c) + q (r.target c) = omega arith in e) ∙
      omega (arith, period.consumed_anew c (j * q (r.target c)) l, taken_by j)

  pub balanced : (j : ℕ) → r.consumed c (j * q (r.target c)) ≤ r.initial c + r.produced c (j * q (r.source c))
  balanced j =
      let same : j * r.produced c (q (r.source c)) ≡ j * r.consumed c (q (r.target c)) =
      ap (λ x. j * x) (period.balanced c l) in
      omega (arith, put_by j, taken_by j)

pub block_balanced : (r : Rates) → IsSound r → (reps : List ℕ) → IsPeriod r (λ a. get_or reps a 0) → (j c : ℕ) →
    c < r.channels →
    r.consumed c (get_or (block j reps) (r.target c) 0) ≤
    r.initial c + r.produced c (get_or (block j reps) (r.source c) 0)
block_balanced r s reps period j c l =
    let b = balanced r s (λ a. get_or reps a 0) period c l j in
    rw (block_at j reps (r.target c), block_at j reps (r.source c)) b
