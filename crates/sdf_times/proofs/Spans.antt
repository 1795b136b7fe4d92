-- The work, the span and the bound as they are found.
use Rattle.std.proofs.Common.{◌≡◌, ℕ, zero, suc, ◌+◌, ◌*◌, ◌/◌, ◌%◌, ◌≤◌, ◌<◌, ◌⊎◌, List, [], ◌∷◌, length, get_or, max}
use Rattle.std.proofs.Common.{min, sum, inl, inr, sym, ap, ◌∙◌, arith, refl, subst}
use Rattle.std.proofs.lemmas.Bool.{cases_lt}
use Rattle.std.proofs.lemmas.Grind.{div_ceil_times}
use Rattle.std.proofs.lemmas.List.{get_or_past}
use Rattle.std.proofs.lemmas.List.Sums.{sum_by-cons}
use Rattle.std.proofs.lemmas.Nat.{mul-le}
use Rattle.sdf_limits.specs.declared.TheConstants.{MAX_BLOCK, MAX_COST}
use Rattle.sdf_graph.specs.Rates.{Rates}
use Rattle.sdf_prec.specs.declared.firing.Firing.{Firing}
use Rattle.sdf_prec.specs.Blocks.{block}
use Rattle.sdf_prec.specs.Levels.{IsChain, total, IsLevel, AreLevels}
use Rattle.sdf_prec.specs.Numbers.{NumbersValue, InBlock, number}
use Rattle.sdf_prec.specs.Tables.{IsOfBlock}
use Rattle.sdf_times.specs.Times.{IsGreatest, IsSpan, IsBound}
use Rattle.sdf_times.proofs.Greatest.{greatest_more, greatest_same}

pub block_at : (j : ℕ) (reps : List ℕ) (a : ℕ) → get_or (block j reps) a 0 ≡ j * get_or reps a 0
block_at j [] a = omega arith
block_at j (x ∷ xs) zero = refl
block_at j (x ∷ xs) (suc a) = block_at j xs a

pub block_length : (j : ℕ) (reps : List ℕ) → length (block j reps) ≡ length reps
block_length j [] = refl
block_length j (x ∷ xs) = ap suc (block_length j xs)

within_sum : (xs : List ℕ) (a : ℕ) → get_or xs a 0 ≤ sum xs
within_sum [] a = omega arith
within_sum (x ∷ xs) zero = omega (arith, sum_by-cons (λ y. y) x xs)
within_sum (x ∷ xs) (suc a) = let ih = within_sum xs a in omega (arith, ih, sum_by-cons (λ y. y) x xs)

-- the firings of an actor in a block, and what they cost together
pub firings_few : (j : ℕ) (reps : List ℕ) (a : ℕ) → j * sum reps ≤ MAX_BLOCK → j * get_or reps a 0 ≤ MAX_BLOCK
firings_few j reps a short = let low = mul-le j (get_or reps a 0) j (sum reps) (omega arith) (within_sum reps a) in
    omega (arith, low)

pub term_small : (k x : ℕ) → k ≤ MAX_BLOCK → x ≤ MAX_COST → k * x ≤ MAX_BLOCK * MAX_COST
term_small k x h l = mul-le k x MAX_BLOCK MAX_COST h l

-- the first firing of an actor that fires is one of the block
pub first_in : (n : List ℕ) (a : ℕ) → 0 < get_or n a 0 → InBlock n (record { actor = a; number = 0 })
first_in n a fires = (known (cases_lt a (length n)), fires)
  where
    known : (a < length n) ⊎ (length n ≤ a) → a < length n
    known (inl l) = l
    known (inr past) = absurd (omega (arith, get_or_past n a 0 past))

-- how often an actor fires in the block
pub count_is : (j : ℕ) (reps n : List ℕ) (a x y count : ℕ) → n ≡ block j reps → x ≡ j → y ≡ get_or reps a 0 →
    count ≡ x * y → get_or n a 0 ≡ count
count_is j reps n a x y count is one two all =
    ap (λ n. get_or n a 0) is ∙ (block_at j reps a ∙ ((λ k. sym one k * sym two k) ∙ sym all))

abbrev pub FirstLevel : NumbersValue → ℕ → ℕ → Type 0
FirstLevel s i u = (a : ℕ) × (a < i) × (0 < get_or s.firings a 0) × (number s (record { actor = a; number = 0 }) ≡ u)

pub first_more : (s : NumbersValue) (i t x : ℕ) → 0 < get_or s.firings i 0 →
    x ≡ number s (record { actor = i; number = 0 }) → IsGreatest (FirstLevel s i) t →
    IsGreatest (FirstLevel s (i + 1)) (max t x)
first_more s i t x fires is g =
    greatest_more (FirstLevel s i) (FirstLevel s (i + 1)) t x g (λ u w. (w.0, omega (arith, w.1), w.2, w.3))
    (inr (i, omega arith, fires, sym is))
    (λ u w. back u w.0 w.1 w.2 w.3 (cases_lt w.0 i))
  where
    back : (u a : ℕ) → a < i + 1 → 0 < get_or s.firings a 0 → number s (record { actor = a; number = 0 }) ≡ u →
        (a < i) ⊎ (i ≤ a) → FirstLevel s i u ⊎ (u ≤ x)
    back u a l fire e (inl low) = inl (a, low, fire, e)
    back u a l fire e (inr high) =
        let same : a ≡ i = omega arith in
        inr (omega (arith, is, e, ap (λ a. number s (record { actor = a; number = 0 })) same))

pub first_skip : (s : NumbersValue) (i t : ℕ) → (0 < get_or s.firings i 0 → ⊥) →
    IsGreatest (FirstLevel s i) t → IsGreatest (FirstLevel s (i + 1)) t
first_skip s i t idle g =
    greatest_same (FirstLevel s i) (FirstLevel s (i + 1)) t (λ u w. (w.0, omega (arith, w.1), w.2, w.3))
    (λ u w. back u w.0 w.1 w.2 w.3 (cases_lt w.0 i)) g
  where
    back : (u a : ℕ) → a < i + 1 → 0 < get_or s.firings a 0 → number s (record { actor = a; number = 0 }) ≡ u →
        (a < i) ⊎ (i ≤ a) → FirstLevel s i u
    back u a l fire e (inl low) = (a, low, fire, e)
    back u a l fire e (inr high) =
        let same : a ≡ i = omega arith in
        absurd (idle (omega (arith, fire, ap (λ a. get_or s.firings a 0) same)))

pub first_all : (s : NumbersValue) (i t : ℕ) → length s.firings ≤ i → IsGreatest (FirstLevel s i) t →
    IsGreatest (λ u. (a : ℕ) × (0 < get_or s.firings a 0) × (number s (record { actor = a; number = 0 }) ≡ u)) t
first_all s i t past g =
    greatest_same (FirstLevel s i) (λ u. (a : ℕ) × (0 < get_or s.firings a 0)
    × (number s (record { actor = a; number = 0 }) ≡ u)) t
    (λ u w. (w.0, w.2, w.3)) (λ u w. (w.0, known w.0 w.1 (cases_lt w.0 i), w.1, w.2)) g
  where
    known : (a : ℕ) → 0 < get_or s.firings a 0 → (a < i) ⊎ (i ≤ a) → a < i
    known a fire (inl low) = low
    known a fire (inr high) = absurd (omega (arith, get_or_past s.firings a 0 (omega arith)))

module _ (r : Rates) (n cost : ℕ → ℕ) (a : ℕ) where
  chain_first : (f : Firing) (gs : List Firing) → IsChain r n f gs → IsOfBlock r n f
  chain_first f [] c = c
  chain_first f (g ∷ gs) c = c.0

  -- a chain is the end of one that begins at its actor's first firing
  from_first : (k : ℕ) (gs : List Firing) → IsChain r n (record { actor = a; number = k }) gs →
      (hs : List Firing) × IsChain r n (record { actor = a; number = 0 }) hs
      × (total cost (record { actor = a; number = k }) gs ≤ total cost (record { actor = a; number = 0 }) hs)
  from_first zero gs c = (gs, c, omega arith)
  from_first (suc k) gs c =
      let of = chain_first (record { actor = a; number = suc k }) gs c in
      let f : Firing = record { actor = a; number = suc k } in
      let x = from_first k (f ∷ gs) ((of.0, omega (arith, of.1)), inl (refl, omega arith), c) in
      (x.0, x.1, omega (arith, x.2))

-- the greatest level is that of a first firing
pub span_is : (r : Rates) (n : List ℕ) (cost : ℕ → ℕ) (s : NumbersValue) (t : ℕ) → length n ≡ r.actors →
    AreLevels r n cost s →
    IsGreatest (λ u. (a : ℕ) × (0 < get_or s.firings a 0) × (number s (record { actor = a; number = 0 }) ≡ u)) t →
    IsSpan r (λ a. get_or n a 0) cost t
span_is r n cost s t all levels g = record { above = λ u w. above u w.0 w.1 w.2; reached = reach g.reached }
  where
    at : (a : ℕ) → get_or s.firings a 0 ≡ get_or n a 0
    at a = ap (λ n. get_or n a 0) levels.firings

    above : (u : ℕ) (f : Firing) → IsOfBlock r (λ a. get_or n a 0) f → IsLevel r (λ a. get_or n a 0) cost f u → u ≤ t
    above u f of level =
        let fire : 0 < get_or n f.actor 0 = omega (arith, of.1) in
        let first = levels.each (record { actor = f.actor; number = 0 }) (first_in n f.actor fire) in
        let chain = level.reached in
        let long = from_first r (λ a. get_or n a 0) cost f.actor f.number chain.0 chain.1 in
        let low = first.above long.0 long.1 in
        let high = g.above (number s (record { actor = f.actor; number = 0 }))
        (f.actor, omega (arith, fire, at f.actor), refl) in
        omega (arith, chain.2, long.2, low, high)

    reach : (t ≡ 0) ⊎ ((a : ℕ) × (0 < get_or s.firings a 0) × (number s (record { actor = a; number = 0 }) ≡ t)) →
        (t ≡ 0) ⊎ ((f : Firing) × IsOfBlock r (λ a. get_or n a 0) f × IsLevel r (λ a. get_or n a 0) cost f t)
    reach (inl z) = inl z
    reach (inr (a, fire, is)) =
        let in_block = first_in n a (omega (arith, fire, at a)) in
        inr (
          record { actor = a; number = 0 },
          (omega (arith, in_block.0, all), in_block.1),
          subst (IsLevel r (λ a. get_or n a 0) cost (record { actor = a; number = 0 })) is
              (levels.each (record { actor = a; number = 0 }) in_block),
        )

-- the greater of the span and of the work over the workers, rounded up
pub bound_is : (span work workers : ℕ) → 0 < workers →
    IsBound span work workers (max span (work / workers + min 1 (work % workers)))
bound_is span work workers some = record {
  chains = omega arith;
  shares =
      let low = mul-le (work / workers + min 1 (work % workers)) workers
      (max span (work / workers + min 1 (work % workers))) workers (omega arith) (omega arith) in
      omega (arith, low, (div_ceil_times work workers some).0);
  least = λ u h k. least u h k (cases_lt u (work / workers + min 1 (work % workers)));
}
  where
    least : (u : ℕ) → span ≤ u → work ≤ u * workers →
        (u < work / workers + min 1 (work % workers)) ⊎ (work / workers + min 1 (work % workers) ≤ u) →
        max span (work / workers + min 1 (work % workers)) ≤ u
    least u h k (inr high) = omega arith
    least u h k (inl low) =
        let more = mul-le (u + 1) workers (work / workers + min 1 (work % workers)) workers (omega arith)
        (omega arith) in
        absurd (omega (arith, more, (div_ceil_times work workers some).1))
