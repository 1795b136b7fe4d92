-- As many periods as a channel's samples and a block's firings allow.
use Rattle.std.proofs.Common.{◌≡◌, ℕ, zero, suc, ◌+◌, ◌*◌, ◌/◌, ◌≤◌, ◌<◌, ◌⊎◌, inl, inr, List, length, get_or, sum}
use Rattle.std.proofs.Common.{arith, ap, sym, subst, ◌∙◌, mul-le-mul_left}
use Rattle.std.specs.Prelude.{min, max}
use Rattle.std.proofs.Math.Nat.{le-div_iff_mul-le}
use Rattle.std.proofs.lemmas.Bool.{cases_lt}
use Rattle.sdf_limits.specs.declared.TheConstants.{MAX_BLOCK}
use Rattle.sdf_graph.specs.Rates.{Rates, GraphValue, IsShape, IsCycle, channel, rates, rate_at, sum_to}
use Rattle.sdf_graph.specs.Periods.{IsPeriodVector}
use Rattle.sdf_prec.specs.declared.long.TheConstants.{MAX_MOVED}
use Rattle.sdf_prec.specs.Blocks.{IsShort}
use Rattle.sdf_prec.specs.Long.{moved, IsWithinLong, IsLongest}
use Rattle.sdf_graph.proofs.Theorems.{whole_cycles_move}
use Rattle.sdf_prec.proofs.Cyclic.{product_small}
use Rattle.sdf_prec.proofs.Shifts.{within_sum}

-- whole cycles move something
cycles_move : (xs : List ℕ) (n k q : ℕ) → IsCycle n xs → q ≡ k * n → 0 < q →
    0 < sum_to (rate_at xs) q
cycles_move xs n zero q ok is some = absurd (omega arith)
cycles_move xs n (suc k) q ok is some =
    let same : q ≡ suc k * length xs = is ∙ ap (λ n. suc k * n) (sym ok.all) in
    let more : suc k * 1 ≤ suc k * sum xs = mul-le-mul_left (suc k) (omega (arith, ok.moves)) in
    omega (arith, ap (sum_to (rate_at xs)) same, whole_cycles_move xs (suc k), more)

pub channel_moves : (g : GraphValue) → IsShape g → (q : List ℕ) → IsPeriodVector (rates g) q → (c : ℕ) →
    c < length g.channels → 0 < moved (rates g) q c
channel_moves g ok q period c l =
    let from = ok.from_in c l in
    let whole = period.whole (channel g c).from from in
    cycles_move (channel g c).put ((rates g).cycle (channel g c).from) whole.0 (get_or q (channel g c).from 0)
    (ok.put c l) whole.1 (period.positive (channel g c).from from)

-- and each actor fires
pub some_firings : (g : GraphValue) → IsShape g → (q : List ℕ) → IsPeriodVector (rates g) q → 0 < sum q
some_firings g ok q period = omega (arith, within_sum q 0, period.positive 0 ok.some)

-- p is the greatest number of periods that keeps within the firings and within the samples of the first i channels
pub record IsMost (r : Rates) (q : List ℕ) (i p : ℕ) : Type 0 where
  pub moves : (c : ℕ) → c < i → p * moved r q c ≤ MAX_MOVED
  pub short : IsShort p q
  pub greatest : (k : ℕ) → IsShort k q → ((c : ℕ) → c < i → k * moved r q c ≤ MAX_MOVED) → k ≤ p

pub most_firings : (r : Rates) (q : List ℕ) → 0 < sum q → IsMost r q 0 (MAX_BLOCK / sum q)
most_firings r q some = record {
  moves = λ c l. absurd (omega arith);
  short = (le-div_iff_mul-le {k = sum q} {x = MAX_BLOCK / sum q} {y = MAX_BLOCK} some).0 (omega arith);
  greatest = λ k short _. (le-div_iff_mul-le {k = sum q} {x = k} {y = MAX_BLOCK} some).1 short;
}

pub most_more : (r : Rates) (q : List ℕ) (i p p' each : ℕ) → each ≡ moved r q i → 0 < each →
    p' ≡ min p (MAX_MOVED / each) → IsMost r q i p → IsMost r q (i + 1) p'
most_more r q i p p' each is some least most = record {
  moves = λ c l. go c l (cases_lt c i);
  short = omega (arith, product_small p' (sum q) p (sum q) (omega arith) (omega arith), most.short);
  greatest = λ k short moves.
      let here : k * each ≤ MAX_MOVED = subst (λ x. k * x ≤ MAX_MOVED) (sym is) (moves i (omega arith)) in
      let one : k ≤ MAX_MOVED / each = (le-div_iff_mul-le {k = each} {x = k} {y = MAX_MOVED} some).1 here in
      omega (arith, one, most.greatest k short (λ c l. moves c (omega arith)));
}
  where
    go : (c : ℕ) → c < i + 1 → (c < i) ⊎ (i ≤ c) → p' * moved r q c ≤ MAX_MOVED
    go c l (inl low) =
        omega (arith, product_small p' (moved r q c) p (moved r q c) (omega arith) (omega arith), most.moves c low)
    go c l (inr high) =
        let same : i ≡ c = omega arith in
        subst (λ x. p' * x ≤ MAX_MOVED) (is ∙ ap (moved r q) same)
        ((le-div_iff_mul-le {k = each} {x = p'} {y = MAX_MOVED} some).0 (omega arith))

-- at least one
pub most_longest : (r : Rates) (q : List ℕ) (p j : ℕ) → j ≡ max p 1 → IsMost r q r.channels p → IsLongest r q j
most_longest r q p j is most = record {
  some = omega arith;
  within = go (cases_lt 0 p);
  greatest = λ k w. omega (arith, most.greatest k w.short w.moves);
}
  where
    go : (0 < p) ⊎ (p ≤ 0) → (j ≡ 1) ⊎ IsWithinLong r q j
    go (inl some) =
        let same : p ≡ j = omega arith in
        inr (subst (IsWithinLong r q) same (record { moves = most.moves; short = most.short }))
    go (inr none) = inl (omega arith)

pub longest_short : (r : Rates) (q : List ℕ) (j : ℕ) → IsLongest r q j → sum q ≤ MAX_BLOCK → IsShort j q
longest_short r q j longest few = go longest.within
  where
    go : (j ≡ 1) ⊎ IsWithinLong r q j → IsShort j q
    go (inl one) = let e : 1 * sum q ≡ sum q = omega arith in
        subst (λ j. IsShort j q) (sym one) (omega (arith, e, few))
    go (inr within) = within.short
