-- Sums: of lists, and of the rates of a cycle, which begins anew after its last firing.
use Rattle.std.proofs.Common.{◌≡◌, ℕ, zero, suc, ◌+◌, ◌*◌, ◌%◌, ◌≤◌, ◌<◌, ◌/◌, List, [], ◌∷◌, length}
use Rattle.std.proofs.Common.{get_or, sum, take, refl, ap, ◌∙◌, subst, inl, inr, ◌⊎◌, arith, add-one}
use Rattle.std.proofs.Math.Nat.{add-mul-mod_self_left, mod-eq_of_lt}
use Rattle.std.proofs.lemmas.List.{take_all}
use Rattle.std.proofs.lemmas.List.Sums.{sum_by_more, sum_by-cons}
use Rattle.std.proofs.lemmas.Bool.{cases_lt}
use Rattle.sdf_limits.specs.declared.TheConstants.{MAX_RATE}
use Rattle.sdf_graph.specs.Rates.{sum_to, rate_at}
use Rattle.sdf_graph.specs.Laws.{ListsSumWithin}

pub sum_to_more : (f : ℕ → ℕ) (i : ℕ) → sum_to f (i + 1) ≡ sum_to f i + f i
sum_to_more f i = ap (sum_to f) (add-one i)

pub sum_to_rises : (f : ℕ → ℕ) (i j : ℕ) → i ≤ j → sum_to f i ≤ sum_to f j
sum_to_rises f i zero h = let z : 0 ≡ i = omega arith in subst (λ i. sum_to f i ≤ 0) z (omega arith)
sum_to_rises f i (suc j) h = go (cases_lt i (suc j)) (λ l. sum_to_rises f i j l)
  where
    go : (i < suc j) ⊎ (suc j ≤ i) → (i ≤ j → sum_to f i ≤ sum_to f j) → sum_to f i ≤ sum_to f j + f j
    go (inl below) ih = omega (arith, ih (omega arith))
    go (inr above) ih = let e : suc j ≡ i = omega arith in subst (λ i. sum_to f i ≤ sum_to f j + f j) e (omega arith)

pub sum_to_small : (f : ℕ → ℕ) (m : ℕ) → ((i : ℕ) → f i ≤ m) → (i : ℕ) → sum_to f i ≤ m * i
sum_to_small f m small zero = omega arith
sum_to_small f m small (suc i) = omega (arith, sum_to_small f m small i, small i)

-- values that are the same up to n have the same sum
sum_to_same : (f g : ℕ → ℕ) (n : ℕ) → ((i : ℕ) → i < n → f i ≡ g i) → sum_to f n ≡ sum_to g n
sum_to_same f g zero same = refl
sum_to_same f g (suc n) same = omega (arith, sum_to_same f g n (λ i l. same i (omega arith)), same n (omega arith))

sum_to_add : (f : ℕ → ℕ) (i j : ℕ) → sum_to f (i + j) ≡ sum_to f i + sum_to (λ n. f (i + n)) j
sum_to_add f i zero = let e : i + zero ≡ i = omega arith in ap (sum_to f) e ∙ omega arith
sum_to_add f i (suc j) = let e : i + suc j ≡ suc (i + j) = omega arith in
    ap (sum_to f) e ∙ omega (arith, sum_to_add f i j)

-- a list's own sum
sum_to_listed : (xs : List ℕ) (n : ℕ) → n ≤ length xs → sum_to (λ i. get_or xs i 0) n ≡ sum (take n xs)
sum_to_listed xs zero h = refl
sum_to_listed xs (suc n) h = omega (
  arith,
  sum_to_listed xs n (omega arith),
  sum_by_more (λ x. x) xs n 0 (omega arith),
  ap (λ m. sum (take m xs)) (add-one n),
)

-- a cycle's firings move its sum
pub sum_to_cycle : (xs : List ℕ) → sum_to (rate_at xs) (length xs) ≡ sum xs
sum_to_cycle xs =
    sum_to_same (rate_at xs) (λ i. get_or xs i 0) (length xs) (λ i l. ap (λ n. get_or xs n 0) (mod-eq_of_lt l)) ∙
    (sum_to_listed xs (length xs) (omega arith) ∙ ap sum (take_all (length xs) xs (omega arith)))

-- and so do those of each later cycle
pub rates_anew : (xs : List ℕ) (k i : ℕ) → rate_at xs (length xs * k + i) ≡ rate_at xs i
rates_anew xs k i = ap (λ n. get_or xs n 0) (ap (λ n. n % length xs)
    (let e : length xs * k + i ≡ i + length xs * k = omega arith in e) ∙ add-mul-mod_self_left i (length xs) k)

pub sum_to_cycles : (xs : List ℕ) (k : ℕ) → sum_to (rate_at xs) (k * length xs) ≡ k * sum xs
sum_to_cycles xs zero = let e : zero * length xs ≡ 0 = omega arith in ap (sum_to (rate_at xs)) e ∙ omega arith
sum_to_cycles xs (suc k) =
    let e : suc k * length xs ≡ length xs * k + length xs = omega arith in
    let f : length xs * k ≡ k * length xs = omega arith in
    let last : sum_to (λ n. rate_at xs (length xs * k + n)) (length xs) ≡ sum xs =
    sum_to_same _ (rate_at xs) (length xs) (λ i l. rates_anew xs k i) ∙ sum_to_cycle xs in
    ap (sum_to (rate_at xs)) e ∙ (sum_to_add (rate_at xs) (length xs * k) (length xs)
    ∙ omega (arith, ap (sum_to (rate_at xs)) f, sum_to_cycles xs k, last))

-- after whole cycles the sums begin anew
pub sum_to_anew : (xs : List ℕ) (k i : ℕ) → sum_to (rate_at xs) (i + k * length xs) ≡ sum_to (rate_at xs) i + k * sum xs
sum_to_anew xs k i =
    let e : i + k * length xs ≡ length xs * k + i = omega arith in
    let f : length xs * k ≡ k * length xs = omega arith in
    ap (sum_to (rate_at xs)) e ∙ (sum_to_add (rate_at xs) (length xs * k) i
    ∙ omega (
      arith,
      ap (sum_to (rate_at xs)) f,
      sum_to_cycles xs k,
      sum_to_same (λ n. rate_at xs (length xs * k + n)) (rate_at xs) i (λ j l. rates_anew xs k j),
    ))

-- whole cycles and the rest of one
pub sum_to_parts : (xs : List ℕ) → 0 < length xs → (n : ℕ) →
    sum_to (rate_at xs) n ≡ n / length xs * sum_to (rate_at xs) (length xs) + sum_to (rate_at xs) (n % length xs)
sum_to_parts xs some n =
    let ratios : n ≡ n % length xs + n / length xs * length xs = omega arith in
    let whole : n / length xs * sum_to (rate_at xs) (length xs) ≡ n / length xs * sum xs =
    ap (λ m. n / length xs * m) (sum_to_cycle xs) in
    ap (sum_to (rate_at xs)) ratios ∙ (sum_to_anew xs (n / length xs) (n % length xs) ∙ omega (arith, whole))

-- all firings move as much where the cycle has one rate
pub sum_to_steady : (xs : List ℕ) → length xs ≡ 1 → (n : ℕ) → sum_to (rate_at xs) n ≡ n * get_or xs 0 0
sum_to_steady [] e n = absurd (omega arith)
sum_to_steady (x ∷ []) e n =
    let one : sum (x ∷ []) ≡ x = omega (arith, sum_by-cons (λ z. z) x []) in
    let same : n ≡ n * 1 = omega arith in
    ap (sum_to (rate_at (x ∷ []))) same ∙ (sum_to_cycles (x ∷ []) n ∙ ap (λ m. n * m) one)
sum_to_steady (x ∷ y ∷ xs) e n = absurd (omega arith)

-- rates that are small move little
pub few_moved : (xs : List ℕ) → ((i : ℕ) → get_or xs i 0 ≤ MAX_RATE) → (n : ℕ) →
    sum_to (rate_at xs) n ≤ MAX_RATE * n
few_moved xs small n = sum_to_small (rate_at xs) MAX_RATE (λ i. small _) n

-- sums follow their terms
pub sum_within : ListsSumWithin
sum_within [] ys e all = omega arith
sum_within (x ∷ xs) [] e all = omega arith
sum_within (x ∷ xs) (y ∷ ys) e all =
    let rest : sum xs ≤ sum ys = sum_within xs ys (omega arith) (λ a. all (suc a)) in
    omega (arith, all 0, sum_by-cons (λ x. x) x xs, sum_by-cons (λ x. x) y ys)
