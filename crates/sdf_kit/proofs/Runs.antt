-- Many firings as one: an actor whose state and output are known of all that it took.
use Rattle.std.proofs.Common.{◌≡◌, ℕ, zero, suc, ◌+◌, ◌-◌, ◌*◌, ◌≤◌, ◌<◌, List, [], ◌++◌, length, map, take, drop}
use Rattle.std.proofs.Common.{get_or, ℤ, pos, sym, ◌∙◌, ap, arith, ⊎_elim}
use Rattle.std.specs.List.{range_with_len}
use Rattle.std.proofs.lemmas.Bool.{cases_lt}
use Rattle.std.proofs.lemmas.List.{length-append, length-map, length-take-le, length-drop, take_all, get_or_append_left}
use Rattle.std.proofs.lemmas.List.{get_or-append_right, get_or-map, ext_get_or}
use Rattle.std.proofs.lemmas.List.FromFn.{fill_by_all, length-map-range_with_len, get_or-map-range_with_len}
use Rattle.std.proofs.Math.Nat.{zero-mul, suc-mul}
use Rattle.std.proofs.Math.Seq.{take-add}
use Rattle.sdf_graph.specs.Rates.{sum_to}
use Rattle.sdf_actor.specs.Steps.{Steps, phase, total_in, sum_in, block_at, state_at, puts_to}

-- the sum of so many equal numbers
pub same_sums : (f : ℕ → ℕ) (r : ℕ) → ((n : ℕ) → f n ≡ r) → (i : ℕ) → sum_to f i ≡ i * r
same_sums f r same zero = sym (zero-mul r)
same_sums f r same (suc i) = omega (arith, same_sums f r same i, same i, suc-mul i r)

-- From a state on: the state after the samples taken, and all that so many firings put of them. Each firing takes
-- `size`
pub record IsRun {A S : Type 0} (s : Steps A S ℤ) (x : A) (size : ℕ) (state : S) (after : List ℤ → S)
    (all : ℕ → List ℤ → List ℤ) : Type 0 where
  pub rate : (n : ℕ) → total_in s x (phase s x n) ≡ size
  pub begins : after [] ≡ state
  pub none : all 0 [] ≡ []
  -- i firings took xs, and one more, at the phase of firing n, takes b
  pub next : (n i : ℕ) (xs b : List ℤ) → length xs ≡ i * size → length b ≡ size →
      s.next x (phase s x n) (after xs) b ≡ after (xs ++ b)
  pub more : (n i : ℕ) (xs b : List ℤ) → length xs ≡ i * size → length b ≡ size →
      all i xs ++ s.puts x (phase s x n) (after xs) b ≡ all (suc i) (xs ++ b)

module _ {A S : Type 0} (s : Steps A S ℤ) (x : A) (size : ℕ) (state : S) (after : List ℤ → S)
    (all : ℕ → List ℤ → List ℤ) (is : IsRun s x size state after all) (j : ℕ) where
  sums : (i : ℕ) → sum_in s x j i ≡ i * size
  sums = same_sums (λ n. total_in s x (phase s x (j + n))) size (λ n. is.rate (j + n))

  module _ (taken : List ℤ) where
    block_is : (i : ℕ) → block_at s x j taken i ≡ take size (drop (i * size) taken)
    block_is i =
        let one : i + 1 ≡ suc i = omega arith in
        let wide : sum_in s x j (i + 1) - sum_in s x j i ≡ size =
        omega (arith, sums i, sums (i + 1), ap (λ n. n * size) one, suc-mul i size) in
        λ k. take (wide k) (drop (sums i k) taken)

    runs : (i : ℕ) → i * size ≤ length taken → (state_at s x j state taken i ≡ after (take (i * size) taken))
        × (puts_to s x j state taken i ≡ all i (take (i * size) taken))
    runs zero l =
        let no : take (zero * size) taken ≡ [] = ap (λ n. take n taken) (zero-mul size) in
        (sym is.begins ∙ ap after (sym no), sym is.none ∙ ap (all 0) (sym no))
    runs (suc i) l =
        let step : suc i * size ≡ i * size + size = suc-mul i size in
        let xs : List ℤ = take (i * size) taken in
        let b : List ℤ = block_at s x j taken i in
        let before = runs i (omega arith) in
        let xs_long : length xs ≡ i * size = length-take-le (i * size) taken (omega arith) in
        let b_long : length b ≡ size = ap length (block_is i)
        ∙ length-take-le size (drop (i * size) taken) (omega (arith, length-drop (i * size) taken)) in
        let whole : xs ++ b ≡ take (suc i * size) taken =
        ap (λ ys. xs ++ ys) (block_is i) ∙ (sym (take-add (i * size) size taken)
        ∙ ap (λ n. take n taken) (sym step)) in (
          ap (λ z. s.next x (phase s x (j + i)) z b) before.0
              ∙ (is.next (j + i) i xs b xs_long b_long ∙ ap after whole),
          (λ k. before.1 k ++ s.puts x (phase s x (j + i)) (before.0 k) b)
              ∙ (is.more (j + i) i xs b xs_long b_long ∙ ap (all (suc i)) whole),
        )

    module _ (many : ℕ) (long : length taken ≡ sum_in s x j many) where
      whole_run : take (many * size) taken ≡ taken
      whole_run = take_all (many * size) taken (omega (arith, long, sums many))

      pub run_state : state_at s x j state taken many ≡ after taken
      run_state = (runs many (omega (arith, long, sums many))).0 ∙ ap after whole_run

      pub run_puts : puts_to s x j state taken many ≡ all many taken
      run_puts = (runs many (omega (arith, long, sums many))).1 ∙ ap (all many) whole_run

-- one firing of a run puts what the firing by itself puts
pub one_firing : {A S : Type 0} (s : Steps A S ℤ) (x : A) (size : ℕ) (state : S) (after : List ℤ → S)
    (all : ℕ → List ℤ → List ℤ) → IsRun s x size state after all → (n : ℕ) (b : List ℤ) → length b ≡ size →
    all 1 b ≡ s.puts x (phase s x n) state b
one_firing s x size state after all is n b one =
    sym (is.more n 0 [] b (sym (zero-mul size)) one) ∙ (
    ap (λ ys. ys ++ s.puts x (phase s x n) (after []) b) is.none ∙
    ap (λ z. s.puts x (phase s x n) z b) is.begins)

-- what later samples don't change, and what a block more puts
pub seam : (f g h : ℕ → ℤ) (a m total : ℕ) → total ≡ a + m → ((n : ℕ) → n < a → f n ≡ g n) →
    ((q : ℕ) → q < m → h q ≡ g (a + q)) →
    map f (range_with_len 0 a) ++ map h (range_with_len 0 m) ≡ map g (range_with_len 0 total)
seam f g h a m total e same new =
    fill_by_all g (map f (range_with_len 0 a) ++ map h (range_with_len 0 m)) total (pos 0)
    (length-append front back ∙ omega (arith, front_long, back_long, e))
    (λ k l. ⊎_elim (old k) (λ r. late k l r) (cases_lt k a))
  where
    front : List ℤ
    front = map f (range_with_len 0 a)

    back : List ℤ
    back = map h (range_with_len 0 m)

    front_long : length front ≡ a
    front_long = length-map-range_with_len f 0 a

    back_long : length back ≡ m
    back_long = length-map-range_with_len h 0 m

    old : (k : ℕ) → k < a → get_or (front ++ back) k (pos 0) ≡ g k
    old k l = get_or_append_left front back (pos 0) k (omega (arith, front_long))
        ∙ (get_or-map-range_with_len f 0 a k k (pos 0) l (omega arith) ∙ same k l)

    late : (k : ℕ) → k < total → a ≤ k → get_or (front ++ back) k (pos 0) ≡ g k
    late k l r =
        let place : a + (k - a) ≡ k = omega arith in
        get_or-append_right front back a k (pos 0) front_long r ∙
        (get_or-map-range_with_len h 0 m (k - a) (k - a) (pos 0) (omega (arith, e)) (omega arith)
        ∙ (new (k - a) (omega (arith, e)) ∙ ap g place))

-- a list by what stands at each place of another
pub mapped_by : (f : ℤ → ℤ) (put taken : List ℤ) → length put ≡ length taken →
    ((k : ℕ) → k < length taken → get_or put k (pos 0) ≡ f (get_or taken k (pos 0))) → put ≡ map f taken
mapped_by f put taken long each =
    ext_get_or (pos 0) put (map f taken) (omega (arith, long, length-map taken f))
    (λ k l. each k (omega (arith, long)) ∙ sym (get_or-map f taken k (pos 0) (pos 0) (omega (arith, long))))
