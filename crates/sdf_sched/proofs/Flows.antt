-- What a firing moves, summed over an actor's own channels.
use Rattle.std.proofs.Common.{◌≡◌, ℕ, zero, suc, ◌+◌, ◌-◌, ◌%◌, ◌≤◌, ◌<◌, List, [], ◌∷◌, length, get_or, take, sum_by}
use Rattle.std.proofs.Common.{cond, eqb, refl, sym, ap, ◌∙◌, subst, inl, inr, ◌⊎◌, zero-add, arith}
use Rattle.std.specs.List.{range_with_len}
use Rattle.std.proofs.lemmas.List.{take_all, get_or-take, length-take-le}
use Rattle.std.proofs.lemmas.List.Sums.{sum_by_more, sum_by-cons}
use Rattle.std.proofs.lemmas.Bool.{cases_lt, cases_eq, eq-eqb, ne_eqb}
use Rattle.sdf_graph.specs.Adjacency.{ListsExactly, actor_at}
use Rattle.sdf_graph.specs.declared.channel.End.{End}
use Rattle.sdf_graph.specs.declared.channel.End.TheVariants.{Source, Target}
use Rattle.sdf_graph.specs.Moved.{moves}
use Rattle.sdf_graph.specs.Rates.{GraphValue, IsShape, rates, channel, sum_to}
use Rattle.sdf_sched.specs.Lean.{moved_by}
use Rattle.sdf_graph.proofs.Theorems.{sums_grow}
use Rattle.sdf_sched.proofs.Updates.{place_of, stands_at, apart, length_within}

-- the numbers below n + 1 of an end a are those below n, and n where it has that end
module _ (of : ℕ → ℕ) (a n : ℕ) (xs : List ℕ) (lists : ListsExactly (λ c. of c ≡ a) (n + 1) xs) where
  pub without_last : (of n ≡ a → ⊥) → ListsExactly (λ c. of c ≡ a) n xs
  without_last ne = record {
    rising = lists.rising;
    each = λ i h. let e = lists.each i h in (go i e.0 e.1 (cases_eq (get_or xs i 0) n), e.1);
    all = λ x h p. lists.all x (omega arith) p;
  }
    where
      go : (i : ℕ) → get_or xs i 0 < n + 1 → of (get_or xs i 0) ≡ a → (get_or xs i 0 ≡ n) ⊎ (get_or xs i 0 ≡ n → ⊥) →
          get_or xs i 0 < n
      go i h p (inl e) = absurd (ne (ap of (sym e) ∙ p))
      go i h p (inr other) = omega arith

  module _ (is : of n ≡ a) where
    -- n stands last
    last : (i : ℕ) × ((i + 1 ≡ length xs) × (get_or xs i 0 ≡ n))
    last = let p = place_of xs n (lists.all n (omega arith) is) in
        (p.0, (go p.0 p.1.0 p.1.1 (cases_lt (p.0 + 1) (length xs)), p.1.1))
      where
        go : (i : ℕ) → i < length xs → get_or xs i 0 ≡ n → (i + 1 < length xs) ⊎ (length xs ≤ i + 1) → i + 1 ≡ length xs
        go i h e (inl more) = absurd (omega (
          arith,
          apart xs lists.rising i (i + 1) (omega arith) more,
          (lists.each (i + 1) more).0,
        ))
        go i h e (inr end) = omega arith

    pub front : (i : ℕ) → i + 1 ≡ length xs → get_or xs i 0 ≡ n → ListsExactly (λ c. of c ≡ a) n (take i xs)
    front i end e = record {
      rising = λ j h. let l : j + 1 < i = omega (arith, len) in
          rw (here j (omega arith), here (j + 1) l) (lists.rising j (omega arith));
      each = λ j h. let l : j < i = omega (arith, len) in
          rw (here j l) (omega (arith, apart xs lists.rising j i l (omega arith), e), (lists.each j (omega arith)).1);
      all = λ x h p. let k = place_of xs x (lists.all x (omega arith) p) in
          stands_at (take i xs) x k.0 (rw len (early x h k.0 k.1.0 k.1.1 (cases_lt k.0 i)))
          (here k.0 (early x h k.0 k.1.0 k.1.1 (cases_lt k.0 i)) ∙ k.1.1);
    }
      where
        len : length (take i xs) ≡ i
        len = length-take-le i xs (omega arith)

        here : (j : ℕ) → j < i → get_or (take i xs) j 0 ≡ get_or xs j 0
        here j l = get_or-take i xs j 0 l

        early : (x : ℕ) → x < n → (k : ℕ) → k < length xs → get_or xs k 0 ≡ x → (k < i) ⊎ (i ≤ k) → k < i
        early x h k l f (inl less) = less
        early x h k l f (inr more) = let same : i ≡ k = omega arith in
            absurd (omega (arith, ap (λ k. get_or xs k 0) same, e))

range_more : (f : ℕ → ℕ) (b n : ℕ) → sum_by f (range_with_len b (suc n)) ≡ sum_by f (range_with_len b n) + f (b + n)
range_more f b zero = let e : f b ≡ f (b + 0) = ap f (let z : b ≡ b + 0 = omega arith in z) in
    omega (arith, sum_by-cons f b [])
range_more f b (suc n) =
    let e : f (b + 1 + n) ≡ f (b + suc n) = ap f (let z : b + 1 + n ≡ b + suc n = omega arith in z) in
    omega (
      arith,
      sum_by-cons f b (range_with_len (b + 1) (suc n)),
      sum_by-cons f b (range_with_len (b + 1) n),
      range_more f (b + 1) n,
    )

-- a sum over all channels, of those with end a alone, is one over the list of these
pub sum_of_own : (of : ℕ → ℕ) (a : ℕ) (f : ℕ → ℕ) (n : ℕ) (xs : List ℕ) → ListsExactly (λ c. of c ≡ a) n xs →
    sum_by (λ c. cond (eqb (of c) a) (f c) 0) (range_with_len 0 n) ≡ sum_by f xs
sum_of_own of a f zero [] lists = refl
sum_of_own of a f zero (x ∷ xs) lists = absurd (omega (arith, (lists.each 0 (omega arith)).0))
sum_of_own of a f (suc n) xs lists = go (cases_eq (of n) a) (sum_of_own of a f n)
  where
    next : ListsExactly (λ c. of c ≡ a) (n + 1) xs
    next = let e : suc n ≡ n + 1 = omega arith in subst (λ n. ListsExactly (λ c. of c ≡ a) n xs) e lists

    go : (of n ≡ a) ⊎ (of n ≡ a → ⊥) → ((xs : List ℕ) → ListsExactly (λ c. of c ≡ a) n xs →
        sum_by (λ c. cond (eqb (of c) a) (f c) 0) (range_with_len 0 n) ≡ sum_by f xs) →
        sum_by (λ c. cond (eqb (of c) a) (f c) 0) (range_with_len 0 (suc n)) ≡ sum_by f xs
    go (inl is) before =
        let p = last of a n xs next is in
        let none : cond (eqb (of n) a) (f n) 0 ≡ f n = ap (λ t. cond t (f n) 0) (eq-eqb (of n) a is) in
        let zeroth : cond (eqb (of (0 + n)) a) (f (0 + n)) 0 ≡ cond (eqb (of n) a) (f n) 0 =
        ap (λ c. cond (eqb (of c) a) (f c) 0) (zero-add n) in
        let whole : sum_by f (take (p.0 + 1) xs) ≡ sum_by f xs =
        ap (sum_by f) (take_all (p.0 + 1) xs (omega (arith, p.1.0))) in
        omega (
          arith,
          range_more (λ c. cond (eqb (of c) a) (f c) 0) 0 n,
          before (take p.0 xs) (front of a n xs next is p.0 p.1.0 p.1.1),
          sum_by_more f xs p.0 0 (omega (arith, p.1.0)),
          ap f p.1.1,
        )
    go (inr ne) before =
        let none : cond (eqb (of n) a) (f n) 0 ≡ 0 = ap (λ t. cond t (f n) 0) (ne_eqb (of n) a ne) in
        let zeroth : cond (eqb (of (0 + n)) a) (f (0 + n)) 0 ≡ cond (eqb (of n) a) (f n) 0 =
        ap (λ c. cond (eqb (of c) a) (f c) 0) (zero-add n) in
        omega (arith, range_more (λ c. cond (eqb (of c) a) (f c) 0) 0 n, before xs (without_last of a n xs next ne))

-- an actor has no more channels than there are
pub few_own : (P : ℕ → Type 0) (n : ℕ) (xs : List ℕ) → ListsExactly P n xs → length xs ≤ n
few_own P n xs lists = length_within xs lists.rising n
    (λ c h. let i = place_of xs c h in omega (arith, (lists.each i.0 i.1.0).0, i.1.1))

-- what one firing moves
step_of : (f : ℕ → ℕ) (n i : ℕ) → n ≡ i → f i ≡ sum_to f (n + 1) - sum_to f n
step_of f n i e = subst (λ i. f i ≡ sum_to f (n + 1) - sum_to f n) e (omega (arith, sums_grow f n))

-- what is summed over the list of an actor's channels is what its firing i moves, over all channels
pub flow_of : (of : ℕ → ℕ) (rate : ℕ → ℕ → ℕ) (a n m : ℕ) (xs : List ℕ) → ListsExactly (λ c. of c ≡ a) m xs →
    (i : ℕ) → n ≡ i → (j : ℕ) → length xs ≤ j → (total : ℕ) → total ≡ sum_by (λ c. rate c i) (take j xs) →
    total ≡ sum_by (λ c. cond (eqb (of c) a) (sum_to (rate c) (n + 1) - sum_to (rate c) n) 0) (range_with_len 0 m)
flow_of of rate a n m xs lists i e j past total is =
    is ∙ (ap (sum_by (λ c. rate c i)) (take_all j xs past)
    ∙ (ap (λ (f : ℕ → ℕ). sum_by f xs) (λ z c. step_of (rate c) n i e z)
    ∙ sym (sum_of_own of a (λ c. sum_to (rate c) (n + 1) - sum_to (rate c) n) m xs lists)))

-- so it is at either end
pub flow_at : (end : End) (g : GraphValue) (k : ℕ → ℕ) (a total : ℕ) →
    total ≡ sum_by (λ c. cond (eqb (actor_at end (channel g c)) a)
    (sum_to (moves end (channel g c)) (k a + 1) - sum_to (moves end (channel g c)) (k a)) 0)
    (range_with_len 0 (length g.channels)) →
    total ≡ moved_by end (rates g) k a
flow_at Source g k a total is = is
flow_at Target g k a total is = is

-- and no rate is over the limit
pub moves_small : (end : End) (g : GraphValue) → IsShape g → (c i : ℕ) → c < length g.channels →
    moves end (channel g c) i ≤ 1024
moves_small Source g shape c i h = (shape.put c h).small (i % length (channel g c).put)
moves_small Target g shape c i h = (shape.take c h).small (i % length (channel g c).take)
