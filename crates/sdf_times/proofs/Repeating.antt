-- A schedule that repeats itself each block is in time everywhere if it is where it is tested.
use Rattle.std.proofs.Common.{◌≡◌, ℕ, zero, suc, ◌+◌, ◌-◌, ◌*◌, ◌/◌, ◌%◌, ◌≤◌, ◌<◌, ◌⊎◌, List, length, get_or, inl, inr}
use Rattle.std.proofs.Common.{sym, ap, ◌∙◌, arith}
use Rattle.std.proofs.lemmas.Nat.{div-add-mod', mod_below, div-mul-add, mod-mul-add}
use Rattle.std.proofs.lemmas.Bool.{cases_lt}
use Rattle.sdf_graph.specs.Rates.{sum_to}
use Rattle.sdf_graph.proofs.Theorems.{sums_rise}
use Rattle.sdf_times.specs.Checks.{repeating, AreInTurn, IsLinkInTime}

-- the starts of one actor
module _ (t : ℕ) (xs : List ℕ) where
  pub at_block : (b k : ℕ) → k < length xs → repeating t xs (b * length xs + k) ≡ get_or xs k 0 + t * b
  at_block b k l = λ i. get_or xs (mod-mul-add b (length xs) k l i) 0 + t * div-mul-add b (length xs) k l i

  pub at_first : (k : ℕ) → k < length xs → repeating t xs k ≡ get_or xs k 0
  at_first k l = let from : k ≡ 0 * length xs + k = omega arith in
      ap (repeating t xs) from ∙ (at_block 0 k l ∙ omega arith)

  module _ (some : 0 < length xs) where
    split_at : (k : ℕ) → (b : ℕ) × (r : ℕ) × (r < length xs) × (b * length xs + r ≡ k)
    split_at k = (k / length xs, k % length xs, mod_below k (length xs) some, div-add-mod' k (length xs))

    pub later_at : (m k : ℕ) → repeating t xs (m * length xs + k) ≡ repeating t xs k + t * m
    later_at m k =
        let s = split_at k in
        let all : m * length xs + k ≡ (m + s.0) * length xs + s.1 = omega (arith, s.3) in
        let there : repeating t xs (m * length xs + k) ≡ get_or xs s.1 0 + t * (m + s.0) =
        ap (repeating t xs) all ∙ at_block (m + s.0) s.1 s.2 in
        let here : repeating t xs k ≡ get_or xs s.1 0 + t * s.0 =
        ap (repeating t xs) (sym s.3) ∙ at_block s.0 s.1 s.2 in
        omega (arith, there, here)

    module _ (pause : ℕ) (turn : AreInTurn xs pause t) where
      pub one_by_one : (k : ℕ) → repeating t xs k + pause ≤ repeating t xs (k + 1)
      one_by_one k = let s = split_at k in go s.0 s.1 s.2 s.3 (cases_lt (s.1 + 1) (length xs))
        where
          go : (b r : ℕ) → r < length xs → b * length xs + r ≡ k → (r + 1 < length xs) ⊎ (length xs ≤ r + 1) →
              repeating t xs k + pause ≤ repeating t xs (k + 1)
          go b r l is (inl low) =
              let next : b * length xs + (r + 1) ≡ k + 1 = omega arith in
              let here : repeating t xs k ≡ get_or xs r 0 + t * b = ap (repeating t xs) (sym is) ∙ at_block b r l in
              let there : repeating t xs (k + 1) ≡ get_or xs (r + 1) 0 + t * b =
              ap (repeating t xs) (sym next) ∙ at_block b (r + 1) low in
              omega (arith, turn.next r low)
          go b r l is (inr last) =
              let next : suc b * length xs + 0 ≡ k + 1 = omega arith in
              let here : repeating t xs k ≡ get_or xs r 0 + t * b = ap (repeating t xs) (sym is) ∙ at_block b r l in
              let there : repeating t xs (k + 1) ≡ get_or xs 0 0 + t * suc b =
              ap (repeating t xs) (sym next) ∙ at_block (suc b) 0 some in
              let end : length xs - 1 ≡ r = omega arith in
              omega (arith, turn.round some, ap (λ r. get_or xs r 0) end)

      pub rises : (k e : ℕ) → repeating t xs k ≤ repeating t xs (e + k)
      rises k zero = let same : zero + k ≡ k = omega arith in omega (arith, ap (repeating t xs) same)
      rises k (suc e) =
          let ih = rises k e in
          let more = one_by_one (e + k) in
          let next : (e + k) + 1 ≡ suc e + k = omega arith in
          omega (arith, ih, more, ap (repeating t xs) next)

    -- and the other way round
    pub in_turn_if : (pause : ℕ) → ((k : ℕ) → repeating t xs k + pause ≤ repeating t xs (k + 1)) → AreInTurn xs pause t
    in_turn_if pause each = record {
      next = λ k l. omega (arith, each k, at_first k (omega arith), at_first (k + 1) l);
      round = λ h.
          let last : (length xs - 1) + 1 ≡ 1 * length xs + 0 = omega arith in
          omega (
            arith,
            each (length xs - 1),
            at_first (length xs - 1) (omega arith),
            ap (repeating t xs) last,
            at_block 1 0 some,
          );
    }

-- a sum passes a number at some place
crossing : (f : ℕ → ℕ) (lead wanted n : ℕ) → lead + f 0 < wanted → wanted ≤ lead + f n →
    (j : ℕ) × (lead + f j < wanted) × (wanted ≤ lead + f (j + 1))
crossing f lead wanted zero low high = absurd (omega arith)
crossing f lead wanted (suc n) low high =
    cross_step f lead wanted n high (λ h. crossing f lead wanted n low h) (cases_lt (lead + f n) wanted)
  where
    cross_step : (f : ℕ → ℕ) (lead wanted n : ℕ) → wanted ≤ lead + f (suc n) →
        (wanted ≤ lead + f n → (j : ℕ) × (lead + f j < wanted) × (wanted ≤ lead + f (j + 1))) →
        (lead + f n < wanted) ⊎ (wanted ≤ lead + f n) →
        (j : ℕ) × (lead + f j < wanted) × (wanted ≤ lead + f (j + 1))
    cross_step f lead wanted n high ih (inl less) =
        let next : suc n ≡ n + 1 = omega arith in (n, less, omega (arith, high, ap f next))
    cross_step f lead wanted n high ih (inr up) = ih up

-- the two ends of a channel: firing k at one end waits for firing i at the other if first + b i is less than a (k + 1)
module _ (a b : ℕ → ℕ) (whole t : ℕ) (xs ys : List ℕ) (some : 0 < whole) (fires : 0 < length xs)
    (fires_there : 0 < length ys)
    (a_later : (m k : ℕ) → sum_to a (m * length xs + k) ≡ m * whole + sum_to a k)
    (b_later : (m k : ℕ) → sum_to b (m * length ys + k) ≡ m * whole + sum_to b k) where
  abbrev Awaited : ℕ → ℕ → ℕ → Type 0
  Awaited first k i = first + sum_to b i < sum_to a (k + 1)

  module _ (first w : ℕ) where
    parts : first / whole * whole + first % whole ≡ first
    parts = div-add-mod' first whole

    next_later : (m k : ℕ) → sum_to a ((m * length xs + k) + 1) ≡ m * whole + sum_to a (k + 1)
    next_later m k = let e : (m * length xs + k) + 1 ≡ m * length xs + (k + 1) = omega arith in
        ap (sum_to a) e ∙ a_later m (k + 1)

    pub link_if : ((k i : ℕ) → Awaited first k i → repeating t ys i + w ≤ repeating t xs k) →
        IsLinkInTime a b (first % whole) whole (first / whole) xs ys w t
    link_if each k j l last =
        let m : ℕ = 1 + first / whole in
        let later = next_later (1 + first / whole) k in
        let waits : Awaited first ((1 + first / whole) * length xs + k) j = omega (arith, later, parts, last.0) in
        let low = each ((1 + first / whole) * length xs + k) j waits in
        omega (arith, low, at_block t xs (1 + first / whole) k l)

    module _ (pause : ℕ) (turn : AreInTurn ys pause t)
        (link : IsLinkInTime a b (first % whole) whole (first / whole) xs ys w t) where
      pub if_link : (k i : ℕ) → Awaited first k i → repeating t ys i + w ≤ repeating t xs k
      if_link k i waits =
          go (k / length xs) (k % length xs) (mod_below k (length xs) fires) (div-add-mod' k (length xs))
        where
          go : (m r : ℕ) → r < length xs → m * length xs + r ≡ k → repeating t ys i + w ≤ repeating t xs k
          go m r l is =
              let twice : sum_to b (2 * length ys + 0) ≡ 2 * whole + sum_to b 0 = b_later 2 0 in
              let plain : 2 * length ys ≡ 2 * length ys + 0 = omega arith in
              let one : 1 * length xs + 0 ≡ length xs = omega arith in
              let turn_round : sum_to a (length xs) ≡ whole + sum_to a 0 =
              ap (sum_to a) (sym one) ∙ (a_later 1 0 ∙ omega arith) in
              let within = sums_rise a (r + 1) (length xs) (omega arith) in
              let x = crossing (sum_to b) (first % whole) (whole + sum_to a (r + 1)) (2 * length ys)
              (omega (arith, mod_below first whole some))
              (omega (arith, twice, ap (sum_to b) plain, within, turn_round)) in
              at_last m r l is x.0 x.1 x.2
            where
              at_last : (m r : ℕ) → r < length xs → m * length xs + r ≡ k → (j : ℕ) →
                  first % whole + sum_to b j < whole + sum_to a (r + 1) →
                  whole + sum_to a (r + 1) ≤ first % whole + sum_to b (j + 1) →
                  repeating t ys i + w ≤ repeating t xs k
              at_last m r l is j low high =
                  let e : ℕ = first / whole in
                  let here = link r j l (low, high) in
                  let k_is : sum_to a (k + 1) ≡ m * whole + sum_to a (r + 1) =
                  ap (λ k. sum_to a (k + 1)) (sym is) ∙ next_later m r in
                  let up : sum_to b ((1 + first / whole) * length ys + i) ≡ (1 + first / whole) * whole + sum_to b i =
                  b_later (1 + first / whole) i in
                  let end : sum_to b (m * length ys + (j + 1)) ≡ m * whole + sum_to b (j + 1) = b_later m (j + 1) in
                  let less : sum_to b ((1 + first / whole) * length ys + i) < sum_to b (m * length ys + (j + 1)) =
                  omega (arith, up, end, k_is, waits, high, parts) in
                  let order : (1 + first / whole) * length ys + i ≤ m * length ys + j = below less in
                  let rise = rises t ys fires_there pause turn ((1 + first / whole) * length ys + i)
                  ((m * length ys + j) - ((1 + first / whole) * length ys + i)) in
                  let sum : ((m * length ys + j) - ((1 + first / whole) * length ys + i))
                  + ((1 + first / whole) * length ys + i) ≡ m * length ys + j = omega arith in
                  let x_is : repeating t xs k ≡ get_or xs r 0 + t * m =
                  ap (repeating t xs) (sym is) ∙ at_block t xs m r l in
                  omega (
                    arith,
                    here,
                    rise,
                    ap (repeating t ys) sum,
                    x_is,
                    later_at t ys fires_there (1 + first / whole) i,
                    later_at t ys fires_there m j,
                  )
                where
                  below : sum_to b ((1 + first / whole) * length ys + i) < sum_to b (m * length ys + (j + 1)) →
                      (1 + first / whole) * length ys + i ≤ m * length ys + j
                  below less = order (cases_lt ((1 + first / whole) * length ys + i) (m * length ys + (j + 1)))
                    where
                      order : ((1 + first / whole) * length ys + i < m * length ys + (j + 1))
                          ⊎ (m * length ys + (j + 1) ≤ (1 + first / whole) * length ys + i) →
                          (1 + first / whole) * length ys + i ≤ m * length ys + j
                      order (inl l) = omega arith
                      order (inr h) = absurd (omega (
                        arith,
                        sums_rise b (m * length ys + (j + 1))
                            ((1 + first / whole) * length ys + i) h,
                      ))
