-- The weights of rows of taps.
use Rattle.std.proofs.Common.{◌≡◌, ℕ, zero, suc, ◌+◌, ◌-◌, ◌*◌, ◌<◌, ◌≤◌, ℤ, List}
use Rattle.std.proofs.Common.{length, take, drop, get_or, sym, ap, subst, ◌∙◌, ◌++◌, arith}
use Rattle.std.specs.Prelude.{sum}
use Rattle.std.proofs.lemmas.List.Sums.{sum_by_more}
use Rattle.std.proofs.lemmas.Nat.{row_fits}
use Rattle.std.proofs.lemmas.List.{take-take, drop-drop, drop-take, take_all, take-append-le, length-take-le}
use Rattle.std.proofs.lemmas.List.{length-drop, get_or-drop}
use Rattle.sdf_kit.specs.Stretches.{weight, weight_of}
use Rattle.sdf_kit.specs.Tiles.{row_of, AreRowStretches, AreSpans}

-- sixteen taps of a row
row_chunk : (table : List ℤ) (pairs v m : ℕ) → m < pairs →
    take 16 (drop (16 * m) (row_of table pairs v)) ≡ take 16 (drop (v * (16 * pairs) + 16 * m) table)
row_chunk table pairs v m low =
    let whole : 16 * m + (16 * pairs - 16 * m) ≡ 16 * pairs = omega arith in
    let room : 16 ≤ 16 * pairs - 16 * m = omega arith in
    ap (λ n. take 16 (drop (16 * m) (take n (drop (v * (16 * pairs)) table)))) (sym whole)
    ∙ (ap (take 16) (drop-take (16 * m) (16 * pairs - 16 * m) (drop (v * (16 * pairs)) table))
    ∙ (take-take 16 (16 * pairs - 16 * m) (drop (16 * m) (drop (v * (16 * pairs)) table)) room
    ∙ ap (take 16) (drop-drop (16 * m) (v * (16 * pairs)) table)))

sum_more : (xs : List ℕ) (n : ℕ) → n < length xs → sum (take (suc n) xs) ≡ sum (take n xs) + get_or xs n 0
sum_more xs n low =
    let one : suc n ≡ n + 1 = omega arith in
    ap (λ m. sum (take m xs)) one ∙ sum_by_more (λ x. x) xs n 0 low

module _ (table : List ℤ) (weights : List ℕ) (vectors pairs : ℕ) (many : length weights ≡ pairs)
    (room : length table ≡ vectors * (16 * pairs))
    (heavy : (v k : ℕ) → v < vectors → k < pairs →
    weight (take 16 (drop (v * (16 * pairs) + 16 * k) table)) ≤ get_or weights k 0) where
  rows_weigh : (v k n : ℕ) → v < vectors → k + n ≤ pairs →
      weight_of n (drop (16 * k) (row_of table pairs v)) ≤ sum (take n (drop k weights))
  rows_weigh v k zero low few = omega arith
  rows_weigh v k (suc n) low few =
      let ih = rows_weigh v k n low (omega arith) in
      let place : 16 * k + 16 * n ≡ 16 * (k + n) = omega arith in
      let chunk : take 16 (drop (16 * n) (drop (16 * k) (row_of table pairs v))) ≡
      take 16 (drop (v * (16 * pairs) + 16 * (k + n)) table) =
      ap (take 16) (drop-drop (16 * n) (16 * k) (row_of table pairs v) ∙ ap (λ m. drop m (row_of table pairs v)) place)
      ∙ row_chunk table pairs v (k + n) (omega arith) in
      let here : weight (take 16 (drop (16 * n) (drop (16 * k) (row_of table pairs v)))) ≤ get_or weights (k + n) 0 =
      subst (λ c. weight c ≤ get_or weights (k + n) 0) (sym chunk) (heavy v (k + n) low (omega arith)) in
      let more = sum_more (drop k weights) n (omega (arith, length-drop k weights, many)) in
      let at = get_or-drop k weights n 0 in
      omega arith

  row_long : (v : ℕ) → v < vectors → length (row_of table pairs v) ≡ 16 * pairs
  row_long v low =
      let fits : v * (16 * pairs) + 16 * pairs ≤ vectors * (16 * pairs) =
      row_fits v (16 * pairs) vectors (16 * pairs) low (omega arith) in
      length-take-le (16 * pairs) (drop (v * (16 * pairs)) table)
      (omega (arith, room, length-drop (v * (16 * pairs)) table))

  pub rows_are : (stretches : List ℕ) → length stretches ≡ pairs → pairs ≤ 1024 →
      AreSpans weights stretches (length weights) → (v : ℕ) → v < vectors →
      AreRowStretches (row_of table pairs v) stretches
  rows_are stretches long few spans v low = record {
    many = row_long v low ∙ ap (λ n. 16 * n) (sym long);
    few = omega (arith, long);
    some = λ k h. spans.some k (omega (arith, long, many));
    each = λ k h.
        let inside = spans.within k (omega (arith, long, many)) in
        let light = spans.light k (omega (arith, long, many)) in
        let heavy = rows_weigh v k (get_or stretches k 0) low (omega (arith, many, inside)) in
        record {
          within = omega (arith, inside, many, length-drop (16 * k) (row_of table pairs v), row_long v low);
          stretch = omega (arith, light, heavy);
        };
  }

  pub total_is : (stretches : List ℕ) (most : ℕ) → length stretches ≡ pairs → sum weights ≤ most → (v : ℕ) →
      v < vectors → weight_of (length stretches) (row_of table pairs v) ≤ most
  total_is stretches most long few v low =
      let heavy = rows_weigh v 0 pairs low (omega arith) in
      let all : take pairs (drop 0 weights) ≡ weights = take_all pairs weights (omega (arith, many)) in
      let sums : sum (take pairs (drop 0 weights)) ≡ sum weights = ap sum all in
      subst (λ n. weight_of n (row_of table pairs v) ≤ most) (sym long) (omega arith)

-- a vector whose items were all written
pub written_back : (n : ℕ) (new old : List ℕ) → length new ≡ n → take n (new ++ drop (length new) old) ≡ new
written_back n new old long =
    take-append-le n new (drop (length new) old) (omega (arith, long)) ∙ take_all n new (omega (arith, long))
