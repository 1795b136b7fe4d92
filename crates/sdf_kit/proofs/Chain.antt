-- A filter between rates is a filter at the higher rate, after one that interpolates and before one that decimates.
use Rattle.std.proofs.Common.{◌≡◌, ℕ, suc, ◌+◌, ◌*◌, ◌<◌, ◌≤◌, ℤ, pos, List, length, map, sym, ◌∙◌, ap, arith}
use Rattle.std.specs.List.{range_with_len}
use Rattle.std.proofs.lemmas.List.FromFn.{fill_by_all, length-map-range_with_len, get_or-map-range_with_len}
use Rattle.std.proofs.Math.Nat.{suc-mul, mul-le-mul_right, mul_right_comm, mul-one}
use Rattle.sdf_kit.specs.Samples.{rescaled, sample, upsampled}
use Rattle.sdf_kit.specs.Fir.{Filter, convolved, filtered}
use Rattle.sdf_kit.specs.PutsFit.{sum_rates, sum_ones}
use Rattle.sdf_kit.specs.Formulas.{formula_list, FirIsChain}
use Rattle.sdf_kit.specs.declared.kit.Kit.TheVariants.{Fir, Decimate, Interpolate}
use Rattle.sdf_kit.proofs.Weighted.{weighted_moved, convolved_is}
use Rattle.sdf_kit.proofs.Upsampled.{upsampled_at}

pub same_maps : (f g : ℕ → ℤ) (n : ℕ) → ((k : ℕ) → k < n → f k ≡ g k) →
    map f (range_with_len 0 n) ≡ map g (range_with_len 0 n)
same_maps f g n same =
    fill_by_all g (map f (range_with_len 0 n)) n (pos 0) (length-map-range_with_len f 0 n)
    (λ k l. get_or-map-range_with_len f 0 n k k (pos 0) l (omega arith) ∙ same k l)

module _ (f : Filter) (some_up : 1 ≤ f.up) (some_down : 1 ≤ f.down) (x : List ℤ) where
  -- at the higher rate
  abbrev flat : Filter
  flat = record { up = 1; down = 1; taps = f.taps; shift = f.shift }

  abbrev size : ℕ
  size = length x * f.up

  abbrev spaced_out : List ℤ
  spaced_out = map (upsampled f.up x) (range_with_len 0 size)

  abbrev filtered_out : List ℤ
  filtered_out = map (filtered flat spaced_out) (range_with_len 0 size)

  here : (i : ℕ) → i < size → upsampled f.up x i ≡ upsampled 1 spaced_out i
  here i l =
      let one : i * 1 ≡ i = mul-one i in
      sym (get_or-map-range_with_len (upsampled f.up x) 0 size i i (pos 0) l (omega arith)) ∙
      (sym (upsampled_at spaced_out 1 i (omega arith)) ∙ ap (upsampled 1 spaced_out) one)

  same_sum : (t : ℕ) → t < size → convolved f.taps (upsampled f.up x) t ≡
      convolved f.taps (upsampled 1 spaced_out) (t * 1)
  same_sum t l =
      let one : t * 1 ≡ t = mul-one t in
      convolved_is f.taps (upsampled f.up x) t ∙
      (weighted_moved f.taps (upsampled f.up x) (upsampled 1 spaced_out) 0 t (t * 1) (omega arith)
      (λ i j h e. let same : i ≡ j = omega arith in here i (omega arith) ∙ ap (upsampled 1 spaced_out) same)
      (λ i h r. absurd (omega arith)) ∙
      sym (convolved_is f.taps (upsampled 1 spaced_out) (t * 1)))

  each : (m k : ℕ) → length x ≡ m * f.down → k < m * f.up → filtered f x k ≡ sample filtered_out (k * f.down)
  each m k e l =
      let more : suc k * f.down ≡ k * f.down + f.down = suc-mul k f.down in
      let most : suc k * f.down ≤ m * f.up * f.down = mul-le-mul_right f.down l in
      let crossed : m * f.up * f.down ≡ m * f.down * f.up = mul_right_comm m f.up f.down in
      let wide : m * f.down * f.up ≡ size = ap (λ n. n * f.up) (sym e) in
      let in_size : k * f.down < size = omega arith in
      ap (λ z. rescaled z f.shift) (same_sum (k * f.down) in_size) ∙
      sym (get_or-map-range_with_len (filtered flat spaced_out) 0 size (k * f.down) (k * f.down) (pos 0)
      in_size (omega arith))

  spaced_is : formula_list (Interpolate f.up) (λ q. x) 0 (length x) ≡ spaced_out
  spaced_is = ap (λ n. map (upsampled f.up x) (range_with_len 0 n)) (sum_rates f.up 0 (length x))

  flat_is : (u : List ℤ) (n : ℕ) → formula_list (Fir flat) (λ q. u) 0 n ≡ map (filtered flat u) (range_with_len 0 n)
  flat_is u n = ap (λ n. map (filtered flat u) (range_with_len 0 n)) (sum_ones 0 n)

  kept_is : (v : List ℤ) (n : ℕ) → formula_list (Decimate f.down) (λ q. v) 0 n ≡
      map (λ k. sample v (k * f.down)) (range_with_len 0 n)
  kept_is v n = ap (λ n. map (λ k. sample v (k * f.down)) (range_with_len 0 n)) (sum_ones 0 n)

  chain : (m : ℕ) → length x ≡ m * f.down →
      formula_list (Fir f) (λ q. x) 0 m ≡
      formula_list (Decimate f.down) (λ q. formula_list (Fir flat)
      (λ q. formula_list (Interpolate f.up) (λ q. x) 0 (length x)) 0 (length x * f.up)) 0 (m * f.up)
  chain m e =
      ap (λ n. map (filtered f x) (range_with_len 0 n)) (sum_rates f.up 0 m) ∙
      (same_maps (filtered f x) (λ k. sample filtered_out (k * f.down)) (m * f.up) (λ k l. each m k e l) ∙
      (sym (kept_is filtered_out (m * f.up)) ∙
      (ap (λ v. formula_list (Decimate f.down) (λ q. v) 0 (m * f.up)) (sym (flat_is spaced_out size)) ∙
      ap (λ u. formula_list (Decimate f.down) (λ q. formula_list (Fir flat) (λ q. u) 0 size) 0 (m * f.up))
      (sym spaced_is))))

pub fir_is_chain : FirIsChain
fir_is_chain f some_up some_down x m e = chain f some_up some_down x m e
