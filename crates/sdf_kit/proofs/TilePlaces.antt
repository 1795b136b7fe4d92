-- Where a vector of a turn reads and writes, and what it gives.
use Rattle.std.proofs.Common.{◌≡◌, ℕ, ◌+◌, ◌*◌, ◌/◌, ◌%◌, ◌<◌, ◌≤◌, ℤ, pos, List, length, take, drop, get_or}
use Rattle.std.proofs.Common.{ap}
use Rattle.std.proofs.Common.{◌∙◌, arith}
use Rattle.std.proofs.lemmas.Nat.{row_fits}
use Rattle.std.proofs.lemmas.List.{length-take-le, length-drop, get_or-take, get_or-drop}
use Rattle.std.proofs.Math.Nat.{add-mul, mul_assoc, mul_right_comm, mul-le-mul_right}
use Rattle.sdf_kit.specs.Samples.{upsampled}
use Rattle.sdf_kit.specs.Fir.{convolved}
use Rattle.sdf_kit.specs.Tiles.{AreTiles, row_at, keep_of, whole_output, tile_sum, tile_tap}
use Rattle.sdf_kit.specs.declared.tiles.Tiles.{Tiles}
use Rattle.sdf_kit.proofs.TileLaw.{tile_is}

module _ (t : Tiles) (taps x row : List ℤ) (up down done many len v : ℕ) (are : AreTiles taps up down t)
    (some_up : 1 ≤ up) (some_down : 1 ≤ down) (v_low : v < t.vectors) (turn : done + 4 * t.firings ≤ many)
    (samples : many * down + keep_of taps up ≤ len) (room : len + 2 ≤ length x) (row_is : row ≡ row_at t v) where
  abbrev step : ℕ
  step = t.firings * down

  abbrev stride : ℕ
  stride = t.firings * up

  row_room : v * (16 * t.pairs) + 16 * t.pairs ≤ t.vectors * (16 * t.pairs)
  row_room = row_fits v (16 * t.pairs) t.vectors (16 * t.pairs) v_low (omega arith)

  pub row_long : length row ≡ 16 * t.pairs
  row_long =
      ap length row_is ∙ length-take-le (16 * t.pairs) (drop (v * (16 * t.pairs)) t.table.items)
      (omega (arith, row_room, are.long, length-drop (v * (16 * t.pairs)) t.table.items))

  row_taps : (l i : ℕ) → l < 8 → i < 2 * t.pairs →
      get_or row (16 * (i / 2) + (2 * l + i % 2)) (pos 0) ≡ tile_tap taps up down v l i
  row_taps l i low few =
      let place : ℕ = 16 * (i / 2) + (2 * l + i % 2) in
      ap (λ xs. get_or xs place (pos 0)) row_is
      ∙ (get_or-take (16 * t.pairs) (drop (v * (16 * t.pairs)) t.table.items) place (pos 0) (omega arith)
      ∙ (get_or-drop (v * (16 * t.pairs)) t.table.items place (pos 0) ∙ are.are v l i v_low low few))

  -- the firings of a turn, at both rates
  turn_down : done * down + 4 * step ≤ many * down
  turn_down =
      let most : (done + 4 * t.firings) * down ≤ many * down = mul-le-mul_right down turn in
      let parts : (done + 4 * t.firings) * down ≡ done * down + 4 * t.firings * down =
      add-mul done (4 * t.firings) down in
      let turned : 4 * t.firings * down ≡ 4 * (t.firings * down) = mul_assoc 4 t.firings down in
      omega arith

  turn_up : done * up + 4 * stride ≤ many * up
  turn_up =
      let most : (done + 4 * t.firings) * up ≤ many * up = mul-le-mul_right up turn in
      let parts : (done + 4 * t.firings) * up ≡ done * up + 4 * t.firings * up = add-mul done (4 * t.firings) up in
      let turned : 4 * t.firings * up ≡ 4 * (t.firings * up) = mul_assoc 4 t.firings up in
      omega arith

  pub set_room : 8 * v + 8 ≤ stride
  set_room = let s = are.set in omega arith

  pub window_room : done * down + 8 * v * down / up + 3 * step + length row / 8 ≤ length x
  window_room =
      let long = row_long in
      let eighth : length row / 8 ≡ 2 * t.pairs = omega (arith, long) in
      let w = (are.windows v v_low).room in
      let d = turn_down in
      omega arith

  pub places : done * up + 8 * v + 3 * stride + 8 ≤ many * up
  places = let u = turn_up in let s = set_room in omega arith

  base : (w : ℕ) → (done + w * t.firings) * down ≡ done * down + w * step
  base w = add-mul done (w * t.firings) down ∙ ap (λ n. done * down + n) (mul_assoc w t.firings down)

  pub output_low : (w l : ℕ) → w < 4 → l < 8 → (done + w * t.firings) * up + (8 * v + l) < many * up
  output_low w l few low =
      let sets : (done + w * t.firings) * up ≡ done * up + w * stride =
      add-mul done (w * t.firings) up ∙ ap (λ n. done * up + n) (mul_assoc w t.firings up) in
      let above : w * stride ≤ 3 * stride = mul-le-mul_right stride (let h : w ≤ 3 = omega arith in h) in
      let u = places in
      omega arith

  pub value : (w l : ℕ) → w < 4 → l < 8 →
      tile_sum row x (done * down + 8 * v * down / up + w * step) l ≡
      whole_output taps up down (take len x) ((done + w * t.firings) * up + (8 * v + l))
  value w l few low =
      let b : ℕ = done * down + w * step in
      let there : done * down + 8 * v * down / up + w * step ≡ b + 8 * v * down / up = omega arith in
      let above : w * step ≤ 3 * step = mul-le-mul_right step (let h : w ≤ 3 = omega arith in h) in
      let d = turn_down in
      let parts : ((done + w * t.firings) * up + (8 * v + l)) * down ≡
      (done + w * t.firings) * up * down + (8 * v + l) * down =
      add-mul ((done + w * t.firings) * up) (8 * v + l) down in
      let crossed : (done + w * t.firings) * up * down ≡ (done + w * t.firings) * down * up =
      mul_right_comm (done + w * t.firings) up down in
      let based : (done + w * t.firings) * down * up ≡ b * up = ap (λ n. n * up) (base w) in
      let place : keep_of taps up * up + (b * up + (8 * v + l) * down) ≡
      keep_of taps up * up + ((done + w * t.firings) * up + (8 * v + l)) * down = omega arith in
      ap (λ n. tile_sum row x n l) there
      ∙ (tile_is taps row x up down t.firings t.pairs v l b len some_up some_down low set_room
      (are.windows v v_low).whole row_long (λ i h. row_taps l i low h) (omega arith)
      ∙ ap (convolved taps (upsampled up (take len x))) place)
