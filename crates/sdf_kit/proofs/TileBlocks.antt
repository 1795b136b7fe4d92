-- Blocks of firings by tiles: their sums are those of the branches, and small where no sample exceeds the peak.
use Rattle.std.proofs.Common.{◌≡◌, ℕ, ◌+◌, ◌-◌, ◌*◌, ◌/◌, ◌%◌, ◌<◌, ◌≤◌, ℤ, pos, List, ◌++◌, length, map, take, drop}
use Rattle.std.proofs.Common.{replicate, unsigned_abs, sym, ◌∙◌, ap, subst, arith}
use Rattle.std.specs.List.{range_with_len}
use Rattle.std.proofs.lemmas.Nat.{mod_below}
use Rattle.std.proofs.lemmas.List.{length-append, length-replicate}
use Rattle.std.proofs.Math.Seq.{drop-append_seam}
use Rattle.sdf_kit.specs.Samples.{rescaled, upsampled}
use Rattle.sdf_kit.specs.Fir.{convolved, run_put}
use Rattle.sdf_kit.specs.Dots.{dot, total_abs, AreWithin}
use Rattle.sdf_kit.specs.Branches.{AreBranches, branch, branch_at}
use Rattle.sdf_kit.specs.Tiles.{keep_of, whole_output}
use Rattle.sdf_kit.specs.declared.branches.Branches.{Branches}
use Rattle.sdf_kit.proofs.Phases.{window_dot}
use Rattle.sdf_kit.proofs.Blocks.{newest_in}
use Rattle.sdf_kit.proofs.Windows.{within_part}
use Rattle.sdf_kit.proofs.Exact.{bound}

module _ (taps : List ℤ) (b : Branches) (up down shift many : ℕ) (kept taken samples : List ℤ)
    (are : AreBranches taps up b) (some_up : 1 ≤ up) (some_down : 1 ≤ down) (long : length kept ≡ keep_of taps up)
    (size : length taken ≡ many * down)
    (samples_are : samples ≡ replicate (b.width - 1 - keep_of taps up) (pos 0) ++ (kept ++ taken)) where
  abbrev pad : ℕ
  pad = b.width - 1 - keep_of taps up

  zeros : length (replicate pad (pos 0)) ≡ pad
  zeros = length-replicate pad (pos 0)

  whole : length (kept ++ taken) ≡ keep_of taps up + many * down
  whole = let l = length-append kept taken in omega (arith, long, size)

  pub samples_long : length samples ≡ pad + (keep_of taps up + many * down)
  samples_long =
      ap length samples_are ∙ (length-append (replicate pad (pos 0)) (kept ++ taken)
      ∙ (let w = whole in let z = zeros in omega arith))

  pub tail : drop pad samples ≡ kept ++ taken
  tail =
      ap (drop pad) samples_are
      ∙ (ap (λ n. drop n (replicate pad (pos 0) ++ (kept ++ taken))) (sym zeros)
      ∙ drop-append_seam (replicate pad (pos 0)) (kept ++ taken))

  dot_is : (n : ℕ) → n < many * up →
      dot (branch_at b (n * down % up)) (take b.width (drop (n * down / up) samples)) ≡
      whole_output taps up down (kept ++ taken) n
  dot_is n l =
      let phase : n * down % up < up = mod_below (n * down) up some_up in
      let newest = newest_in up down many n some_up some_down l in
      let reach = are.reach in
      let w = whole in
      let turned : n * down + keep_of taps up * up ≡ keep_of taps up * up + n * down = omega arith in
      ap (λ h. dot h (take b.width (drop (n * down / up) samples))) (are.are (n * down % up) phase)
      ∙ (ap (λ s. dot (branch taps up (n * down % up) b.width) (take b.width (drop (n * down / up) s))) samples_are
      ∙ window_dot taps up some_up (kept ++ taken) pad b.width (keep_of taps up * up + n * down) (n * down)
      (omega arith) turned (omega arith))

  pub small : AreWithin b.limits.peak samples → (n : ℕ) → n < many * up →
      unsigned_abs (whole_output taps up down (drop pad samples) n) ≤ 2147467263
  small within n l =
      let phase : n * down % up < up = mod_below (n * down) up some_up in
      let newest = newest_in up down many n some_up some_down l in
      let reach = are.reach in
      let s = samples_long in
      let quiet = (are.quiet.each (n * down % up) phase).quiet in
      let seen : AreWithin b.limits.peak (take b.width (drop (n * down / up) samples)) =
      within_part samples b.limits.peak (n * down / up) b.width within (omega arith) in
      let low : unsigned_abs (dot (branch_at b (n * down % up)) (take b.width (drop (n * down / up) samples))) ≤
      total_abs (branch_at b (n * down % up)) * b.limits.peak =
      bound (branch_at b (n * down % up)) (take b.width (drop (n * down / up) samples)) b.limits.peak seen in
      let same : whole_output taps up down (drop pad samples) n ≡
      dot (branch_at b (n * down % up)) (take b.width (drop (n * down / up) samples)) =
      ap (λ x. whole_output taps up down x n) tail ∙ sym (dot_is n l) in
      subst (λ z. unsigned_abs z ≤ 2147467263) (sym same) (omega arith)

  pub tiled : map (λ n. rescaled (whole_output taps up down (drop pad samples) n) shift)
      (range_with_len 0 (many * up)) ≡
      run_put (record { up = up; down = down; taps = taps; shift = shift }) many kept taken
  tiled =
      ap (λ (x : List ℤ). map (λ n. rescaled (whole_output taps up down x n) shift) (range_with_len 0 (many * up))) tail
      ∙ ap (λ k. map (λ n. rescaled (convolved taps (upsampled up (kept ++ taken)) (k * up + n * down)) shift)
      (range_with_len 0 (many * up))) (sym long)
