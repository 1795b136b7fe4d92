-- Windows: parts of samples, and dot products with them.
use Rattle.std.proofs.Common.{◌≡◌, ℕ, zero, suc, ◌+◌, ◌-◌, ◌*◌, ◌<◌, ◌≤◌, ℤ, pos, negsuc, ◌+ℤ◌, ◌-ℤ◌, ◌*ℤ◌, List, []}
use Rattle.std.proofs.Common.{◌∷◌, ◌++◌, length, map, take, drop, replicate, get_or, unsigned_abs, FitsSigned}
use Rattle.std.proofs.Common.{◌≤ℤ◌, ◌^◌, true, w32, w64, to_z, of_z, refl, sym, ap, subst, ◌∙◌, ◌⊎◌, arith, ⊎_elim}
use Rattle.std.specs.Int.{w16, int_shr}
use Rattle.std.proofs.lemmas.Int.{ints, fits_signed_from_abs, to_z-of_z, SFits-int_wrap}
use Rattle.std.specs.Simd.Lanes.{Each1}
use Rattle.sdf_kit.proofs.Branching.{each1}
use Rattle.std.proofs.lemmas.Bool.{cases_lt}
use Rattle.std.proofs.lemmas.Simd.{length-zip2, Each1-replicate, Each1-chunk}
use Rattle.std.proofs.lemmas.List.{length-take-le, length-drop, length-append, length-replicate, length-map}
use Rattle.std.proofs.lemmas.List.{get_or-take, get_or-drop, get_or-replicate, get_or_append_left, get_or-append_right}
use Rattle.std.proofs.lemmas.List.{ext_get_or}
use Rattle.sdf_kit.specs.Dots.{AreWithin, joined, dot, total_abs, wrap}
use Rattle.sdf_kit.specs.Samples.{rescaled}
use Rattle.sdf_kit.specs.Window.{WindowValue, part_as, AreHeld, held, seen, output_of, AreFit}
use Rattle.sdf_kit.specs.Stretches.{IsBranch}
use Rattle.sdf_kit.specs.declared.branches.Limits.{Limits}
use Rattle.sdf_kit.specs.declared.window.SampleForm.{SampleForm}
use Rattle.sdf_kit.specs.declared.window.SampleForm.TheVariants.{Quiet, Wide, Split}
use Rattle.sdf_kit.proofs.InStretches.{dot_small}
use Rattle.sdf_kit.specs.declared.window.Part.TheVariants.{Whole, High, Low}
use Rattle.sdf_kit.proofs.Exact.{bound, exact, split_exact}

drop_joined : (n : ℕ) (a b : List ℤ) → length a ≡ length b → drop n (joined a b) ≡ joined (drop n a) (drop n b)
drop_joined zero a b e = refl
drop_joined (suc n) [] [] e = refl
drop_joined (suc n) [] (y ∷ b) e = absurd (omega (arith, e))
drop_joined (suc n) (x ∷ a) [] e = absurd (omega (arith, e))
drop_joined (suc n) (x ∷ a) (y ∷ b) e = drop_joined n a b (omega (arith, e))

take_joined : (n : ℕ) (a b : List ℤ) → take n (joined a b) ≡ joined (take n a) (take n b)
take_joined zero a b = refl
take_joined (suc n) [] b = refl
take_joined (suc n) (x ∷ a) [] = refl
take_joined (suc n) (x ∷ a) (y ∷ b) = ap (λ z. ((pos 256 *ℤ x) +ℤ y) ∷ z) (take_joined n a b)

pub length_held : (form : SampleForm) (high low : List ℤ) (n : ℕ) (limits : Limits) → AreHeld form high low n limits →
    length (held form high low n) ≡ n
length_held Quiet high low n limits are = length-take-le n high are.high_room
length_held Wide high low n limits are = length-take-le n high are.high_room
length_held Split high low n limits are =
    let ha : length (take n high) ≡ n = length-take-le n high are.high_room in
    let hb : length (take n low) ≡ n = length-take-le n low are.low_room in
    length-zip2 (λ a b. (pos 256 *ℤ a) +ℤ b) (take n high) (take n low) (ha ∙ sym hb) ∙ ha

pub within_part : (xs : List ℤ) (m at len : ℕ) → AreWithin m xs → at + len ≤ length xs →
    AreWithin m (take len (drop at xs))
within_part xs m at len w room k l =
    let size : length (take len (drop at xs)) ≡ len =
    length-take-le len (drop at xs) (omega (arith, length-drop at xs)) in
    subst (λ z. unsigned_abs z ≤ m) (sym (get_or-take len (drop at xs) k (pos 0) (omega arith)
    ∙ get_or-drop at xs k (pos 0))) (w (at + k) (omega arith))

-- numbers within a peak have 16 bits
pub short_front : (xs : List ℤ) (peak : ℕ) → AreWithin peak xs → peak ≤ 32767 → Each1 (FitsSigned w16) xs
short_front xs peak w low = each1 (FitsSigned w16) xs
    (λ k l. let h : unsigned_abs (get_or xs k (pos 0)) ≤ peak = w k l in
    fits_signed_from_abs w16 (get_or xs k (pos 0)) (omega arith))

-- the numbers that are held have 16 bits
high_short : (form : SampleForm) (high low : List ℤ) (n : ℕ) (limits : Limits) → AreHeld form high low n limits →
    Each1 (FitsSigned w16) (take n high)
high_short Quiet high low n limits are = short_front (take n high) limits.peak are.within are.small
high_short Wide high low n limits are = are.within.1
high_short Split high low n limits are = short_front (take n high) limits.peak are.within.0 are.small

pub high_fits : {form : SampleForm} {high low x : List ℤ} {n : ℕ} {limits : Limits} → AreHeld form high low n limits →
    x ≡ take n high → Each1 (FitsSigned w16) x
high_fits {form} {high} {low} {x} {n} {limits} are is =
    subst (λ xs. Each1 (FitsSigned w16) xs) (sym is) (high_short form high low n limits are)

pub low_short : (high low : List ℤ) (n : ℕ) (limits : Limits) → AreHeld Split high low n limits →
    Each1 (FitsSigned w16) (take n low)
low_short high low n limits are = short_front (take n low) limits.peak are.within.1 are.small

-- where none of the samples is past the peak
quiet_value : (h high low : List ℤ) (n at : ℕ) (limits : Limits) → AreHeld Quiet high low n limits →
    total_abs h * limits.peak ≤ 2147467263 → at + length h ≤ length (take n high) →
    (wrap (dot h (seen h (take n high) at)) ≡ dot h (seen h (take n high) at))
    × (unsigned_abs (wrap (dot h (seen h (take n high) at))) ≤ 2147467263)
quiet_value h high low n at limits are quiet room =
    let part : List ℤ = take (length h) (drop at (take n high)) in
    let w : AreWithin limits.peak part = within_part (take n high) limits.peak at (length h) are.within room in
    let same : wrap (dot h part) ≡ dot h part = exact h part limits.peak w (omega arith) in
    let b : unsigned_abs (dot h part) ≤ total_abs h * limits.peak = bound h part limits.peak w in
    (same, subst (λ z. unsigned_abs z ≤ 2147467263) (sym same) (omega arith))

-- where upper bits and lowest ones are held
split_value : (h high low : List ℤ) (n at : ℕ) (limits : Limits) → AreHeld Split high low n limits →
    total_abs h * limits.peak ≤ 2147467263 → at + length h ≤ length (joined (take n high) (take n low)) →
    (pos 256 *ℤ wrap (dot h (seen h (take n high) at))) +ℤ wrap (dot h (seen h (take n low) at)) ≡
    dot h (seen h (joined (take n high) (take n low)) at)
split_value h high low n at limits are quiet room =
    let len : ℕ = length h in
    let peak : ℕ = limits.peak in
    let ha : length (take n high) ≡ n = length-take-le n high are.high_room in
    let hb : length (take n low) ≡ n = length-take-le n low are.low_room in
    let all : length (joined (take n high) (take n low)) ≡ n = length_held Split high low n limits are in
    let a : List ℤ = take len (drop at (take n high)) in
    let b : List ℤ = take len (drop at (take n low)) in
    let la : length a ≡ len = length-take-le len (drop at (take n high))
    (omega (arith, length-drop at (take n high))) in
    let lb : length b ≡ len = length-take-le len (drop at (take n low)) (omega (arith, length-drop at (take n low))) in
    let wa = within_part (take n high) peak at len are.within.0 (omega arith) in
    let wb = within_part (take n low) peak at len are.within.1 (omega arith) in
    let moved : take len (drop at (joined (take n high) (take n low))) ≡ joined a b =
    ap (take len) (drop_joined at (take n high) (take n low) (ha ∙ sym hb))
    ∙ take_joined len (drop at (take n high)) (drop at (take n low)) in
    split_exact h a b peak (la ∙ sym lb) wa wb (omega arith) ∙ sym (ap (dot h) moved)

-- a sum, as it is passed on
pub passed : (r z : ℤ) → r ≡ wrap z → to_z w32 (of_z w32 r) ≡ wrap z
passed r z e = ap (λ y. to_z w32 (of_z w32 y)) e ∙ to_z-of_z w32 (wrap z) (SFits-int_wrap w32 z)

-- an element of an array of sums
pub read : (sums : List ℤ) (i : ℕ) (z : ℤ) → get_or sums i (pos 0) ≡ wrap z →
    to_z w32 (of_z w32 (get_or sums i (pos 0))) ≡ wrap z
read sums i z e = passed (get_or sums i (pos 0)) z e

-- what is known of a window w whose samples are held in this form
module _ {form : SampleForm} {high low : List ℤ} {n : ℕ} {limits : Limits} (are : AreHeld form high low n limits)
    {w : WindowValue}
    (view : record { samples = held form high low n; limits = limits } ≡ w) {h : List ℤ} {lens : List ℕ}
    (branch : IsBranch w.limits h lens) where
  pub branch_held : IsBranch limits h lens
  branch_held = subst (λ (v : WindowValue). IsBranch v.limits h lens) (sym view) branch

  pub in_held : (at : ℕ) → at + length h ≤ length w.samples → at + length h ≤ length (held form high low n)
  in_held at room = subst (λ (v : WindowValue). at + length h ≤ length v.samples) (sym view) room

  pub held_are : (other : SampleForm) → form ≡ other → AreHeld other high low n limits
  held_are other e = subst (λ o. AreHeld o high low n limits) e are

  pub room_as : (other : SampleForm) → form ≡ other → (at : ℕ) → at + length h ≤ length w.samples →
      at + length h ≤ length (held other high low n)
  room_as other e at room = subst (λ o. at + length h ≤ length (held o high low n)) e (in_held at room)

  -- an output, told of what is held
  pub output_is : (other : SampleForm) → form ≡ other → {r : ℤ} (at shift : ℕ) → FitsSigned w32 r →
      r ≡ output_of h (held other high low n) at shift → to_z w32 (of_z w32 r) ≡ output_of h w.samples at shift
  output_is other e {r} at shift fits is =
      to_z-of_z w32 r fits ∙ (is ∙ (ap (λ o. output_of h (held o high low n) at shift) (sym e)
      ∙ ap (λ (v : WindowValue). output_of h v.samples at shift) view))

  -- where none of the samples x is past the peak, by a sum a
  pub quiet_small : form ≡ Quiet → {x : List ℤ} → x ≡ take n high → (a : ℤ) (at : ℕ) →
      at + length h ≤ length w.samples → to_z w32 (of_z w32 a) ≡ wrap (dot h (seen h x at)) →
      unsigned_abs (to_z w32 (of_z w32 a)) ≤ 2147467263
  quiet_small e {x} is a at room reads =
      subst (λ z. unsigned_abs z ≤ 2147467263) (sym (reads ∙ ap (λ y. wrap (dot h (seen h y at))) is))
      (quiet_value h high low n at limits (held_are Quiet e) branch_held.quiet (room_as Quiet e at room)).1

  pub quiet_output : form ≡ Quiet → {x : List ℤ} → x ≡ take n high → (a : ℤ) {r : ℤ} (at shift : ℕ) →
      at + length h ≤ length w.samples → to_z w32 (of_z w32 a) ≡ wrap (dot h (seen h x at)) →
      r ≡ rescaled (to_z w32 (of_z w32 a)) shift → FitsSigned w32 r →
      to_z w32 (of_z w32 r) ≡ output_of h w.samples at shift
  quiet_output e {x} is a {r} at shift room reads value fits =
      output_is Quiet e at shift fits (value ∙ ap (λ z. rescaled z shift) (reads
      ∙ (ap (λ y. wrap (dot h (seen h y at))) is
      ∙ (quiet_value h high low n at limits (held_are Quiet e) branch_held.quiet (room_as Quiet e at room)).0)))

  -- by a sum a in 64 bits
  pub wide_small : {x : List ℤ} → x ≡ take n high → (at : ℕ) → unsigned_abs (dot h (seen h x at)) ≤ 2 ^ 56
  wide_small {x} is at =
      let small = dot_small h (seen h x at) branch_held.vectors.short
      (Each1-chunk (FitsSigned w16) at (length h) x (high_fits are is)) in
      omega (arith, branch_held.vectors.few)

  pub wide_sent : {x : List ℤ} → x ≡ take n high → (at : ℕ) → {a : ℤ} → a ≡ dot h (seen h x at) →
      to_z w64 (of_z w64 a) ≡ dot h (seen h x at)
  wide_sent {x} is at {a} sums =
      let fits : FitsSigned w64 (dot h (seen h x at)) =
      fits_signed_from_abs w64 (dot h (seen h x at)) (omega (arith, wide_small is at)) in
      to_z-of_z w64 a (subst (FitsSigned w64) (sym sums) fits) ∙ sums

  pub wide_settles : {x : List ℤ} → x ≡ take n high → (at : ℕ) → {a : ℤ} → a ≡ dot h (seen h x at) →
      unsigned_abs (to_z w64 (of_z w64 a)) ≤ 2 ^ 56
  wide_settles is at sums = subst (λ z. unsigned_abs z ≤ 2 ^ 56) (sym (wide_sent is at sums)) (wide_small is at)

  pub wide_output : form ≡ Wide → {x : List ℤ} → x ≡ take n high → (a : ℤ) {r : ℤ} (at shift : ℕ) →
      a ≡ dot h (seen h x at) → r ≡ rescaled a shift → FitsSigned w32 r →
      to_z w32 (of_z w32 r) ≡ output_of h w.samples at shift
  wide_output e {x} is a {r} at shift reads value fits =
      output_is Wide e at shift fits (value ∙ ap (λ z. rescaled z shift)
      (reads ∙ ap (λ y. dot h (seen h y at)) is))

  -- by a sum a of the samples' upper bits x, and a sum b of their lowest ones y
  pub split_output : form ≡ Split → {x y : List ℤ} → x ≡ take n high → y ≡ take n low → (a b : ℤ) {r : ℤ}
      (at shift : ℕ) → at + length h ≤ length w.samples →
      to_z w32 (of_z w32 a) ≡ wrap (dot h (seen h x at)) → to_z w32 (of_z w32 b) ≡ wrap (dot h (seen h y at)) →
      r ≡ rescaled ((pos 256 *ℤ to_z w32 (of_z w32 a)) +ℤ to_z w32 (of_z w32 b)) shift → FitsSigned w32 r →
      to_z w32 (of_z w32 r) ≡ output_of h w.samples at shift
  split_output e {x} {y} is_high is_low a b {r} at shift room reads_high reads_low value fits =
      output_is Split e at shift fits (value ∙ ap (λ z. rescaled z shift)
      (ap (λ z. (pos 256 *ℤ z) +ℤ to_z w32 (of_z w32 b)) (reads_high ∙ ap (λ v. wrap (dot h (seen h v at))) is_high)
      ∙ (ap (λ z. (pos 256 *ℤ wrap (dot h (seen h (take n high) at))) +ℤ z)
      (reads_low ∙ ap (λ v. wrap (dot h (seen h v at))) is_low)
      ∙ split_value h high low n at limits (held_are Split e) branch_held.quiet (room_as Split e at room))))

-- the samples that are read from a window, themselves or their upper bits
pub front_long : {form : SampleForm} {high low x : List ℤ} {n : ℕ} {limits : Limits} → AreHeld form high low n limits →
    {w : WindowValue} → record { samples = held form high low n; limits = limits } ≡ w →
    (x ≡ take n high) ⊎ (x ≡ take n low) → length x ≡ length w.samples
front_long {form} {high} {low} {x} {n} {limits} are view is =
    ⊎_elim (λ e. ap length e ∙ length-take-le n high are.high_room)
    (λ e. ap length e ∙ length-take-le n low are.low_room) is
    ∙ (sym (length_held form high low n limits are) ∙ ap (λ (v : WindowValue). length v.samples) view)

-- the parts of what is within a peak are within it
pub high_small : (x : ℤ) (peak : ℕ) → unsigned_abs x ≤ 255 * peak → unsigned_abs (part_as High x) ≤ peak
high_small (pos n) peak h = omega (arith, h)
high_small (negsuc n) peak h = omega (arith, h)

pub low_small : (x : ℤ) (peak : ℕ) → 255 ≤ peak → unsigned_abs (part_as Low x) ≤ peak
low_small (pos n) peak h = omega (arith, ints)
low_small (negsuc n) peak h = omega (arith, ints)

mapped : (f : ℤ → ℤ) (xs : List ℤ) (k : ℕ) → k < length xs → get_or (map f xs) k (pos 0) ≡ f (get_or xs k (pos 0))
mapped f [] k l = absurd (omega arith)
mapped f (x ∷ xs) zero l = refl
mapped f (x ∷ xs) (suc k) l = mapped f xs k (omega arith)

-- parts of all samples of a window are within the peak where those of the samples kept and taken are
module _ (f : ℤ → ℤ) (pad peak : ℕ) (none : f (pos 0) ≡ pos 0) where
  abbrev Each : List ℤ → Type 0
  Each xs = (k : ℕ) → k < length xs → unsigned_abs (f (get_or xs k (pos 0))) ≤ peak

  both : (xs ys : List ℤ) → Each xs → Each ys → Each (xs ++ ys)
  both xs ys a b k l =
      let size = length-append xs ys in
      ⊎_elim (λ h. subst (λ z. unsigned_abs (f z) ≤ peak) (sym (get_or_append_left xs ys (pos 0) k h)) (a k h))
      (λ h. subst (λ z. unsigned_abs (f z) ≤ peak) (sym (get_or-append_right xs ys (length xs) k (pos 0) refl h))
      (b (k - length xs) (omega arith)))
      (cases_lt k (length xs))

  zeros : Each (replicate pad (pos 0))
  zeros k l =
      let size = length-replicate pad (pos 0) in
      let z : f (get_or (replicate pad (pos 0)) k (pos 0)) ≡ pos 0 =
      ap f (get_or-replicate pad k (pos 0) (pos 0) (omega arith)) ∙ none in
      subst (λ z. unsigned_abs z ≤ peak) (sym z) (omega arith)

  within : (xs : List ℤ) → Each xs → AreWithin peak (map f xs)
  within xs each k l =
      let size = length-map xs f in
      subst (λ z. unsigned_abs z ≤ peak) (sym (mapped f xs k (omega arith))) (each k (omega arith))

  pub parts_within : (kept taken : List ℤ) → Each kept → Each taken →
      AreWithin peak (map f (replicate pad (pos 0) ++ (kept ++ taken)))
  parts_within kept taken old new = within (replicate pad (pos 0) ++ (kept ++ taken))
      (both (replicate pad (pos 0)) (kept ++ taken) zeros (both kept taken old new))

-- the parts make the samples
pub parts_join : (xs : List ℤ) → joined (map (part_as High) xs) (map (part_as Low) xs) ≡ xs
parts_join [] = refl
parts_join (x ∷ xs) =
    let first : (pos 256 *ℤ int_shr x 8) +ℤ (x -ℤ (pos 256 *ℤ int_shr x 8)) ≡ x = omega (arith, ints) in
    let rest : joined (map (part_as High) xs) (map (part_as Low) xs) ≡ xs = parts_join xs in
    rw (first, rest) refl

-- zeros, the parts of the samples kept, and those of the samples taken, each written at its place
module _ (f : ℤ → ℤ) (pad : ℕ) (kept taken : List ℤ) (none : f (pos 0) ≡ pos 0) where
  abbrev all : List ℤ
  all = replicate pad (pos 0) ++ (kept ++ taken)

  abbrev n : ℕ
  n = pad + (length kept + length taken)

  size : length all ≡ n
  size = length-append (replicate pad (pos 0)) (kept ++ taken)
      ∙ (let a = length-replicate pad (pos 0) in let b = length-append kept taken in omega arith)

  value : (first second third : List ℤ) → ((k : ℕ) → k < pad → get_or first k (pos 0) ≡ pos 0) →
      ((k : ℕ) → k < length kept → get_or second (pad + k) (pos 0) ≡ f (get_or kept k (pos 0))) →
      ((k : ℕ) → k < pad → get_or second k (pos 0) ≡ get_or first k (pos 0)) →
      ((k : ℕ) → k < length taken → get_or third (pad + length kept + k) (pos 0) ≡ f (get_or taken k (pos 0))) →
      ((k : ℕ) → k < pad + length kept → get_or third k (pos 0) ≡ get_or second k (pos 0)) →
      (k : ℕ) → k < n → get_or third k (pos 0) ≡ f (get_or all k (pos 0))
  value first second third zeros w2 b2 w3 b3 k l = ⊎_elim
      (λ h. let pads = length-replicate pad (pos 0) in
      b3 k (omega arith) ∙ (b2 k h ∙ (zeros k h ∙ sym
      (ap f (get_or_append_left (replicate pad (pos 0)) (kept ++ taken) (pos 0) k (omega arith)
      ∙ get_or-replicate pad k (pos 0) (pos 0) h) ∙ none))))
      (λ h. ⊎_elim
      (λ g.
      let e : pad + (k - pad) ≡ k = omega arith in
      b3 k (omega arith) ∙ (ap (λ i. get_or second i (pos 0)) (sym e) ∙ (w2 (k - pad) (omega arith) ∙
      sym (ap f (get_or-append_right (replicate pad (pos 0)) (kept ++ taken) pad k (pos 0)
      (length-replicate pad (pos 0)) h ∙ get_or_append_left kept taken (pos 0) (k - pad) (omega arith))))))
      (λ g.
      let e : pad + length kept + (k - pad - length kept) ≡ k = omega arith in
      ap (λ i. get_or third i (pos 0)) (sym e) ∙ (w3 (k - pad - length kept) (omega arith) ∙
      sym (ap f (get_or-append_right (replicate pad (pos 0)) (kept ++ taken) pad k (pos 0)
      (length-replicate pad (pos 0)) h ∙
      get_or-append_right kept taken (length kept) (k - pad) (pos 0) refl (omega arith)))))
      (cases_lt k (pad + length kept)))
      (cases_lt k pad)

  pub all_written : (first second third : List ℤ) → length second ≡ length first → length third ≡ length second →
      n ≤ length first →
      ((k : ℕ) → k < pad → get_or first k (pos 0) ≡ pos 0) →
      ((k : ℕ) → k < length kept → get_or second (pad + k) (pos 0) ≡ f (get_or kept k (pos 0))) →
      ((k : ℕ) → k < pad → get_or second k (pos 0) ≡ get_or first k (pos 0)) →
      ((k : ℕ) → k < length taken → get_or third (pad + length kept + k) (pos 0) ≡ f (get_or taken k (pos 0))) →
      ((k : ℕ) → k < pad + length kept → get_or third k (pos 0) ≡ get_or second k (pos 0)) →
      take n third ≡ map f all
  all_written first second third es et room zeros w2 b2 w3 b3 =
      let long : length (take n third) ≡ n = length-take-le n third (omega (arith, es, et)) in
      let sized = size in
      ext_get_or (pos 0) (take n third) (map f all) (long ∙ sym (length-map all f ∙ size))
      (λ i l.
      let in_n : i < n = omega (arith, long) in
      get_or-take n third i (pos 0) in_n ∙ (value first second third zeros w2 b2 w3 b3 i in_n
      ∙ sym (mapped f all i (omega (arith, sized)))))

pub whole_all : (xs : List ℤ) → map (part_as Whole) xs ≡ xs
whole_all [] = refl
whole_all (x ∷ xs) = ap (λ ys. x ∷ ys) (whole_all xs)

-- samples of at most 32,768 that are not that have 16 bits
pub short_fit : (xs : List ℤ) (m : ℕ) → AreWithin m xs → m ≤ 32768 →
    ((k : ℕ) → k < length xs → get_or xs k (pos 0) ≤ℤ pos 32767) → AreFit Whole xs
short_fit xs m w few low k l = one (get_or xs k (pos 0)) (w k l) (low k l)
  where
    one : (x : ℤ) → unsigned_abs x ≤ m → x ≤ℤ pos 32767 → FitsSigned w16 x
    one (pos n) h g = record { sfits = omega (arith, ints) }
    one (negsuc n) h g = record { sfits = omega (arith, ints) }

-- a window that was loaded
module _ (high low : List ℤ) (pad : ℕ) (kept taken : List ℤ) (limits : Limits) (high_long : length high ≡ 2064)
    (low_long : length low ≡ 2064) (room : pad + (length kept + length taken) ≤ 2048) (few : limits.peak ≤ 32767) where
  abbrev loaded : List ℤ
  loaded = replicate pad (pos 0) ++ (kept ++ taken)

  abbrev held_len : ℕ
  held_len = pad + length kept + length taken

  abbrev peak : ℕ
  peak = limits.peak

  joined_len : held_len ≡ pad + (length kept + length taken)
  joined_len = omega arith

  front : (xs : List ℤ) (f : ℤ → ℤ) → take (pad + (length kept + length taken)) xs ≡ map f loaded →
      take held_len xs ≡ map f loaded
  front xs f written = ap (λ n. take n xs) joined_len ∙ written

  pub quiet_loaded : (a b : ℕ) → AreWithin a kept → AreWithin b taken → a ≤ peak → b ≤ peak →
      take (pad + (length kept + length taken)) high ≡ map (part_as Whole) loaded →
      AreHeld Quiet high low held_len limits
  quiet_loaded a b wa wb la lb written = record {
    high_room = omega arith;
    low_room = omega arith;
    small = few;
    within = subst (λ xs. AreWithin peak xs) (sym (front high (part_as Whole) written))
        (parts_within (part_as Whole) pad peak refl kept taken
        (λ k l. let w : unsigned_abs (get_or kept k (pos 0)) ≤ a = wa k l in omega arith)
        (λ k l. let w : unsigned_abs (get_or taken k (pos 0)) ≤ b = wb k l in omega arith));
  }

  pub whole_samples : take (pad + (length kept + length taken)) high ≡ map (part_as Whole) loaded →
      take held_len high ≡ loaded
  whole_samples written = front high (part_as Whole) written ∙ whole_all loaded

  pub wide_loaded : limits.is_wide ≡ true → AreFit Whole kept → AreFit Whole taken →
      take (pad + (length kept + length taken)) high ≡ map (part_as Whole) loaded →
      AreHeld Wide high low held_len limits
  wide_loaded wide old new written = record {
    high_room = omega arith;
    low_room = omega arith;
    small = few;
    within = (wide, subst (λ xs. Each1 (FitsSigned w16) xs) (sym (whole_samples written)) short);
  }
    where
      zeros_fit : (m : ℕ) → Each1 (FitsSigned w16) (replicate m (pos 0))
      zeros_fit m = Each1-replicate (FitsSigned w16) m (pos 0) (record { sfits = omega arith })

      both_fit : (xs ys : List ℤ) → Each1 (FitsSigned w16) xs → Each1 (FitsSigned w16) ys →
          Each1 (FitsSigned w16) (xs ++ ys)
      both_fit [] ys f g = g
      both_fit (x ∷ xs) ys f g = (f.0, both_fit xs ys f.1 g)

      short : Each1 (FitsSigned w16) loaded
      short = both_fit (replicate pad (pos 0)) (kept ++ taken) (zeros_fit pad)
          (both_fit kept taken (each1 (FitsSigned w16) kept old) (each1 (FitsSigned w16) taken new))

  pub split_loaded : (a b : ℕ) → AreWithin a kept → AreWithin b taken → a ≤ 255 * peak → b ≤ 255 * peak → 255 ≤ peak →
      take (pad + (length kept + length taken)) high ≡ map (part_as High) loaded →
      take (pad + (length kept + length taken)) low ≡ map (part_as Low) loaded → AreHeld Split high low held_len limits
  split_loaded a b wa wb la lb some written_high written_low = record {
    high_room = omega arith;
    low_room = omega arith;
    small = few;
    within = (
      subst (λ xs. AreWithin peak xs) (sym (front high (part_as High) written_high))
          (parts_within (part_as High) pad peak refl kept taken
          (λ k l. let w : unsigned_abs (get_or kept k (pos 0)) ≤ a = wa k l in
          high_small (get_or kept k (pos 0)) peak (omega arith))
          (λ k l. let w : unsigned_abs (get_or taken k (pos 0)) ≤ b = wb k l in
          high_small (get_or taken k (pos 0)) peak (omega arith))),
      subst (λ xs. AreWithin peak xs) (sym (front low (part_as Low) written_low))
          (parts_within (part_as Low) pad peak refl kept taken (λ k l. low_small (get_or kept k (pos 0)) peak some)
          (λ k l. low_small (get_or taken k (pos 0)) peak some)),
    );
  }

  pub split_samples : take (pad + (length kept + length taken)) high ≡ map (part_as High) loaded →
      take (pad + (length kept + length taken)) low ≡ map (part_as Low) loaded →
      joined (take held_len high) (take held_len low) ≡ loaded
  split_samples written_high written_low =
      ap (λ xs. joined xs (take held_len low)) (front high (part_as High) written_high)
      ∙ (ap (joined (map (part_as High) loaded)) (front low (part_as Low) written_low) ∙ parts_join loaded)
