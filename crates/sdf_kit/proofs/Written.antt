-- Outputs that are written branch by branch, and firings that are done block by block.
use Rattle.std.proofs.Common.{◌≡◌, ◌≢◌, ℕ, suc, ◌+◌, ◌*◌, ◌/◌, ◌%◌, ◌<◌, ◌≤◌, ℤ, pos, List, [], ◌∷◌, length, take, drop}
use Rattle.std.proofs.Common.{get_or, set, refl, sym, ap, subst, ◌∙◌, arith, ⊎_elim}
use Rattle.std.proofs.lemmas.Bool.{cases_lt}
use Rattle.std.proofs.lemmas.Nat.{mod-mul-add, div-add-mod', mod_below, div_below}
use Rattle.std.proofs.lemmas.List.{length-set, get_or-set_same, get_or-set_other}
use Rattle.sdf_kit.specs.Samples.{rescaled}
use Rattle.sdf_kit.specs.Dots.{dot}
use Rattle.sdf_kit.specs.Branches.{branch_at, branch_output}
use Rattle.sdf_kit.specs.declared.branches.Branches.{Branches}
use Rattle.std.proofs.Math.Nat.{add-mul, suc-mul, mul-le-mul_right, mul_right_comm, add-mul-mod_self_right}
use Rattle.std.proofs.Math.Nat.{add-mul-div_right}

-- the first m outputs of the branch of place j are written, and nothing else is changed
pub record IsPut (f : ℕ → ℤ) (up j : ℕ) (old new : List ℤ) (m : ℕ) : Type 0 where
  pub len : length new ≡ length old
  pub done : (i : ℕ) → i < m → get_or new (j + i * up) (pos 0) ≡ f i
  pub others : (n : ℕ) → n % up ≢ j → get_or new n (pos 0) ≡ get_or old n (pos 0)

pub put_none : (f : ℕ → ℤ) (up j : ℕ) (old : List ℤ) → IsPut f up j old old 0
put_none f up j old = record { len = refl; done = λ i l. absurd (omega arith); others = λ n d. refl }

-- the place of an output tells which it is
place_of : (up j i : ℕ) → j < up → (j + i * up) % up ≡ j
place_of up j i l = let e : j + i * up ≡ i * up + j = omega arith in ap (λ n. n % up) e ∙ mod-mul-add i up j l

pub put_more : (f : ℕ → ℤ) (up j : ℕ) (old new : List ℤ) (m at : ℕ) (v : ℤ) → IsPut f up j old new m → j < up →
    at ≡ j + m * up → at < length new → v ≡ f m →
    IsPut f up j old (set new at v) (m + 1)
put_more f up j old new m at v is low e room value = record {
  len = length-set new at v ∙ is.len;
  done = λ i l. ⊎_elim
      (λ h.
      let more : (i + 1) * up ≤ m * up = mul-le-mul_right up (let g : i + 1 ≤ m = omega arith in g) in
      let parts : (i + 1) * up ≡ i * up + 1 * up = add-mul i 1 up in
      get_or-set_other new at (j + i * up) v (pos 0) (λ same. absurd (omega (arith, same, e))) ∙ is.done i h)
      (λ h.
      let same : i ≡ m = omega arith in
      let there : j + i * up ≡ at = ap (λ n. j + n * up) same ∙ sym e in
      ap (λ n. get_or (set new at v) n (pos 0)) there
      ∙ (get_or-set_same new at v (pos 0) room ∙ (value ∙ ap f (sym same))))
      (cases_lt i m);
  others = λ n d. get_or-set_other new at n v (pos 0) (λ same. d (ap (λ k. k % up) (same ∙ e) ∙ place_of up j m low))
      ∙ is.others n d;
}

-- output i of the branch of place j, among all outputs
pub output_place : (up down i j : ℕ) → 1 ≤ up → (i * up + j) * down ≡ j * down + i * down * up
output_place up down i j some =
    let parts : (i * up + j) * down ≡ i * up * down + j * down = add-mul (i * up) j down in
    let crossed : i * up * down ≡ i * down * up = mul_right_comm i up down in
    omega arith

pub output_phase : (up down i j : ℕ) → 1 ≤ up → (i * up + j) * down % up ≡ j * down % up
output_phase up down i j some = ap (λ n. n % up) (output_place up down i j some)
    ∙ add-mul-mod_self_right (j * down) (i * down) up

pub output_newest : (up down i j : ℕ) → 1 ≤ up → (i * up + j) * down / up ≡ j * down / up + i * down
output_newest up down i j some = ap (λ n. n / up) (output_place up down i j some)
    ∙ add-mul-div_right (j * down) (i * down) some

-- all branches of all firings are all outputs
pub all_put : (f : ℕ → ℤ) (up many : ℕ) (put : List ℤ) → 1 ≤ up →
    ((j i : ℕ) → j < up → i < many → get_or put (j + i * up) (pos 0) ≡ f (i * up + j)) →
    (n : ℕ) → n < many * up → get_or put n (pos 0) ≡ f n
all_put f up many put some each n l =
    let whole : n / up * up + n % up ≡ n = div-add-mod' n up in
    let turned : n % up + n / up * up ≡ n = omega arith in
    ap (λ k. get_or put k (pos 0)) (sym turned) ∙ (each (n % up) (n / up) (mod_below n up some)
    (div_below n up many some l) ∙ ap f whole)

-- k steps further on
pub further : (at m k step : ℕ) → at + m * step + k * step ≡ at + (m + k) * step
further at m k step = let parts : (m + k) * step ≡ m * step + k * step = add-mul m k step in omega arith

-- four outputs more
pub put_four_more : (f : ℕ → ℤ) (up j : ℕ) (old put : List ℤ) (m at : ℕ) (a b c d : ℤ) → IsPut f up j old put m →
    j < up → at ≡ j + m * up → at + 3 * up < length put →
    a ≡ f m → b ≡ f (m + 1) → c ≡ f (m + 2) → d ≡ f (m + 3) →
    IsPut f up j old (set (set (set (set put at a) (at + up) b) (at + 2 * up) c) (at + 3 * up) d) (m + 4)
put_four_more f up j old put m at a b c d is low e room ea eb ec ed =
    let one : at + up ≡ j + (m + 1) * up = (let p = further j m 1 up in omega arith) in
    let two : at + 2 * up ≡ j + (m + 2) * up = (let p = further j m 2 up in omega arith) in
    let three : at + 3 * up ≡ j + (m + 3) * up = (let p = further j m 3 up in omega arith) in
    let p1 : List ℤ = set put at a in
    let p2 : List ℤ = set p1 (at + up) b in
    let p3 : List ℤ = set p2 (at + 2 * up) c in
    let l1 : length p1 ≡ length put = length-set put at a in
    let l2 : length p2 ≡ length p1 = length-set p1 (at + up) b in
    let l3 : length p3 ≡ length p2 = length-set p2 (at + 2 * up) c in
    let s1 = put_more f up j old put m at a is low e (omega arith) ea in
    let s2 = put_more f up j old p1 (m + 1) (at + up) b s1 low one (omega arith) eb in
    let s2' : IsPut f up j old p2 (m + 2) = subst (λ n. IsPut f up j old p2 n)
    (let g : m + 1 + 1 ≡ m + 2 = omega arith in g) s2 in
    let s3 = put_more f up j old p2 (m + 2) (at + 2 * up) c s2' low two (omega arith) ec in
    let s3' : IsPut f up j old p3 (m + 3) = subst (λ n. IsPut f up j old p3 n)
    (let g : m + 2 + 1 ≡ m + 3 = omega arith in g) s3 in
    let s4 = put_more f up j old p3 (m + 3) (at + 3 * up) d s3' low three (omega arith) ed in
    subst (λ n. IsPut f up j old (set p3 (at + 3 * up) d) n) (let g : m + 3 + 1 ≡ m + 4 = omega arith in g) s4

-- the places of k outputs from output m on are within those of all, and their windows within the samples
pub outputs_fit : (up j m k many : ℕ) → j < up → m + suc k ≤ many → j + m * up + k * up < many * up
outputs_fit up j m k many low few =
    let most : (m + suc k) * up ≤ many * up = mul-le-mul_right up few in
    let parts : (m + suc k) * up ≡ m * up + suc k * up = add-mul m (suc k) up in
    let more : suc k * up ≡ k * up + up = suc-mul k up in
    omega arith

pub windows_fit : (down first m k many long samples : ℕ) → first < down → m + suc k ≤ many →
    many * down + long ≤ samples + 1 → first + m * down + k * down + long ≤ samples
windows_fit down first m k many long samples low few room =
    let most : (m + suc k) * down ≤ many * down = mul-le-mul_right down few in
    let parts : (m + suc k) * down ≡ m * down + suc k * down = add-mul m (suc k) down in
    let more : suc k * down ≡ k * down + down = suc-mul k down in
    omega arith

-- an output of a branch among all outputs
pub branch_step : (b : Branches) (up down shift : ℕ) (samples branch : List ℤ) (j i first : ℕ) → 1 ≤ up →
    branch ≡ branch_at b (j * down % up) → length branch ≡ b.width → first ≡ j * down / up →
    rescaled (dot branch (take (length branch) (drop (first + i * down) samples))) shift ≡
    branch_output b up down shift samples (i * up + j)
branch_step b up down shift samples branch j i first some is long first_is =
    ap (λ n. rescaled (dot branch (take n (drop (first + i * down) samples))) shift) long ∙
    (ap (λ h. rescaled (dot h (take b.width (drop (first + i * down) samples))) shift) is ∙
    (ap (λ n. rescaled (dot (branch_at b (j * down % up)) (take b.width (drop (n + i * down) samples)))
    shift) first_is ∙
    sym (ap (λ p. rescaled (dot (branch_at b p) (take b.width (drop ((i * up + j) * down / up) samples))) shift)
    (output_phase up down i j some) ∙
    ap (λ n. rescaled (dot (branch_at b (j * down % up)) (take b.width (drop n samples))) shift)
    (output_newest up down i j some))))

-- outputs of branches before this one stay
pub other_branch : (up j k i : ℕ) → j < k → k < up → (j + i * up) % up ≢ k
other_branch up j k i l low e = let p = place_of up j i (let g : j < up = omega arith in g) in
    absurd (omega (arith, p, e))

pub fours_more : (f : ℕ → ℤ) (up j : ℕ) (old put after : List ℤ) (m at : ℕ) {x : List ℤ} (a b c d : ℤ) →
    IsPut f up j old put m → j < up → at ≡ j + m * up → at + 3 * up < length put →
    after ≡ set (set (set (set put at (get_or x 0 (pos 0))) (at + up) (get_or x 1 (pos 0))) (at + 2 * up)
    (get_or x 2 (pos 0))) (at + 3 * up) (get_or x 3 (pos 0)) →
    x ≡ a ∷ b ∷ c ∷ d ∷ [] → a ≡ f m → b ≡ f (m + 1) → c ≡ f (m + 2) → d ≡ f (m + 3) → IsPut f up j old after (m + 4)
fours_more f up j old put after m at {x} a b c d is low e room written xs ea eb ec ed =
    subst (λ p. IsPut f up j old p (m + 4)) (sym written)
    (put_four_more f up j old put m at (get_or x 0 (pos 0)) (get_or x 1 (pos 0)) (get_or x 2 (pos 0))
    (get_or x 3 (pos 0)) is low e room
    (ap (λ l. get_or l 0 (pos 0)) xs ∙ ea) (ap (λ l. get_or l 1 (pos 0)) xs ∙ eb) (ap (λ l. get_or l 2 (pos 0)) xs ∙ ec)
    (ap (λ l. get_or l 3 (pos 0)) xs ∙ ed))
