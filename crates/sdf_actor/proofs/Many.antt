-- Firings over consecutive blocks.
use Rattle.std.proofs.Common.{◌≡◌, ℕ, zero, suc, ◌+◌, ◌-◌, ◌%◌, ◌≤◌, ◌<◌, List, ◌++◌, length, take, drop, sym, ap, ◌∙◌}
use Rattle.std.proofs.Common.{arith, add-one}
use Rattle.std.specs.List.{sum_by, range_with_len, between}
use Rattle.std.proofs.lemmas.List.{length-drop, length-take-le}
use Rattle.std.proofs.lemmas.List.Sums.{sum_by-cons}
use Rattle.std.proofs.lemmas.Slice.{take-put_mid}
use Rattle.std.proofs.Math.Nat.{mod-add-mod, mod-eq_of_lt}
use borrow.Rule.Slice.PartMut.{put_mid, same_len_mid}
use Rattle.sdf_graph.proofs.Theorems.{sums_rise}
use Rattle.sdf_graph.specs.Rates.{sum_to}
use Rattle.sdf_actor.specs.Steps.{Steps, phase, total_in, total_out, sum_in, sum_out, block_at, state_at, puts_to}

-- one port more
ports_from : (f : ℕ → ℕ) (a n : ℕ) → sum_by f (range_with_len a (suc n)) ≡ sum_by f (range_with_len a n) + f (a + n)
ports_from f a zero = let here : a ≡ a + zero = omega arith in ap (λ n. 0 + f n) here
ports_from f a (suc n) =
    let last : f (a + 1 + n) ≡ f (a + suc n) = ap f (let e : a + 1 + n ≡ a + suc n = omega arith in e) in
    omega (
      arith,
      ports_from f (a + 1) n,
      sum_by-cons f a (range_with_len (a + 1) (suc n)),
      sum_by-cons f a (range_with_len (a + 1) n),
    )

pub ports_more : (f : ℕ → ℕ) (n : ℕ) → sum_by f (range_with_len 0 (n + 1)) ≡ sum_by f (range_with_len 0 n) + f n
ports_more f n =
    let at : f (0 + n) ≡ f n = ap f (let e : 0 + n ≡ n = omega arith in e) in
    ap (λ m. sum_by f (range_with_len 0 m)) (add-one n) ∙ omega (arith, ports_from f 0 n)

-- one term of a sum more
sum_more : (f : ℕ → ℕ) (i : ℕ) → sum_to f (i + 1) ≡ sum_to f i + f i
sum_more f i = ap (sum_to f) (add-one i)

-- each term but the last has the later ones behind it
sum_within : (f : ℕ → ℕ) (i many term : ℕ) → i < many → term ≡ f i → sum_to f i + term ≤ sum_to f many
sum_within f i many term l is = omega (arith, sum_more f i, sums_rise f (i + 1) many (omega arith))

module _ {A S T : Type 0} (s : Steps A S T) (x : A) (j : ℕ) where
  pub begins : j < s.cycle x → j ≡ phase s x (j + 0)
  begins l = sym (ap (λ n. n % s.cycle x) (let e : j + 0 ≡ j = omega arith in e) ∙ mod-eq_of_lt l)

  module _ (i : ℕ) where
    pub phase_more : (now : ℕ) → now ≡ phase s x (j + i) → (now + 1) % s.cycle x ≡ phase s x (j + (i + 1))
    phase_more now at =
        ap (λ n. (n + 1) % s.cycle x) at ∙ (mod-add-mod (j + i) (s.cycle x) 1 ∙ ap (λ n. n % s.cycle x)
        (let e : j + i + 1 ≡ j + (i + 1) = omega arith in e))

    -- what the firing takes and puts lies behind what was taken and put before it
    module _ (many now place more long : ℕ) (at : now ≡ phase s x (j + i)) where
      pub read_within : more ≡ total_in s x now → place ≡ sum_in s x j i → i < many → long ≡ sum_in s x j many →
          place + more ≤ long
      read_within is was l all = let e = sum_within (λ n. total_in s x (phase s x (j + n))) i many more l
          (is ∙ ap (total_in s x) at) in omega arith

      pub written_within : more ≡ total_out s x now → place ≡ sum_out s x j i → i < many → long ≡ sum_out s x j many →
          place + more ≤ long
      written_within is was l all = let e = sum_within (λ n. total_out s x (phase s x (j + n))) i many more l
          (is ∙ ap (total_out s x) at) in omega arith

    module _ (now place more : ℕ) (at : now ≡ phase s x (j + i)) where
      pub read_more : more ≡ total_in s x now → place ≡ sum_in s x j i → place + more ≡ sum_in s x j (i + 1)
      read_more is was =
          let e : more ≡ total_in s x (phase s x (j + i)) = is ∙ ap (total_in s x) at in
          omega (arith, sum_more (λ n. total_in s x (phase s x (j + n))) i)

      pub written_more : more ≡ total_out s x now → place ≡ sum_out s x j i → place + more ≡ sum_out s x j (i + 1)
      written_more is was =
          let e : more ≡ total_out s x (phase s x (j + i)) = is ∙ ap (total_out s x) at in
          omega (arith, sum_more (λ n. total_out s x (phase s x (j + n))) i)

    -- what it leaves and puts
    module _ (state : S) (taken : List T) (now read reads : ℕ) (was : S) (at : now ≡ phase s x (j + i))
        (from : read ≡ sum_in s x j i) (to : reads ≡ sum_in s x j (i + 1))
        (is : was ≡ state_at s x j state taken i) where
      block : between read reads taken ≡ block_at s x j taken i
      block = λ k. between (from k) (to k) taken

      pub state_after_one : s.next x now was (between read reads taken) ≡ state_at s x j state taken (i + 1)
      state_after_one = (λ k. s.next x (at k) (is k) (block k)) ∙ sym (ap (state_at s x j state taken) (add-one i))

      pub puts_after_one : (put made : List T) (written writes : ℕ) → written ≤ writes → writes ≤ length put →
          length made ≡ length (take (writes - written) (drop written put)) →
          take written put ≡ puts_to s x j state taken i → made ≡ s.puts x now was (between read reads taken) →
          take writes (put_mid written (writes - written) put made) ≡ puts_to s x j state taken (i + 1)
      puts_after_one put made written writes rise within fits front made_is =
          let long : length made ≡ writes - written = fits
          ∙ length-take-le (writes - written) (drop written put) (omega (arith, length-drop written put)) in
          take-put_mid written (writes - written) put made writes (omega (arith, long)) (omega arith) ∙
          ((λ k. front k ++ (made_is ∙ λ k. s.puts x (at k) (is k) (block k)) k)
          ∙ sym (ap (puts_to s x j state taken) (add-one i)))

-- writing a part keeps a list's length
pub long_after : {T : Type 0} (put made : List T) (written writes : ℕ) →
    length made ≡ length (take (writes - written) (drop written put)) →
    length (put_mid written (writes - written) put made) ≡ length put
long_after put made written writes fits = same_len_mid written (writes - written) put made fits
