-- How counts grow along a sequence, and what firings take.
use Rattle.std.proofs.Common.{◌≡◌, ℕ, zero, suc, ◌+◌, ◌-◌, ◌≤◌, ◌<◌, List, [], ◌∷◌, ◌++◌, length, get_or, refl, sym, ap}
use Rattle.std.proofs.Common.{◌∙◌, subst, inl, inr, ◌⊎◌, arith, add-one, append_assoc, append-nil}
use Rattle.std.specs.List.{between}
use Rattle.std.proofs.lemmas.Bool.{cases_lt}
use Rattle.std.proofs.lemmas.List.{length_push, get_or_default, get_or_append_left, get_or_push}
use Rattle.std.proofs.lemmas.List.Edits.{length-between}
use Rattle.sdf_graph.specs.Rates.{Rates}
use Rattle.sdf_graph.specs.Sequences.{IsEnabled}
use Rattle.sdf_actor.specs.Histories.{Wiring, taken, taken_before, IsWired, size_in}
use Rattle.sdf_warm_up.proofs.Pieces.{length_flat_map_by}

-- how much of a channel the counts k reach
abbrev pub reach : Rates → (ℕ → ℕ) → ℕ → ℕ
reach r k c = r.initial c + r.produced c (k (r.source c))

-- an enabled actor takes within what the counts reach
pub enabled_within : (r : Rates) (k : ℕ → ℕ) (a : ℕ) → IsEnabled r k a → (c : ℕ) → c < r.channels → r.target c ≡ a →
    r.consumed c (k a + 1) ≤ reach r k c
enabled_within r k a on c l e = subst (λ n. r.consumed c (n + 1) ≤ reach r k c) (ap k e) (on c l e)

module _ {T : Type 0} (f : Wiring T) (wired : IsWired f) where
  -- the port of a channel at its source
  pub port : (c : ℕ) → c < f.rates.channels → (a : ℕ) → f.rates.source c ≡ a →
      (n : ℕ) × (n < length (f.outs a)) × (get_or (f.outs a) n 0 ≡ c)
  port c l a e =
      let o = wired.outs_all c l in
      subst (λ b. (n : ℕ) × (n < length (f.outs b)) × (get_or (f.outs b) n 0 ≡ c)) e
      (o.0, o.1, get_or_default (f.outs (f.rates.source c)) o.0 0 c o.1 ∙ o.2)

  -- the length of what is taken, where the lists are long enough
  pub length_taken : (V : ℕ → List T) (a i : ℕ) → a < f.rates.actors →
      ((c : ℕ) → c < f.rates.channels → f.rates.target c ≡ a → f.rates.consumed c (i + 1) ≤ length (V c)) →
      length (taken f V a i) ≡ size_in f a i
  length_taken V a i known long =
      length_flat_map_by (λ c. between (f.rates.consumed c i) (f.rates.consumed c (i + 1)) (V c))
      (λ c. f.rates.consumed c (i + 1) - f.rates.consumed c i) (f.ins a)
      (λ n l. let c : ℕ = get_or (f.ins a) n 0 in
      let is = wired.ins_are a n known l in
      length-between (V c) (f.rates.consumed c i) (f.rates.consumed c (i + 1)) (long c is.0 is.1))

-- what the firings of an actor from i on take, so many of them
abbrev pub blocks : {T : Type 0} → Wiring T → (ℕ → List T) → ℕ → ℕ → ℕ → List (List T)
blocks f V a i zero = []
blocks f V a i (suc j) = blocks f V a i j ++ taken f V a (i + j) ∷ []

module _ {T : Type 0} (f : Wiring T) (V : ℕ → List T) (a : ℕ) where
  pub length_taken_before : (i : ℕ) → length (taken_before f V a i) ≡ i
  length_taken_before zero = refl
  length_taken_before (suc i) = length_push (taken_before f V a i) (taken f V a i)
      ∙ (ap (λ n. n + 1) (length_taken_before i) ∙ add-one i)

  pub length_blocks : (i j : ℕ) → length (blocks f V a i j) ≡ j
  length_blocks i zero = refl
  length_blocks i (suc j) = length_push (blocks f V a i j) (taken f V a (i + j))
      ∙ (ap (λ n. n + 1) (length_blocks i j) ∙ add-one j)

  -- what all firings take is what the first ones take, and then the others
  pub before_and_on : (i j : ℕ) → taken_before f V a (i + j) ≡ taken_before f V a i ++ blocks f V a i j
  before_and_on i zero =
      ap (taken_before f V a) (let e : i + 0 ≡ i = omega arith in e) ∙ sym (append-nil (taken_before f V a i))
  before_and_on i (suc j) =
      let earlier = before_and_on i j in
      ap (taken_before f V a) (let e : i + suc j ≡ suc (i + j) = omega arith in e) ∙
      ((λ κ. earlier κ ++ taken f V a (i + j) ∷ []) ∙
      append_assoc (taken_before f V a i) (blocks f V a i j) (taken f V a (i + j) ∷ []))

  -- their lengths, where each has its own
  pub sizes_before : (size : ℕ → ℕ) (n : ℕ) → ((i : ℕ) → i < n → length (taken f V a i) ≡ size i) →
      (i : ℕ) → i < n → length (get_or (taken_before f V a n) i []) ≡ size i
  sizes_before size zero each i l = absurd (omega arith)
  sizes_before size (suc n) each i l =
      go (cases_lt i n) (λ h. sizes_before size n (λ j h. each j (omega arith)) i h)
    where
      go : (i < n) ⊎ (n ≤ i) → (i < n → length (get_or (taken_before f V a n) i []) ≡ size i) →
          length (get_or (taken_before f V a n ++ taken f V a n ∷ []) i []) ≡ size i
      go (inl below) ih =
          let e : length (taken_before f V a n) ≡ n = length_taken_before n in
          ap length (get_or_append_left (taken_before f V a n) (taken f V a n ∷ []) [] i (omega arith)) ∙ ih below
      go (inr above) ih =
          let at : n ≡ i = omega arith in
          let e : length (taken_before f V a n) ≡ i = length_taken_before n ∙ at in
          ap length (get_or_push (taken_before f V a n) (taken f V a n) [] i e) ∙
          (each n (omega arith) ∙ ap size at)
