-- Blocks one after another.
use Rattle.std.proofs.Common.{◌≡◌, ℕ, zero, suc, ◌+◌, ◌*◌, ◌≤◌, ◌<◌, List, [], ◌++◌, length, take, drop, refl, sym, ap}
use Rattle.std.proofs.Common.{◌∙◌, inl, inr, ◌⊎◌, arith}
use Rattle.std.proofs.Math.Nat.{zero-mul, suc-mul}
use Rattle.std.proofs.lemmas.List.{append-nil, take_all, drop_at, drop-append-le, take-append-le, length-append}
use Rattle.std.proofs.lemmas.List.{length-drop}
use Rattle.std.proofs.lemmas.Bool.{cases_lt}
use Rattle.sdf_node.specs.Many.{joined}

pub joined_none : {T : Type 0} (f : ℕ → List T) (many : ℕ) → ((i : ℕ) → i < many → f i ≡ []) → joined f many ≡ []
joined_none f zero none = refl
joined_none f (suc many) none = (λ k. joined f many ++ none many (omega arith) k)
    ∙ (append-nil (joined f many) ∙ joined_none f many (λ i l. none i (omega arith)))

pub length_joined : {T : Type 0} (f : ℕ → List T) (size many : ℕ) → ((i : ℕ) → i < many → length (f i) ≡ size) →
    length (joined f many) ≡ many * size
length_joined f size zero long = sym (zero-mul size)
length_joined f size (suc many) long =
    let before : length (joined f many) ≡ many * size = length_joined f size many (λ i l. long i (omega arith)) in
    omega (arith, length-append (joined f many) (f many), long many (omega arith), suc-mul many size)

-- one of them, where it and those before it have a size
reach : {T : Type 0} (f : ℕ → List T) (size many j : ℕ) → ((i : ℕ) → i ≤ j → length (f i) ≡ size) → j < many →
    suc j * size ≤ length (joined f many)
reach f size zero j long l = absurd (omega arith)
reach f size (suc many) j long l = go (λ less. reach f size many j long less) (cases_lt j many)
  where
    go : (j < many → suc j * size ≤ length (joined f many)) → (j < many) ⊎ (many ≤ j) →
        suc j * size ≤ length (joined f many ++ f many)
    go before (inl less) = omega (arith, before less, length-append (joined f many) (f many))
    go before (inr last) =
        let same : many ≡ j = omega arith in
        let all : length (joined f (suc many)) ≡ suc many * size =
        length_joined f size (suc many) (λ i h. long i (omega arith)) in
        let count : suc many * size ≡ suc j * size = ap (λ i. suc i * size) same in
        omega (arith, all, count)

pub joined_part : {T : Type 0} (f : ℕ → List T) (size many j : ℕ) → ((i : ℕ) → i ≤ j → length (f i) ≡ size) →
    j < many → take size (drop (j * size) (joined f many)) ≡ f j
joined_part f size zero j long l = absurd (omega arith)
joined_part f size (suc many) j long l = go (λ less. joined_part f size many j long less) (cases_lt j many)
  where
    go : (j < many → take size (drop (j * size) (joined f many)) ≡ f j) → (j < many) ⊎ (many ≤ j) →
        take size (drop (j * size) (joined f many ++ f many)) ≡ f j
    go before (inl less) =
        let there : suc j * size ≤ length (joined f many) = reach f size many j long less in
        let next : suc j * size ≡ j * size + size = omega (arith, suc-mul j size) in
        ap (take size) (drop-append-le (j * size) (joined f many) (f many) (omega (arith, there, next))) ∙
        (take-append-le size (drop (j * size) (joined f many)) (f many)
        (omega (arith, there, next, length-drop (j * size) (joined f many))) ∙
        before less)
    go before (inr last) =
        let same : j ≡ many = omega arith in
        let place : length (joined f many) ≡ j * size =
        length_joined f size many (λ i h. long i (omega arith)) ∙ ap (λ i. i * size) (sym same) in
        ap (take size) (drop_at (joined f many) (f many) (j * size) place) ∙
        (take_all size (f many) (omega (arith, long many (omega arith))) ∙ ap f (sym same))
