-- Blocks of one size, one after another.
use Rattle.std.proofs.Common.{◌≡◌, ℕ, zero, suc, ◌+◌, ◌-◌, ◌*◌, ◌≤◌, ◌<◌, List, [], ◌∷◌, ◌++◌, length, take, drop, refl}
use Rattle.std.proofs.Common.{sym, ap, ◌∙◌, inl, inr, ◌⊎◌, arith, add-one}
use Rattle.std.specs.List.{between, flat_map}
use Rattle.std.proofs.Math.Nat.{mul-suc}
use Rattle.std.proofs.Math.Seq.{take-add}
use Rattle.std.proofs.lemmas.Bool.{cases_lt}
use Rattle.std.proofs.lemmas.List.{append-nil, append_assoc, length-append, length_push, take_at, drop_at, drop-drop}
use Rattle.std.proofs.lemmas.List.{flat_map_more}
use Rattle.std.proofs.lemmas.List.Edits.{between_none, length-between}
use Rattle.sdf_node.specs.Many.{nth_block, listed, joined}

pub length_listed : {T : Type 0} (b : ℕ → List T) (i : ℕ) → length (listed b i) ≡ i
length_listed b zero = refl
length_listed b (suc i) = length_push (listed b i) (b i) ∙ (ap (λ n. n + 1) (length_listed b i) ∙ add-one i)

pub length_after : {T : Type 0} (past : List (List T)) (b : ℕ → List T) (i : ℕ) →
    length (past ++ listed b i) ≡ length past + i
length_after past b i = length-append past (listed b i) ∙ ap (λ n. length past + n) (length_listed b i)

pub joined_same : {T : Type 0} (f g : ℕ → List T) (many : ℕ) → ((i : ℕ) → i < many → f i ≡ g i) →
    joined f many ≡ joined g many
joined_same f g zero same = refl
joined_same f g (suc many) same = λ k. joined_same f g many (λ i l. same i (omega arith)) k ++ same many (omega arith) k

-- a list of blocks behind others, flattened
pub flat_listed : {T : Type 0} (past : List (List T)) (b : ℕ → List T) (i : ℕ) →
    flat_map (λ (x : List T). x) (past ++ listed b i) ≡ flat_map (λ (x : List T). x) past ++ joined b i
flat_listed past b zero = ap (flat_map (λ x. x)) (append-nil past) ∙ sym (append-nil (flat_map (λ x. x) past))
flat_listed past b (suc i) =
    ap (flat_map (λ x. x)) (sym (append_assoc past (listed b i) (b i ∷ []))) ∙
    (sym (flat_map_more (λ x. x) [] (past ++ listed b i) (b i)) ∙
    (ap (λ xs. xs ++ b i) (flat_listed past b i) ∙ append_assoc (flat_map (λ x. x) past) (joined b i) (b i)))

-- consecutive parts of a list make one part
pub joined_between : {T : Type 0} (size a : ℕ) (xs : List T) (many : ℕ) →
    joined (λ i. between (a + size * i) (a + size * (i + 1)) xs) many ≡ between a (a + size * many) xs
joined_between size a xs zero = let e : a + size * 0 ≡ a = omega arith in
    sym (ap (λ j. between a j xs) e ∙ between_none xs a)
joined_between size a xs (suc many) =
    let n : ℕ = size * many in
    let one : size * (many + 1) ≡ n + size = ap (λ i. size * i) (add-one many) ∙ mul-suc size many in
    let all : size * suc many ≡ n + size = mul-suc size many in
    let before : (a + n) - a ≡ n = omega arith in
    let here : (a + size * (many + 1)) - (a + n) ≡ size = omega arith in
    let end : (a + size * suc many) - a ≡ n + size = omega arith in
    ap (λ ys. ys ++ between (a + n) (a + size * (many + 1)) xs) (joined_between size a xs many) ∙
    ((λ k. take (before k) (drop a xs) ++ take (here k) (drop (a + n) xs)) ∙
    (ap (λ ys. take n (drop a xs) ++ take size ys) (sym (drop-drop n a xs)) ∙
    (sym (take-add n size (drop a xs)) ∙ ap (λ j. take j (drop a xs)) (sym end))))

-- so do the first blocks of a size
pub joined_blocks : {T : Type 0} (size : ℕ) (xs : List T) (many : ℕ) →
    joined (nth_block size xs) many ≡ take (size * many) xs
joined_blocks size xs many =
    joined_same (nth_block size xs) (λ i. between (0 + size * i) (0 + size * (i + 1)) xs) many
    (λ i l. let e : size * i ≡ 0 + size * i = omega arith in let f : size * (i + 1) ≡ 0 + size * (i + 1) =
    omega arith in λ k. between (e k) (f k) xs) ∙
    (joined_between size 0 xs many ∙ ap (λ j. take j xs)
    (let e : (0 + size * many) - 0 ≡ size * many = omega arith in e))

pub length_nth : {T : Type 0} (size : ℕ) (xs : List T) (i many : ℕ) → i < many → length xs ≡ size * many →
    length (nth_block size xs i) ≡ size
length_nth size xs i many l long =
    let m = mul-suc size i in
    let next : size * (i + 1) ≡ size * i + size = ap (λ j. size * j) (add-one i) ∙ m in
    let within = fits size (i + 1) many (omega arith) in
    length-between xs (size * i) (size * (i + 1)) (omega arith) ∙ omega arith
  where
    fits : (size i many : ℕ) → i ≤ many → size * i ≤ size * many
    fits size i many h = Rattle.std.proofs.Math.Nat.mul-le-mul_left size h

pub length_joined : {T : Type 0} (f : ℕ → List T) (size many : ℕ) → ((i : ℕ) → i < many → length (f i) ≡ size) →
    length (joined f many) ≡ size * many
length_joined f size zero long = let e : 0 ≡ size * 0 = omega arith in e
length_joined f size (suc many) long =
    let before = length_joined f size many (λ i l. long i (omega arith)) in
    omega (arith, length-append (joined f many) (f many), long many (omega arith), mul-suc size many)

split_at : {T : Type 0} (f : ℕ → List T) (many j : ℕ) → j < many →
    (rest : List T) × (joined f many ≡ joined f j ++ (f j ++ rest))
split_at f zero j l = absurd (omega arith)
split_at {T} f (suc many) j l = go (λ less. split_at f many j less) (cases_lt j many)
  where
    go : (j < many → (rest : List T) × (joined f many ≡ joined f j ++ (f j ++ rest))) → (j < many) ⊎ (many ≤ j) →
        (rest : List T) × (joined f many ++ f many ≡ joined f j ++ (f j ++ rest))
    go before (inl less) =
        let s = before less in (
          s.0 ++ f many,
          ap (λ ys. ys ++ f many) s.1 ∙ (append_assoc (joined f j) (f j ++ s.0) (f many)
              ∙ ap (λ ys. joined f j ++ ys) (append_assoc (f j) s.0 (f many))),
        )
    go before (inr last) =
        let same : many ≡ j = omega arith in
        ([], (λ k. joined f (same k) ++ f (same k)) ∙ ap (λ ys. joined f j ++ ys) (sym (append-nil (f j))))

-- each block again
pub joined_part : {T : Type 0} (f : ℕ → List T) (size many : ℕ) → ((i : ℕ) → i < many → length (f i) ≡ size) → (j : ℕ) →
    j < many → nth_block size (joined f many) j ≡ f j
joined_part f size many long j l =
    let s = split_at f many j l in
    let place : length (joined f j) ≡ size * j = length_joined f size j (λ i h. long i (omega arith)) in
    let one : size * (j + 1) ≡ size * j + size = ap (λ i. size * i) (add-one j) ∙ mul-suc size j in
    let here : size * (j + 1) - size * j ≡ size = omega arith in
    ap (nth_block_of size j) s.1 ∙
    (ap (λ m. take m (drop (size * j) (joined f j ++ (f j ++ s.0)))) here ∙
    (ap (take size) (drop_at (joined f j) (f j ++ s.0) (size * j) place) ∙ take_at (f j) s.0 size (long j l)))
  where
    nth_block_of : {T : Type 0} (size j : ℕ) → List T → List T
    nth_block_of size j xs = nth_block size xs j
