-- Blocks of several parts: firing by firing they are the same as part by part, where the parts are moved in turn.
use Rattle.std.proofs.Common.{◌≡◌, ℕ, zero, suc, ◌+◌, ◌-◌, ◌*◌, ◌≤◌, ◌<◌, List, [], ◌∷◌, ◌++◌, length, get_or, take}
use Rattle.std.proofs.Common.{drop}
use Rattle.std.proofs.Common.{cond, eqb, refl, sym, ap, ◌∙◌, inl, inr, ◌⊎◌, arith}
use Rattle.std.specs.List.{between, flat_map, sum_by}
use Rattle.std.proofs.Math.Nat.{suc-mul, zero-mul}
use Rattle.std.proofs.lemmas.Bool.{cases_eq, eq-eqb, ne_eqb}
use Rattle.std.proofs.lemmas.List.{append-nil, append_assoc, take-append-drop, take_at, drop_at, length-append}
use Rattle.std.proofs.lemmas.List.{length-take-le, length-drop}
use Rattle.std.proofs.lemmas.List.Edits.{between_none}
use Rattle.std.proofs.lemmas.List.Sums.{sum_by-cons}
use Rattle.sdf_actor.specs.Histories.{spread}
use Rattle.sdf_node.specs.Many.{joined}
use Rattle.sdf_one.proofs.Joined.{joined_none}
use Rattle.sdf_one.proofs.Parts as parts
use Rattle.sdf_one.proofs.Parts.{flat_map_same, none_of}

-- a list is empty or not
empty_or : {T : Type 0} (xs : List T) → (xs ≡ []) ⊎ (xs ≡ [] → ⊥)
empty_or [] = inl refl
empty_or (x ∷ xs) = inr (λ e. let none : length (x ∷ xs) ≡ 0 = ap length e in absurd (omega (arith, none)))

flat_map_none : {T : Type 0} (g : ℕ → List T) (ds : List ℕ) →
    ((p : ℕ) → p < length ds → g (get_or ds p 0) ≡ []) → flat_map g ds ≡ []
flat_map_none g [] none = refl
flat_map_none g (d ∷ ds) none = (λ i. none 0 (omega arith) i ++ flat_map g ds)
    ∙ flat_map_none g ds (λ p l. none (suc p) (omega arith))

-- behind the parts of some firings stand those of the next, which moves nothing before what they moved
merged : {T : Type 0} (f g : ℕ → List T) (ds : List ℕ) → ((p q : ℕ) → p < q → q < length ds →
    (f (get_or ds q 0) ≡ []) ⊎ (g (get_or ds p 0) ≡ [])) →
    flat_map f ds ++ flat_map g ds ≡ flat_map (λ d. f d ++ g d) ds
merged f g [] turn = refl
merged {T} f g (d ∷ ds) turn = go (empty_or (g d))
    (merged f g ds (λ p q l h. turn (suc p) (suc q) (omega arith) (omega arith)))
  where
    go : (g d ≡ []) ⊎ (g d ≡ [] → ⊥) → flat_map f ds ++ flat_map g ds ≡ flat_map (λ d. f d ++ g d) ds →
        (f d ++ flat_map f ds) ++ (g d ++ flat_map g ds) ≡ (f d ++ g d) ++ flat_map (λ d. f d ++ g d) ds
    go (inl none) rest =
        (λ i. (f d ++ flat_map f ds) ++ (none i ++ flat_map g ds)) ∙
        (append_assoc (f d) (flat_map f ds) (flat_map g ds) ∙
        (ap (λ ys. f d ++ ys) rest ∙
        ap (λ ys. ys ++ flat_map (λ d. f d ++ g d) ds) (sym (append-nil (f d)) ∙ ap (λ ys. f d ++ ys) (sym none))))
    go (inr some) rest =
        ap (λ ys. (f d ++ ys) ++ (g d ++ flat_map g ds)) gone ∙
        (ap (λ ys. ys ++ (g d ++ flat_map g ds)) (append-nil (f d)) ∙
        (sym (append_assoc (f d) (g d) (flat_map g ds)) ∙
        ap (λ ys. (f d ++ g d) ++ ys) (ap (λ ys. ys ++ flat_map g ds) (sym gone) ∙ rest)))
      where
        gone : flat_map f ds ≡ []
        gone = flat_map_none f ds (λ p l. of (turn 0 (suc p) (omega arith) (omega arith)))
          where
            of : {X : Type 0} → X ⊎ (g d ≡ []) → X
            of (inl x) = x
            of (inr none) = absurd (some none)

-- firing by firing is part by part
pub turned : {T : Type 0} (g : ℕ → ℕ → List T) (ds : List ℕ) (many : ℕ) →
    ((m n p q : ℕ) → m < n → n < many → p < q → q < length ds →
    (g m (get_or ds q 0) ≡ []) ⊎ (g n (get_or ds p 0) ≡ [])) →
    joined (λ n. flat_map (g n) ds) many ≡ flat_map (λ d. joined (λ n. g n d) many) ds
turned g ds zero turn = sym (flat_map_none (λ d. []) ds (λ p l. refl))
turned {T} g ds (suc many) turn =
    ap (λ ys. ys ++ flat_map (g many) ds)
    (turned g ds many (λ m n p q l h i k. turn m n p q l (omega arith) i k)) ∙
    merged (λ d. joined (λ n. g n d) many) (g many) ds (λ p q l h. go p q l h (empty_or (g many (get_or ds p 0))))
  where
    go : (p q : ℕ) → p < q → q < length ds → (g many (get_or ds p 0) ≡ []) ⊎ (g many (get_or ds p 0) ≡ [] → ⊥) →
        (joined (λ n. g n (get_or ds q 0)) many ≡ []) ⊎ (g many (get_or ds p 0) ≡ [])
    go p q l h (inl none) = inr none
    go p q l h (inr some) = inl (joined_none (λ n. g n (get_or ds q 0)) many
        (λ m k. of m (turn m many p q k (omega arith) l h)))
      where
        of : (m : ℕ) → (g m (get_or ds q 0) ≡ []) ⊎ (g many (get_or ds p 0) ≡ []) → g m (get_or ds q 0) ≡ []
        of m (inl none) = none
        of m (inr none) = absurd (some none)

-- the same pieces, joined
pub joined_same : {T : Type 0} (f g : ℕ → List T) (many : ℕ) → ((i : ℕ) → i < many → f i ≡ g i) →
    joined f many ≡ joined g many
joined_same f g zero same = refl
joined_same f g (suc many) same = (λ k. joined_same f g many (λ i l. same i (omega arith)) k
    ++ same many (omega arith) k)

-- pieces, and those after them
pub joined_on : {T : Type 0} (f : ℕ → List T) (x many : ℕ) →
    joined f (x + many) ≡ joined f x ++ joined (λ n. f (x + n)) many
joined_on f x zero = ap (joined f) (let e : x + 0 ≡ x = omega arith in e) ∙ sym (append-nil (joined f x))
joined_on f x (suc many) =
    ap (joined f) (let e : x + suc many ≡ suc (x + many) = omega arith in e) ∙
    (ap (λ ys. ys ++ f (x + many)) (joined_on f x many) ∙
    append_assoc (joined f x) (joined (λ n. f (x + n)) many) (f (x + many)))

-- pieces by so many
pub grouped : {T : Type 0} (f : ℕ → List T) (size times : ℕ) →
    joined f (times * size) ≡ joined (λ t. joined (λ n. f (t * size + n)) size) times
grouped f size zero = ap (joined f) (zero-mul size)
grouped f size (suc times) =
    ap (joined f) (let e : suc times * size ≡ times * size + size = omega (arith, suc-mul times size) in e) ∙
    (joined_on f (times * size) size ∙
    ap (λ ys. ys ++ joined (λ n. f (times * size + n)) size) (grouped f size times))

-- the length of pieces, where each leads from a place to the next
pub joined_reach : {T : Type 0} (f : ℕ → List T) (place : ℕ → ℕ) (many : ℕ) →
    ((i : ℕ) → i < many → place i + length (f i) ≡ place (suc i)) → place 0 + length (joined f many) ≡ place many
joined_reach f place zero steps = omega arith
joined_reach f place (suc many) steps = omega (
  arith,
  joined_reach f place many (λ i l. steps i (omega arith)),
  length-append (joined f many) (f many),
  steps many (omega arith),
)

-- one of them stands between its places
pub joined_piece : {T : Type 0} (f : ℕ → List T) (place : ℕ → ℕ) (many j : ℕ) → place 0 ≡ 0 →
    ((i : ℕ) → i < many → place i + length (f i) ≡ place (suc i)) → j < many →
    between (place j) (place (suc j)) (joined f many) ≡ f j
joined_piece f place many j none steps l =
    let left : ℕ = many - suc j in
    let all : many ≡ suc j + left = omega arith in
    let behind = joined (λ n. f (suc j + n)) left in
    let before : length (joined f j) ≡ place j =
    omega (arith, joined_reach f place j (λ i h. steps i (omega arith)), none) in
    let long : length (f j) ≡ place (suc j) - place j = omega (arith, steps j l) in
    ap (λ v. between (place j) (place (suc j)) (joined f v)) all ∙
    (ap (between (place j) (place (suc j))) (joined_on f (suc j) left ∙ append_assoc (joined f j) (f j) behind) ∙
    (ap (take (place (suc j) - place j)) (drop_at (joined f j) (f j ++ behind) (place j) before) ∙
    take_at (f j) behind (place (suc j) - place j) long))

-- parts of a list one after another, each from a place to the next
pub consecutive : {T : Type 0} (xs : List T) (place width : ℕ → ℕ) (many : ℕ) →
    ((i : ℕ) → i < many → place i + width i ≡ place (suc i)) →
    (place 0 ≤ place many) × (joined (λ i. take (width i) (drop (place i) xs)) many ≡ between (place 0) (place many) xs)
consecutive xs place width zero steps =
    (let e : place 0 ≤ place 0 = omega arith in e, sym (between_none xs (place 0)))
consecutive {T} xs place width (suc many) steps =
    let before = consecutive xs place width many (λ i l. steps i (omega arith)) in
    let step = steps many (omega arith) in
    let up : place many ≤ place (suc many) = omega (arith, step) in
    let wide : width many ≡ place (suc many) - place many = omega (arith, step) in (
      omega (arith, before.0, up),
      (λ i. before.1 i ++ take (wide i) (drop (place many) xs))
          ∙ sym (parts.joined xs (place 0) (place many) (place (suc many)) before.0 up),
    )

-- a block dealt out by its sizes, and put together again
pub spread_whole : {T : Type 0} (size : ℕ → ℕ) (ds : List ℕ) (b : List T) →
    ((m n : ℕ) → m < length ds → n < length ds → get_or ds m 0 ≡ get_or ds n 0 → m ≡ n) →
    length b ≡ sum_by size ds → flat_map (spread size ds b) ds ≡ b
spread_whole size [] b once long = sym (none_of b long)
spread_whole {T} size (d ∷ ds) b once long =
    let rest = spread_whole size ds (drop (size d) b)
    (λ m n l h e. let up : suc m ≡ suc n = once (suc m) (suc n) (omega arith) (omega arith) e in omega (arith, up))
    (omega (arith, length-drop (size d) b, long, all)) in
    (λ i. here i ++ (others ∙ rest) i) ∙ take-append-drop (size d) b
  where
    all : sum_by size (d ∷ ds) ≡ size d + sum_by size ds
    all = sum_by-cons size d ds

    here : spread size (d ∷ ds) b d ≡ take (size d) b
    here = ap (λ t. cond t (take (size d) b) (spread size ds (drop (size d) b) d)) (eq-eqb d d (λ _. d))

    others : flat_map (spread size (d ∷ ds) b) ds ≡ flat_map (spread size ds (drop (size d) b)) ds
    others = flat_map_same (spread size (d ∷ ds) b) (spread size ds (drop (size d) b)) ds
        (λ n l. ap (λ t. cond t (take (size d) b) (spread size ds (drop (size d) b) (get_or ds n 0)))
        (ne_eqb d (get_or ds n 0) (λ e. let no : 0 ≡ suc n = once 0 (suc n) (omega arith) (omega arith) e in
        absurd (omega (arith, no)))))

-- each part has its size
pub spread_long : {T : Type 0} (size : ℕ → ℕ) (ds : List ℕ) (b : List T) → length b ≡ sum_by size ds →
    (n c : ℕ) → n < length ds → get_or ds n 0 ≡ c → length (spread size ds b c) ≡ size c
spread_long size [] b long n c l at = absurd (omega arith)
spread_long {T} size (d ∷ ds) b long n c l at = go n l at (cases_eq d c)
    (λ n h e. spread_long size ds (drop (size d) b) (omega (arith, length-drop (size d) b, long, all)) n c h e)
  where
    all : sum_by size (d ∷ ds) ≡ size d + sum_by size ds
    all = sum_by-cons size d ds

    go : (n : ℕ) → n < length (d ∷ ds) → get_or (d ∷ ds) n 0 ≡ c → (d ≡ c) ⊎ (d ≡ c → ⊥) →
        ((n : ℕ) → n < length ds → get_or ds n 0 ≡ c → length (spread size ds (drop (size d) b) c) ≡ size c) →
        length (cond (eqb d c) (take (size d) b) (spread size ds (drop (size d) b) c)) ≡ size c
    go n l at (inl e) later =
        ap (λ t. length (cond t (take (size d) b) (spread size ds (drop (size d) b) c))) (eq-eqb d c e)
        ∙ (length-take-le (size d) b (omega (arith, long, all)) ∙ ap size e)
    go zero l at (inr ne) later = absurd (ne at)
    go (suc n) l at (inr ne) later =
        ap (λ t. length (cond t (take (size d) b) (spread size ds (drop (size d) b) c))) (ne_eqb d c ne)
        ∙ later n (omega arith) at

-- parts that have their sizes, dealt out
pub spread_parts : {T : Type 0} (size : ℕ → ℕ) (g : ℕ → List T) (ds : List ℕ) →
    ((n : ℕ) → n < length ds → length (g (get_or ds n 0)) ≡ size (get_or ds n 0)) →
    (n c : ℕ) → n < length ds → get_or ds n 0 ≡ c → spread size ds (flat_map g ds) c ≡ g c
spread_parts size g [] long n c l at = absurd (omega arith)
spread_parts {T} size g (d ∷ ds) long n c l at = go n l at (cases_eq d c)
    (λ n h e. spread_parts size g ds (λ m h. long (suc m) (omega arith)) n c h e)
  where
    first : length (g d) ≡ size d
    first = long 0 (omega arith)

    go : (n : ℕ) → n < length (d ∷ ds) → get_or (d ∷ ds) n 0 ≡ c → (d ≡ c) ⊎ (d ≡ c → ⊥) →
        ((n : ℕ) → n < length ds → get_or ds n 0 ≡ c → spread size ds (flat_map g ds) c ≡ g c) →
        cond (eqb d c) (take (size d) (g d ++ flat_map g ds))
        (spread size ds (drop (size d) (g d ++ flat_map g ds)) c) ≡
        g c
    go n l at (inl e) later =
        ap (λ t. cond t (take (size d) (g d ++ flat_map g ds))
        (spread size ds (drop (size d) (g d ++ flat_map g ds)) c)) (eq-eqb d c e)
        ∙ (take_at (g d) (flat_map g ds) (size d) first ∙ ap g e)
    go zero l at (inr ne) later = absurd (ne at)
    go (suc n) l at (inr ne) later =
        ap (λ t. cond t (take (size d) (g d ++ flat_map g ds))
        (spread size ds (drop (size d) (g d ++ flat_map g ds)) c)) (ne_eqb d c ne)
        ∙ (ap (λ ys. spread size ds ys c) (drop_at (g d) (flat_map g ds) (size d) first)
        ∙ later n (omega arith) at)
