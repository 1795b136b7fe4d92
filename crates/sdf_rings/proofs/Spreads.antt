-- A block spread over ports: by their places, and by the numbers of their channels.
use Rattle.std.proofs.Common.{◌≡◌, ℕ, zero, suc, ◌+◌, ◌-◌, ◌<◌, ◌≤◌, List, [], ◌∷◌, ◌++◌, length, get_or, take, drop}
use Rattle.std.proofs.Common.{eqb, refl, sym, ap, ◌∙◌, arith, add-one, drop-drop, append_assoc, append-nil}
use Rattle.std.specs.List.{sum_by, between, range_with_len, flat_map}
use Rattle.std.proofs.lemmas.List.{drop_all}
use Rattle.std.proofs.lemmas.List.Folds.{drop_split}
use Rattle.std.proofs.lemmas.List.Sums.{sum_by-cons}
use Rattle.std.proofs.lemmas.Bool.{cond-true, cond-false, eq-eqb, ne_eqb}
use Rattle.std.proofs.lemmas.Slice.{between_is}
use Rattle.sdf_actor.specs.Histories.{spread}
use Rattle.sdf_rings.specs.Blocks.{start_at, block_of}
use Rattle.sdf_rings.proofs.Blocks.{start_at_zero, start_at_next}

pub start_at_shift : (g : ℕ → ℕ) (m : ℕ) → start_at g (suc m) ≡ g 0 + start_at (λ p. g (suc p)) m
start_at_shift g zero = let z = start_at_zero g in let y = start_at_zero (λ p. g (suc p)) in
    let e : start_at g 1 ≡ start_at g 0 + g 0 = start_at_next g 0 in omega arith
start_at_shift g (suc m) =
    let e : start_at g (suc m + 1) ≡ start_at g (suc m) + g (suc m) = start_at_next g (suc m) in
    let same : start_at g (suc (suc m)) ≡ start_at g (suc m + 1) = ap (start_at g) (sym (add-one (suc m))) in
    let h : start_at (λ p. g (suc p)) (m + 1) ≡ start_at (λ p. g (suc p)) m + g (suc m) =
    start_at_next (λ p. g (suc p)) m in
    let same' : start_at (λ p. g (suc p)) (suc m) ≡ start_at (λ p. g (suc p)) (m + 1) =
    ap (start_at (λ p. g (suc p))) (sym (add-one m)) in
    let ih = start_at_shift g m in
    omega arith

pub start_at_same : (g h : ℕ → ℕ) (m : ℕ) → ((p : ℕ) → p < m → g p ≡ h p) → start_at g m ≡ start_at h m
start_at_same g h zero same = start_at_zero g ∙ sym (start_at_zero h)
start_at_same g h (suc m) same =
    let e : start_at g (m + 1) ≡ start_at g m + g m = start_at_next g m in
    let f : start_at h (m + 1) ≡ start_at h m + h m = start_at_next h m in
    let ih = start_at_same g h m (λ p l. same p (omega arith)) in
    let last : g m ≡ h m = same m (omega arith) in
    let at : start_at g (suc m) ≡ start_at g (m + 1) = ap (start_at g) (sym (add-one m)) in
    let at' : start_at h (suc m) ≡ start_at h (m + 1) = ap (start_at h) (sym (add-one m)) in
    omega arith

-- all of the block
pub start_at_all : (size : ℕ → ℕ) (cs : List ℕ) → start_at (λ p. size (get_or cs p 0)) (length cs) ≡ sum_by size cs
start_at_all size [] = start_at_zero (λ p. size (get_or [] p 0))
start_at_all size (c ∷ cs) =
    let e = start_at_shift (λ p. size (get_or (c ∷ cs) p 0)) (length cs) in
    let ih : start_at (λ p. size (get_or cs p 0)) (length cs) ≡ sum_by size cs = start_at_all size cs in
    e ∙ (ap (λ m. size c + m) ih ∙ sym (sum_by-cons size c cs))

pub start_at_range : (g : ℕ → ℕ) (from m : ℕ) → start_at (λ p. g (from + p)) m ≡ sum_by g (range_with_len from m)
start_at_range g from zero = start_at_zero (λ p. g (from + p))
start_at_range g from (suc m) =
    let e = start_at_shift (λ p. g (from + p)) m in
    let ih : start_at (λ p. g (from + 1 + p)) m ≡ sum_by g (range_with_len (from + 1) m) =
    start_at_range g (from + 1) m in
    let same : start_at (λ p. g (from + suc p)) m ≡ start_at (λ p. g (from + 1 + p)) m =
    start_at_same (λ p. g (from + suc p)) (λ p. g (from + 1 + p)) m (λ p l. ap g (omega arith)) in
    let first : g (from + 0) ≡ g from = ap g (omega arith) in
    omega (arith, e, ih, same, first, sum_by-cons g from (range_with_len (from + 1) m))

pub spread_is_block : {T : Type 0} (size : ℕ → ℕ) (cs : List ℕ) (b : List T) (i : ℕ) → i < length cs →
    ((m n : ℕ) → m < length cs → n < length cs → get_or cs m 0 ≡ get_or cs n 0 → m ≡ n) →
    spread size cs b (get_or cs i 0) ≡ block_of (λ p. size (get_or cs p 0)) i b
spread_is_block size [] b i l once = absurd (omega arith)
spread_is_block {T} size (d ∷ ds) b zero l once =
    let z = start_at_zero (λ p. size (get_or (d ∷ ds) p 0)) in
    cond-true (eqb d d) (take (size d) b) (spread size ds (drop (size d) b) d) (eq-eqb d d refl) ∙
    (sym (between_is b 0 (size d)) ∙ (ap (λ j. between 0 j b) (omega arith)
    ∙ ap (λ i. between i (i + size d) b) (sym z)))
spread_is_block {T} size (d ∷ ds) b (suc m) l once =
    let g : ℕ → ℕ = λ p. size (get_or ds p 0) in
    let c : ℕ = get_or ds m 0 in
    let ne : (d ≡ c → ⊥) = λ e. absurd (let bad : 0 ≡ suc m = once 0 (suc m) (omega arith) l e in omega arith) in
    let ih : spread size ds (drop (size d) b) c ≡ block_of g m (drop (size d) b) =
    spread_is_block size ds (drop (size d) b) m (omega arith)
    (λ i j h k e. let s : suc i ≡ suc j = once (suc i) (suc j) (omega arith) (omega arith) e in omega arith) in
    let at : start_at (λ p. size (get_or (d ∷ ds) p 0)) (suc m) ≡ size d + start_at g m =
    start_at_shift (λ p. size (get_or (d ∷ ds) p 0)) m in
    let part : block_of g m (drop (size d) b) ≡ between (size d + start_at g m) (size d + start_at g m + g m) b =
    ap (λ xs. take ((start_at g m + g m) - start_at g m) xs) (drop-drop (start_at g m) (size d) b) ∙
    ap (λ j. take j (drop (size d + start_at g m) b)) (omega arith) in
    cond-false (eqb d c) (take (size d) b) (spread size ds (drop (size d) b) c) (ne_eqb d c ne)
    ∙ (ih ∙ (part ∙ ap (λ i. between i (i + g m) b) (sym at)))

-- a port's part of a block, by sizes that are the same up to it
pub block_same : {X : Type 0} (g h : ℕ → ℕ) (i : ℕ) (b : List X) → ((p : ℕ) → p < i + 1 → g p ≡ h p) →
    block_of g i b ≡ block_of h i b
block_same g h i b same =
    let from : start_at g i ≡ start_at h i = start_at_same g h i (λ p l. same p (omega arith)) in
    let last : g i ≡ h i = same i (omega arith) in
    ap (λ j. between j (j + g i) b) from ∙ ap (λ m. between (start_at h i) (start_at h i + m) b) last

-- the blocks of the ports from one on, joined, are the rest of the list
joined_from : {X : Type 0} (f : ℕ → List X) (g : ℕ → ℕ) (b : List X) (from m : ℕ) →
    ((p : ℕ) → from ≤ p → p < from + m → f p ≡ block_of g p b) →
    flat_map f (range_with_len from m) ++ drop (start_at g (from + m)) b ≡ drop (start_at g from) b
joined_from f g b from zero same = ap (λ j. drop (start_at g j) b) (omega arith)
joined_from f g b from (suc m) same =
    let here : f from ≡ block_of g from b = same from (omega arith) (omega arith) in
    let next : start_at g (from + 1) ≡ start_at g from + g from = start_at_next g from in
    let ih : flat_map f (range_with_len (from + 1) m) ++ drop (start_at g (from + 1 + m)) b ≡
    drop (start_at g (from + 1)) b =
    joined_from f g b (from + 1) m (λ p h l. same p (omega arith) (omega arith)) in
    let last : drop (start_at g (from + suc m)) b ≡ drop (start_at g (from + 1 + m)) b =
    ap (λ j. drop (start_at g j) b) (omega arith) in
    ap (λ ys. (f from ++ flat_map f (range_with_len (from + 1) m)) ++ ys) last ∙
    (append_assoc (f from) (flat_map f (range_with_len (from + 1) m)) (drop (start_at g (from + 1 + m)) b) ∙
    (ap (λ ys. f from ++ ys) (ih ∙ ap (λ j. drop j b) next) ∙
    (ap (λ ys. ys ++ drop (start_at g from + g from) b) here ∙
    sym (drop_split b (start_at g from) (start_at g from + g from) (omega arith)))))

-- all ports' blocks, joined, are the whole list
pub blocks_joined : {X : Type 0} (f : ℕ → List X) (g : ℕ → ℕ) (b : List X) (m : ℕ) →
    ((p : ℕ) → p < m → f p ≡ block_of g p b) → length b ≡ start_at g m →
    flat_map f (range_with_len 0 m) ≡ b
blocks_joined f g b m same long =
    let end : start_at g (0 + m) ≡ start_at g m = ap (start_at g) (omega arith) in
    let none : drop (start_at g (0 + m)) b ≡ [] = drop_all (start_at g (0 + m)) b (omega arith) in
    let all = joined_from f g b 0 m (λ p h l. same p (omega arith)) in
    sym (append-nil (flat_map f (range_with_len 0 m)))
    ∙ (ap (λ ys. flat_map f (range_with_len 0 m) ++ ys) (sym none) ∙ (all ∙ ap (λ j. drop j b) (start_at_zero g)))
