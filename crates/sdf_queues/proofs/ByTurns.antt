-- The samples of two channels by turns, an index more.
use Rattle.std.proofs.Common.{◌≡◌, ℕ, ◌+◌, ◌*◌, ◌≤◌, ◌<◌, List, ◌∷◌, [], ◌++◌, length, get_or, set, take, slice_range}
use Rattle.std.proofs.Common.{sym, ap, ◌∙◌, arith, add-one}
use Rattle.std.specs.List.{between}
use Rattle.std.proofs.lemmas.List.{length-set, take_more_set, append_assoc}
use Rattle.std.proofs.lemmas.List.Edits.{between_more, between_none}
use Rattle.sdf_node.specs.Many.{nth_block, joined}
use Rattle.sdf_queues.proofs.Gathers.{part_is}

-- an item as a part of a list
item_is : {T : Type 0} (xs : List T) (n from to : ℕ) (v : T) → n < length xs → v ≡ get_or xs n v → from ≡ n →
    to ≡ n + 1 → between from to xs ≡ v ∷ []
item_is xs n from to v l is start end =
    (λ k. between (start k) (end k) xs) ∙ (between_more xs n n v (omega arith) l
    ∙ ((λ k. between_none xs n k ++ get_or xs n v ∷ []) ∙ ap (λ y. y ∷ []) (sym is)))

-- two samples more are written by turns
pub woven_next : {T : Type 0} (xs ys zs : List T) (i : ℕ) (a b : T) → i < length xs → i < length ys →
    2 * i + 1 < length zs → a ≡ get_or xs i a → b ≡ get_or ys i b →
    take (2 * i) zs ≡ joined (λ j. nth_block 1 xs j ++ nth_block 1 ys j) i →
    take (2 * (i + 1)) (set (set zs (2 * i) a) (2 * i + 1) b) ≡
    joined (λ j. nth_block 1 xs j ++ nth_block 1 ys j) (i + 1)
woven_next xs ys zs i a b l m n is_a is_b before =
    let more = set zs (2 * i) a in
    let long = length-set zs (2 * i) a in
    let e : 2 * (i + 1) ≡ 2 * i + 1 + 1 = omega arith in
    let first : nth_block 1 xs i ≡ a ∷ [] = item_is xs i (1 * i) (1 * (i + 1)) a l is_a (omega arith) (omega arith) in
    let second : nth_block 1 ys i ≡ b ∷ [] = item_is ys i (1 * i) (1 * (i + 1)) b m is_b (omega arith) (omega arith) in
    ap (λ n. take n (set more (2 * i + 1) b)) e
    ∙ (take_more_set more (2 * i + 1) b (omega (arith, long))
    ∙ (ap (λ ws. ws ++ b ∷ []) (take_more_set zs (2 * i) a (omega arith))
    ∙ (append_assoc (take (2 * i) zs) (a ∷ []) (b ∷ [])
    ∙ ((λ k. before k ++ (sym first k ++ sym second k))
    ∙ ap (joined (λ j. nth_block 1 xs j ++ nth_block 1 ys j)) (sym (add-one i))))))

-- a sample more is parted from those that stand by turns
pub parted_next : {T : Type 0} (xs ps : List T) (at n i : ℕ) (a : T) → at + 1 ≤ 2 → n ≡ at + 2 * i → i < length xs →
    n < length ps → a ≡ get_or ps n a →
    take i xs ≡ joined (λ j. slice_range (nth_block 2 ps j) at (at + 1)) i →
    take (i + 1) (set xs i a) ≡ joined (λ j. slice_range (nth_block 2 ps j) at (at + 1)) (i + 1)
parted_next xs ps at n i a inside here l m is before =
    let one : a ∷ [] ≡ slice_range (nth_block 2 ps i) at (at + 1) =
    sym (item_is ps n (at + 2 * i) (at + 2 * i + 1) a m is (omega arith) (omega arith)) ∙ part_is ps 2 i at 1 inside in
    take_more_set xs i a l ∙ ((λ k. before k ++ one k)
    ∙ ap (joined (λ j. slice_range (nth_block 2 ps j) at (at + 1))) (sym (add-one i)))
