-- Parts of lists, copied, dealt out and gathered.
use Rattle.std.proofs.Common.{◌≡◌, ℕ, zero, suc, ◌+◌, ◌-◌, ◌*◌, ◌≤◌, ◌<◌, ◌⊎◌, inl, inr, List, ◌∷◌, [], ◌++◌, length}
use Rattle.std.proofs.Common.{take, drop, get_or, slice_range, slice_set, get_or-set_same, sym, ap, ◌∙◌, add-one, arith}
use Rattle.std.proofs.Math.Nat.{mul-suc, mul-zero, mul-le-mul_left}
use Rattle.std.proofs.Math.Seq.{take-add}
use Rattle.std.proofs.lemmas.Bool.{cases_lt}
use Rattle.std.proofs.lemmas.List.{take_all, drop-take, take-take, drop-drop, take-set}
use Rattle.std.proofs.lemmas.List.Edits.{between_more}
use Rattle.std.proofs.lemmas.Slice.{between_is}
use Rattle.sdf_node.specs.Many.{nth_block, joined}
use Rattle.sdf_queues.specs.Parts.{part_at, part_of, AreCopied, KeepsOthers}
use Rattle.sdf_queues.specs.declared.parts.Stride.{Stride}

-- a part copied as far as its next item
pub copied_next : {T : Type 0} (from to : List T) (start at i : ℕ) (v : T) → start + i < length from →
    at + i < length to → v ≡ get_or from (start + i) v →
    slice_range to at (at + i) ≡ slice_range from start (start + i) →
    slice_range (slice_set to (at + i) v) at (at + (i + 1)) ≡ slice_range from start (start + (i + 1))
copied_next from to start at i v there here is same =
    let set = slice_set to (at + i) v in
    let long = Rattle.std.proofs.Math.ListN.length-set to (at + i) v in
    let e : at + (i + 1) ≡ (at + i) + 1 = omega arith in
    let f : start + (i + 1) ≡ (start + i) + 1 = omega arith in
    let kept : slice_range set at (at + i) ≡ slice_range to at (at + i) =
    between_is set at (at + i) ∙ (ap (drop at) (take-set to (at + i) v) ∙ sym (between_is to at (at + i))) in
    let new : get_or set (at + i) v ≡ get_or from (start + i) v = get_or-set_same to (at + i) v v here ∙ is in
    ap (λ n. slice_range set at n) e ∙ (between_more set at (at + i) v (omega arith) (omega arith)
    ∙ ((λ k. (kept ∙ same) k ++ new k ∷ []) ∙ (sym (between_more from start (start + i) v (omega arith) there)
    ∙ ap (λ n. slice_range from start n) (sym f))))

-- a part of one item
pub one_copied : {T : Type 0} (from to : List T) (start at : ℕ) (v : T) → start < length from → at < length to →
    v ≡ get_or from start v → slice_range (slice_set to at v) at (at + 1) ≡ slice_range from start (start + 1)
one_copied {T} from to start at v there here is =
    let set = slice_set to at v in
    let long = Rattle.std.proofs.Math.ListN.length-set to at v in
    let none : (xs : List T) (a : ℕ) → slice_range xs a a ≡ [] = λ xs a. ap (λ n. take n (drop a xs))
    (let e : a - a ≡ 0 = omega arith in e) in
    between_more set at at v (omega arith) (omega arith)
    ∙ ((λ k. none set at k ++ (get_or-set_same to at v v here ∙ is) k ∷ [])
    ∙ (ap (λ xs. xs ++ get_or from start v ∷ []) (sym (none from start))
    ∙ sym (between_more from start start v (omega arith) there)))

-- what lies before a part or behind it is kept
kept_beside : {T : Type 0} (ys zs : List T) (at end a b : ℕ) → take at zs ≡ take at ys → drop end zs ≡ drop end ys →
    (b ≤ at) ⊎ (end ≤ a) → slice_range zs a b ≡ slice_range ys a b
kept_beside ys zs at end a b before behind (inl l) =
    between_is zs a b ∙ (ap (drop a) (sym (take-take b at zs l) ∙ (ap (take b) before ∙ take-take b at ys l))
    ∙ sym (between_is ys a b))
kept_beside ys zs at end a b before behind (inr l) =
    let e : a ≡ end + (a - end) = omega arith in
    let same : drop a zs ≡ drop a ys = ap (λ n. drop n zs) e
    ∙ (sym (drop-drop (a - end) end zs) ∙ (ap (drop (a - end)) behind
    ∙ (drop-drop (a - end) end ys ∙ ap (λ n. drop n ys) (sym e)))) in
    ap (take (b - a)) same

-- parts of a list lie behind one another
parts_apart : (step width j i : ℕ) → j < i → width ≤ step → step * j + width ≤ step * i
parts_apart step width j i l w =
    let m = mul-suc step j in
    let within : step * suc j ≤ step * i = mul-le-mul_left step (omega arith) in
    omega arith

-- the parts at a port, and those that lie side by side, are within the lists that hold them
pub parts_inside : (size at width many n i : ℕ) → at + width ≤ size → n ≡ size * many → i < many →
    (at + size * i) + width ≤ n
parts_inside size at width many n i inside all l = let p = parts_apart size size i many l (omega arith) in omega arith

pub row_inside : (width many n : ℕ) → n ≡ width * many → (i : ℕ) → i < many → (0 + width * i) + width ≤ n
row_inside width many n all i l = let p = parts_apart width width i many l (omega arith) in omega arith

-- a part more is copied
pub copied_more : {T : Type 0} {from before ys zs : List T} {s t : Stride} {width i : ℕ} → width ≤ t.step →
    take (part_at t i) zs ≡ take (part_at t i) ys → drop (part_at t i + width) zs ≡ drop (part_at t i + width) ys →
    part_of t width zs i ≡ part_of s width from i → AreCopied s t width i from before ys →
    AreCopied s t width (i + 1) from before zs
copied_more {T} {from} {before} {ys} {zs} {s} {t} {width} {i} apart kept behind new old = record {
  copied = λ j l. go j (cases_lt j i) l;
  others = λ a b clear. kept_beside ys zs (part_at t i) (part_at t i + width) a b kept behind
      (clear i (omega arith)) ∙ old.others a b (λ j l. clear j (omega arith));
}
  where
    go : (j : ℕ) → (j < i) ⊎ (i ≤ j) → j < i + 1 → part_of t width zs j ≡ part_of s width from j
    go j (inl less) l =
        let p = parts_apart t.step width j i less apart in
        kept_beside ys zs (part_at t i) (part_at t i + width) (part_at t j) (part_at t j + width) kept behind
        (inl (omega arith)) ∙ old.copied j less
    go j (inr last) l = let e : j ≡ i = omega arith in
        ap (part_of t width zs) e ∙ (new ∙ ap (part_of s width from) (sym e))

-- where a block ends
block_end : (size i : ℕ) → size * (i + 1) ≡ size * i + size
block_end size i = ap (λ j. size * j) (add-one i) ∙
    (let m = mul-suc size i in let e : size * suc i ≡ size * i + size = omega arith in e)

-- a part of those that lie side by side
pub row_is : {T : Type 0} (xs : List T) (width i : ℕ) →
    part_of (record { first = 0; step = width }) width xs i ≡ nth_block width xs i
row_is xs width i =
    let at : 0 + width * i ≡ width * i = omega arith in
    let end : (0 + width * i) + width ≡ width * (i + 1) = omega (arith, block_end width i) in
    λ k. slice_range xs (at k) (end k)

-- a port's part of a firing's block, in the list of all blocks
pub part_is : {T : Type 0} (xs : List T) (size i at width : ℕ) → at + width ≤ size →
    part_of (record { first = at; step = size }) width xs i ≡ slice_range (nth_block size xs i) at (at + width)
part_is xs size i at width inside =
    let a = size * i in
    let end : size * (i + 1) ≡ a + size = block_end size i in
    let rest : at + (size - at) ≡ size = omega arith in
    let turn : at + a ≡ a + at = omega arith in
    let block : nth_block size xs i ≡ take size (drop a xs) =
    between_is xs a (size * (i + 1)) ∙ (ap (λ n. drop a (take n xs)) end ∙ drop-take a size xs) in
    let inner : drop at (take size (drop a xs)) ≡ take (size - at) (drop at (drop a xs)) =
    ap (λ n. drop at (take n (drop a xs))) (sym rest) ∙ drop-take at (size - at) (drop a xs) in
    let left : slice_range xs (at + a) ((at + a) + width) ≡ take width (drop (at + a) xs) =
    between_is xs (at + a) ((at + a) + width) ∙ drop-take (at + a) width xs in
    let right : slice_range (nth_block size xs i) at (at + width) ≡ take width (drop at (nth_block size xs i)) =
    between_is (nth_block size xs i) at (at + width) ∙ drop-take at width (nth_block size xs i) in
    left ∙ (ap (λ n. take width (drop n xs)) turn ∙ (ap (take width) (sym (drop-drop at a xs))
    ∙ sym (right ∙ (ap (λ b. take width (drop at b)) block
    ∙ (ap (take width) inner ∙ take-take width (size - at) (drop at (drop a xs)) (omega arith))))))

-- the parts of a list without gaps, joined, are its front
pub parts_joined : {T : Type 0} (f : ℕ → List T) (width many : ℕ) (xs : List T) →
    ((i : ℕ) → i < many → part_of (record { first = 0; step = width }) width xs i ≡ f i) →
    take (width * many) xs ≡ joined f many
parts_joined f width zero xs each = ap (λ n. take n xs) (mul-zero width)
parts_joined f width (suc many) xs each =
    let p = width * many in
    let at : p ≡ 0 + p = omega arith in
    let last : take width (drop p xs) ≡ f many = sym (drop-take p width xs)
    ∙ (sym (between_is xs p (p + width)) ∙ (ap (λ n. slice_range xs n (n + width)) at ∙ each many (omega arith))) in
    ap (λ n. take n xs) (let m = mul-suc width many in let e : width * suc many ≡ p + width = omega arith in e)
    ∙ (take-add p width xs ∙ (λ k. parts_joined f width many xs (λ i l. each i (omega arith)) k ++ last k))

-- a row is its parts, joined
pub row_joined : {T : Type 0} (f : ℕ → List T) (width many : ℕ) (row : List T) → length row ≡ width * many →
    ((i : ℕ) → i < many → part_of (record { first = 0; step = width }) width row i ≡ f i) → row ≡ joined f many
row_joined f width many row long each =
    sym (take_all (width * many) row (omega arith)) ∙ parts_joined f width many row each

-- where there is one port, its row is the list of all blocks
pub whole_part : {T : Type 0} (row blocks : List T) (size at width : ℕ) → at + width ≤ size → width ≡ size →
    blocks ≡ row → (i : ℕ) → part_of (record { first = 0; step = width }) width row i ≡
    slice_range (nth_block size blocks i) at (at + width)
whole_part row blocks size at width inside same is i =
    (λ k. part_of (record { first = start k; step = same k }) width row i)
    ∙ (ap (λ xs. part_of (record { first = at; step = size }) width xs i) (sym is)
    ∙ part_is blocks size i at width inside)
  where
    start : 0 ≡ at
    start = omega arith

-- what stands before a port's parts in the list of all blocks is kept
pub before_kept : {T : Type 0} (size many at width : ℕ) → at + width ≤ size → (xs ys : List T) →
    KeepsOthers (record { first = at; step = size }) width many xs ys →
    (i a w : ℕ) → a + w ≤ at → slice_range (nth_block size ys i) a (a + w) ≡ slice_range (nth_block size xs i) a (a + w)
before_kept size many at width inside xs ys others i a w below =
    sym (part_is ys size i a w (omega arith)) ∙ (others (a + size * i) ((a + size * i) + w)
    (λ j m. beside j (cases_lt j i)) ∙ part_is xs size i a w (omega arith))
  where
    beside : (j : ℕ) → (j < i) ⊎ (i ≤ j) → ((a + size * i) + w ≤ at + size * j)
        ⊎ ((at + size * j) + width ≤ a + size * i)
    beside j (inl less) = let p = parts_apart size size j i less (omega arith) in inr (omega arith)
    beside j (inr more) = let p : size * i ≤ size * j = mul-le-mul_left size more in inl (omega arith)
