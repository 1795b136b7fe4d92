-- The blocks of many firings at the ends of rings, those of one firing after those of another.
use Rattle.std.proofs.Common.{◌≡◌, ℕ, zero, suc, ◌+◌, ◌-◌, ◌*◌, ◌≤◌, ◌<◌, List, ◌++◌, length, get_or, take, drop}
use Rattle.std.proofs.Common.{slice_range, slice_set, get_or-set_same, refl, sym, ap, ◌∙◌, subst, arith, add-one}
use Rattle.std.specs.List.{between}
use Rattle.std.proofs.Math.Nat.{mul-suc, suc-mul}
use Rattle.std.proofs.lemmas.List.{take_all, get_or_default}
use Rattle.std.proofs.lemmas.List.Edits.{length-between}
use Rattle.std.proofs.lemmas.Slice.{between_is, between_from_start}
use Rattle.sdf_node.specs.Many.{nth_block, joined}
use Rattle.sdf_node.proofs.Theorems.{blocks_join}
use Rattle.sdf_rings.specs.Blocks.{start_at, block_of}
use Rattle.sdf_rings.proofs.Blocks.{block_in, start_at_zero, start_at_next}

pub same_joined : {T : Type 0} (f g : ℕ → List T) (many : ℕ) → ((i : ℕ) → i < many → f i ≡ g i) →
    joined f many ≡ joined g many
same_joined f g zero same = refl
same_joined f g (suc many) same = λ k. same_joined f g many (λ i l. same i (omega arith)) k ++ same many (omega arith) k

-- where the block of a firing begins and ends
pub place : (size i at : ℕ) → at ≡ size * i → at + size ≡ size * (i + 1)
place size i at e = let m = mul-suc size i in let n : size * (i + 1) ≡ size * suc i = ap (λ j. size * j) (add-one i) in
    omega arith

pub nth_is : {T : Type 0} (size i at : ℕ) (xs : List T) → at ≡ size * i →
    slice_range xs at (at + size) ≡ nth_block size xs i
nth_is size i at xs e = λ k. between (e k) (place size i at e k) xs

pub fits : (size many i at long : ℕ) → i < many → at ≡ size * i → long ≡ size * many → at + size ≤ long
fits size many i at long l e is = let within : size * (i + 1) ≤ size * many =
    Rattle.std.proofs.Math.Nat.mul-le-mul_left size (omega arith) in let p = place size i at e in omega arith

-- the blocks before a place are kept where the front is
nth_kept : {T : Type 0} (size i j at : ℕ) (xs ys : List T) → j < i → at ≡ size * i →
    ((n : ℕ) → n ≤ at → take n ys ≡ take n xs) → nth_block size ys j ≡ nth_block size xs j
nth_kept size i j at xs ys l e same =
    let within : size * (j + 1) ≤ size * i = Rattle.std.proofs.Math.Nat.mul-le-mul_left size (omega arith) in
    between_is ys (size * j) (size * (j + 1)) ∙ (ap (drop (size * j)) (same (size * (j + 1)) (omega arith))
    ∙ sym (between_is xs (size * j) (size * (j + 1))))

-- a block more is there while some are left
pub one_left : (many i size have : ℕ) → i < many → (many - i) * size ≤ have → size ≤ have
one_left many i size have l h = let e : many - i ≡ suc (many - (i + 1)) = omega arith in let m =
    suc-mul (many - (i + 1)) size in let f : (many - i) * size ≡ suc (many - (i + 1)) * size = ap (λ j. j * size) e in
    omega arith

left_after : (many i size have have' part : ℕ) → i < many → (many - i) * size ≤ have → have ≤ part + have' →
    part ≡ size → (many - (i + 1)) * size ≤ have'
left_after many i size have have' part l h less is =
    let e : many - i ≡ suc (many - (i + 1)) = omega arith in let m = suc-mul (many - (i + 1)) size in
    let f : (many - i) * size ≡ suc (many - (i + 1)) * size = ap (λ j. j * size) e in omega arith

block_long : {T : Type 0} (g : ℕ → ℕ) (p ports at size : ℕ) (xs : List T) → p < ports → size ≡ start_at g ports →
    at + size ≤ length xs → length (block_of g p (slice_range xs at (at + size))) ≡ g p
block_long g p ports at size xs l size_is inside =
    let part = block_in g p ports l in
    let long = length-between xs at (at + size) inside in
    length-between (slice_range xs at (at + size)) (start_at g p) (start_at g p + g p) (omega arith) ∙ omega arith

-- what moved at each of the ends
abbrev pub Moves : {X T : Type 0} → (X → X → List T → Type 0) → List X → List X → (ℕ → List T) → Type 0
Moves {X = X} R before after at = (k : ℕ) (d : X) → k < length before → R (get_or before k d) (get_or after k d) (at k)

module _ {X T : Type 0} (R : X → X → List T → Type 0) (g : ℕ → ℕ) (size many i at : ℕ) (l : i < many)
    (at_is : at ≡ size * i) where
  -- firing i's blocks moved after those of the firings before it
  pub moved_next : ((a b c : X) (xs ys : List T) → R a b xs → R b c ys → R a c (xs ++ ys)) →
      (before mid after : List X) (xs ys : List T) → length mid ≡ length before →
      Moves R before mid (λ p. joined (λ j. block_of g p (nth_block size xs j)) i) →
      Moves R mid after (λ p. block_of g p (slice_range ys at (at + size))) →
      ((n : ℕ) → n ≤ at → take n ys ≡ take n xs) → Moves R before after
      (λ p. joined (λ j. block_of g p (nth_block size ys j)) (i + 1))
  moved_next join before mid after xs ys long p q same = λ k d h.
      let new : block_of g k (slice_range ys at (at + size)) ≡ block_of g k (nth_block size ys i) =
      ap (λ b. block_of g k b) (nth_is size i at ys at_is) in
      let old : joined (λ j. block_of g k (nth_block size xs j)) i ≡
      joined (λ j. block_of g k (nth_block size ys j)) i =
      same_joined (λ j. block_of g k (nth_block size xs j)) (λ j. block_of g k (nth_block size ys j)) i
      (λ j m. ap (λ b. block_of g k b) (sym (nth_kept size i j at xs ys m at_is same))) in
      let all : joined (λ j. block_of g k (nth_block size xs j)) i ++ block_of g k (slice_range ys at (at + size)) ≡
      joined (λ j. block_of g k (nth_block size ys j)) (i + 1) =
      (λ m. old m ++ new m) ∙ ap (joined (λ j. block_of g k (nth_block size ys j))) (sym (add-one i)) in
      subst (R (get_or before k d) (get_or after k d)) all
      (join (get_or before k d) (get_or mid k d) (get_or after k d) _ _ (p k d h) (q k d (omega arith)))

  -- the firings still to come find what they want at each of the ends
  pub left_next : (has : X → ℕ) → ((a b : X) (xs : List T) → R a b xs → has a ≤ length xs + has b) →
      (mid after : List X) (ys : List T) (ports : ℕ) →
      length after ≡ length mid → length mid ≡ ports → size ≡ start_at g ports → at + size ≤ length ys →
      Moves R mid after (λ p. block_of g p (slice_range ys at (at + size))) →
      ((k : ℕ) (d : X) → k < length mid → (many - i) * g k ≤ has (get_or mid k d)) → (k : ℕ) (d : X) →
      k < length after → (many - (i + 1)) * g k ≤ has (get_or after k d)
  left_next has less mid after ys ports long all size_is inside q have = λ k d h.
      let m : k < length mid = omega arith in
      left_after many i (g k) (has (get_or mid k d)) (has (get_or after k d))
      (length (block_of g k (slice_range ys at (at + size)))) l (have k d m)
      (less (get_or mid k d) (get_or after k d) (block_of g k (slice_range ys at (at + size))) (q k d m))
      (block_long g k ports at size ys (omega arith) size_is inside)

-- at a lone port they are the whole list
pub lone_port : {T : Type 0} (g : ℕ → ℕ) (size many : ℕ) (xs : List T) → size ≡ start_at g 1 →
    length xs ≡ size * many → joined (λ i. block_of g 0 (nth_block size xs i)) many ≡ xs
lone_port g size many xs size_is long =
    let z = start_at_zero g in
    let o : start_at g 1 ≡ start_at g 0 + g 0 = start_at_next g 0 in
    let end : start_at g 0 + g 0 ≡ size = omega arith in
    let each = blocks_join size many xs long in
    same_joined (λ i. block_of g 0 (nth_block size xs i)) (nth_block size xs) many (λ i l.
    (λ k. between (z k) (end k) (nth_block size xs i))
    ∙ (between_from_start (nth_block size xs i) size
    ∙ take_all size (nth_block size xs i) (let e = each.0 i l in omega arith))) ∙
    each.1

-- how many blocks are there at each of the ends below
pub few_kept : (few many size have : ℕ) → few ≤ many → many * size ≤ have → few * size ≤ have
few_kept few many size have l h = let less = Rattle.std.proofs.Math.Nat.mul-le-mul_right size l in omega arith

-- what is known at a lone port is enough for all of them
pub lone_fits : (g : ℕ → ℕ) (size many ports have long : ℕ) → ports ≡ 1 → size ≡ start_at g ports → long ≡ size * many →
    many * g 0 ≤ have → long ≤ have
lone_fits g size many ports have long one size_is long_is enough =
    let z = start_at_zero g in
    let o : start_at g 1 ≡ start_at g 0 + g 0 = start_at_next g 0 in
    let only : start_at g ports ≡ start_at g 1 = ap (start_at g) one in
    let same : size * many ≡ many * g 0 = Rattle.std.proofs.Math.Nat.mul_comm size many
    ∙ ap (λ m. many * m) (omega (arith, z, o, only, size_is)) in
    omega (arith, same, long_is, enough)

-- only the lone end moved
pub lone_end : {X Y : Type 0} (R : X → X → Y → Type 0) (ends : List X) (old new : X) (moved : Y) (at : ℕ → Y) →
    length ends ≡ 1 → R (get_or ends 0 old) new moved → at 0 ≡ moved →
    (i : ℕ) (d : X) → i < length ends → R (get_or ends i d) (get_or (slice_set ends 0 new) i d) (at i)
lone_end {X} {Y} R ends old new moved at one r at_is zero d h =
    let there : 0 < length ends = omega (arith, one) in
    let before : get_or ends 0 d ≡ get_or ends 0 old = get_or_default ends 0 d old there in
    let after : get_or (slice_set ends 0 new) 0 d ≡ new = get_or-set_same ends 0 new d there in
    subst (λ y. R (get_or ends 0 d) (get_or (slice_set ends 0 new) 0 d) y) (sym at_is)
    (subst (λ z. R (get_or ends 0 d) z moved) (sym after) (subst (λ z. R z new moved) (sym before) r))
lone_end R ends old new moved at one r at_is (suc i) d h = absurd (omega (arith, one))
