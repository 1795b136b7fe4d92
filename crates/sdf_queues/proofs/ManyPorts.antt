-- A port more, at which many firings take or put.
use Rattle.std.proofs.Common.{◌≡◌, ℕ, zero, suc, ◌+◌, ◌-◌, ◌*◌, ◌≤◌, ◌<◌, List, [], ◌++◌, length, get_or, set}
use Rattle.std.proofs.Common.{slice_index, take, drop, slice_range, refl, sym, ap, ◌∙◌, subst, arith, add-one}
use Rattle.std.specs.List.{flat_map}
use Rattle.std.proofs.Math.Nat.{suc-mul, mul-le-mul_right}
use Rattle.std.proofs.Math.Seq.{take-add}
use Rattle.std.proofs.lemmas.List.{take_more, flat_map_more, drop-drop, drop-take, take-take, take_all, append-nil}
use Rattle.std.proofs.lemmas.Slice.{between_from_start}
use Rattle.sdf_actor.specs.Histories.{spread}
use Rattle.sdf_node.proofs.Theorems.{blocks_join}
use Rattle.sdf_node.specs.Many.{nth_block, joined}
use Rattle.sdf_queues.specs.QueueValue.{QueueValue}
use Rattle.sdf_queues.specs.Blocks.{samples}
use Rattle.sdf_queues.proofs.Ports.{Turn, put_part, spread_here, spread_on, later_none}

pub same_joined : {T : Type 0} (f g : ℕ → List T) (many : ℕ) → ((i : ℕ) → i < many → f i ≡ g i) →
    joined f many ≡ joined g many
same_joined f g zero same = refl
same_joined f g (suc many) same = λ k. same_joined f g many (λ i l. same i (omega arith)) k ++ same many (omega arith) k

pub joined_none : {T : Type 0} (f : ℕ → List T) (many : ℕ) → ((i : ℕ) → f i ≡ []) → joined f many ≡ []
joined_none f zero none = refl
joined_none f (suc many) none = (λ k. joined f many ++ none many k)
    ∙ (append-nil (joined f many) ∙ joined_none f many none)

-- one piece more
one_more : (i size : ℕ) → (i + 1) * size ≡ i * size + size
one_more i size = ap (λ n. n * size) (add-one i) ∙
    (let e : suc i * size ≡ i * size + size = omega (arith, suc-mul i size) in e)

-- a piece of the front of a list
piece_of_front : {T : Type 0} (xs : List T) (width many i : ℕ) → i < many →
    take width (drop (i * width) (take (many * width) xs)) ≡ take width (drop (i * width) xs)
piece_of_front xs width many i l =
    let next : (i + 1) * width ≤ many * width = mul-le-mul_right width (let e : i + 1 ≤ many = omega arith in e) in
    let m = one_more i width in
    let n : ℕ = many * width - i * width in
    let all : i * width + n ≡ many * width = omega arith in
    ap (λ k. take width (drop (i * width) (take k xs))) (sym all) ∙
    (ap (take width) (drop-take (i * width) n xs) ∙ take-take width n (drop (i * width) xs) (omega arith))

-- a block of a list
block_is : {T : Type 0} (size i : ℕ) (xs : List T) → nth_block size xs i ≡ take size (drop (i * size) xs)
block_is size i xs =
    let m = one_more i size in
    let long : size * (i + 1) - size * i ≡ size = omega arith in
    let from : size * i ≡ i * size = omega arith in
    λ k. take (long k) (drop (from k) xs)

-- a row's part of a firing's block
pub row_block : {T : Type 0} (xs : List T) (width times i : ℕ) → i < times →
    nth_block width (take (times * width) xs) i ≡ take width (drop (i * width) xs)
row_block xs width times i l = block_is width i (take (times * width) xs) ∙ piece_of_front xs width times i l

-- a part of a list from a place on
part_from : {T : Type 0} (at width : ℕ) (xs : List T) → slice_range xs at (at + width) ≡ take width (drop at xs)
part_from at width xs = let long : at + width - at ≡ width = omega arith in ap (λ n. take n (drop at xs)) long

-- a row dealt out to blocks: behind what stood in them
pub row_taken : {T : Type 0} (xs ys zs : List T) (at width times size : ℕ) →
    ((i : ℕ) → i < times →
    slice_range (nth_block size ys i) at (at + width) ≡ nth_block width (take (times * width) xs) i) →
    ((i a w : ℕ) → i < times → a + w ≤ at →
    slice_range (nth_block size ys i) a (a + w) ≡ slice_range (nth_block size zs i) a (a + w)) →
    (i : ℕ) → i < times → take (at + width) (nth_block size ys i) ≡
    take at (nth_block size zs i) ++ take width (drop (i * width) xs)
row_taken xs ys zs at width times size are before i l =
    take-add at width (nth_block size ys i) ∙ (λ k. kept k ++ new k)
  where
    kept : take at (nth_block size ys i) ≡ take at (nth_block size zs i)
    kept = sym (between_from_start (nth_block size ys i) at)
        ∙ (subst (λ n. slice_range (nth_block size ys i) 0 n ≡ slice_range (nth_block size zs i) 0 n)
        (let e : 0 + at ≡ at = omega arith in e) (before i 0 at l (omega arith))
        ∙ between_from_start (nth_block size zs i) at)

    new : take width (drop at (nth_block size ys i)) ≡ take width (drop (i * width) xs)
    new = sym (part_from at width (nth_block size ys i)) ∙ (are i l ∙ row_block xs width times i l)

-- a firing's block with a port more
pub front_more : {T : Type 0} (f : ℕ → List T) (ports : List ℕ) (i : ℕ) (old new part : List T) → i < length ports →
    old ≡ flat_map f (take i ports) → part ≡ f (get_or ports i 0) → new ≡ old ++ part →
    new ≡ flat_map f (take (i + 1) ports)
front_more f ports i old new part l before here is = is ∙ ((λ k. before k ++ here k)
    ∙ (flat_map_more f [] (take i ports) (get_or ports i 0) ∙ ap (flat_map f) (sym (take_more ports i 0 l))))

-- the blocks, once they are whole
pub blocks_whole : {T : Type 0} (f : ℕ → List T) (size times at : ℕ) (xs : List T) →
    length xs ≡ times * size → size ≤ at →
    ((i : ℕ) → i < times → take at (nth_block size xs i) ≡ f i) → xs ≡ joined f times
blocks_whole f size times at xs long past each =
    let are = blocks_join size times xs (omega (arith, long)) in
    sym are.1 ∙ same_joined (nth_block size xs) f times
    (λ i l. sym (take_all at (nth_block size xs i) (omega (arith, are.0 i l))) ∙ each i l)

-- many firings' parts are put at a port more: what is still to be put of the blocks f
module _ {T : Type 0} (t : Turn T) (x q : QueueValue T) (f : ℕ → List T) (times at : ℕ) where
  open t use {ports, was, now, i}

  abbrev size : ℕ → ℕ
  size = slice_index t.sizes

  abbrev d : ℕ
  d = get_or ports i 0

  abbrev still : List ℕ → ℕ → ℕ → List T
  still ds a c = joined (λ j. spread size ds (drop a (f j)) c) times

  step : (c j : ℕ) → spread size (drop (i + 1) ports) (drop (size d) (drop at (f j))) c ≡
      spread size (drop (i + 1) ports) (drop (at + size d) (f j)) c
  step c j = ap (λ ys. spread size (drop (i + 1) ports) ys c) (drop-drop (size d) at (f j))

  pub puts_more : q.samples ≡ (get_or now d x).samples ++ joined (λ j. take (size d) (drop at (f j))) times →
      (all : ℕ → List T) →
      ((c : ℕ) → c < length was → samples now c ++ still (drop i ports) at c ≡ samples was c ++ all c) →
      (c : ℕ) → c < length was →
      samples (set now d q) c ++ still (drop (i + 1) ports) (at + size d) c ≡ samples was c ++ all c
  puts_more moved all before c k =
      put_part t x q (joined (λ j. take (size d) (drop at (f j))) times) moved
      (still (drop i ports) at c) (still (drop (i + 1) ports) (at + size d) c) c
      (λ e. (
        same_joined (λ j. spread size (drop i ports) (drop at (f j)) c) (λ j. take (size d) (drop at (f j))) times
            (λ j m. spread_here t c e (drop at (f j))),
        joined_none (λ j. spread size (drop (i + 1) ports) (drop (at + size d) (f j)) c) times
            (λ j. later_none t c e (drop (at + size d) (f j))),
      ))
      (λ ne. same_joined (λ j. spread size (drop i ports) (drop at (f j)) c)
      (λ j. spread size (drop (i + 1) ports) (drop (at + size d) (f j)) c) times
      (λ j m. spread_on t c ne (drop at (f j)) ∙ step c j))
      ∙ before c k

-- the row that is gathered from blocks
pub row_put : {T : Type 0} (block : List T) (at width more times : ℕ) →
    joined (λ j. slice_range (nth_block more block j) at (at + width)) times ≡
    joined (λ j. take width (drop at (take more (drop (j * more) block)))) times
row_put block at width more times =
    same_joined (λ j. slice_range (nth_block more block j) at (at + width))
    (λ j. take width (drop at (take more (drop (j * more) block)))) times
    (λ j m. part_from at width (nth_block more block j) ∙ ap (λ ys. take width (drop at ys)) (block_is more j block))
