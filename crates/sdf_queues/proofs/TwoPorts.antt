-- Two ports, at each of which a firing moves one sample.
use Rattle.std.proofs.Common.{◌≡◌, ℕ, ◌+◌, ◌*◌, ◌<◌, List, [], ◌++◌, length, get_or, set, take, drop, slice_range}
use Rattle.std.proofs.Common.{refl, sym, ap, ◌∙◌, arith, slice_index, get_or-set_other}
use Rattle.std.specs.List.{flat_map, sum_by}
use Rattle.std.proofs.lemmas.List.{take_all, drop_all, length-set, append-nil, set-set, set_comm}
use Rattle.std.proofs.lemmas.List.Sums.{sum_by-drop_more}
use Rattle.sdf_actor.specs.Histories.{spread}
use Rattle.sdf_node.specs.Many.{nth_block, joined}
use Rattle.sdf_queues.specs.QueueValue.{QueueValue}
use Rattle.sdf_queues.specs.Blocks.{samples, room, at_ports, front_at, dealt, ArePorts}
use Rattle.sdf_queues.specs.TwoPorts.{ArePairs}
use Rattle.sdf_queues.proofs.Ports.{Turn, taken_more, rooms_more}
use Rattle.sdf_queues.proofs.ManyPorts.{front_more, row_block, row_put, joined_none, puts_more}

differ : (m n : ℕ) → m ≡ 0 → n ≡ 1 → m ≡ n → ⊥
differ m n zero one e = omega arith

module _ {ports sizes : List ℕ} (pair : ArePairs ports sizes) where
  abbrev first : ℕ
  first = get_or ports 0 0

  abbrev second : ℕ
  second = get_or ports 1 0

  is_first : 0 < length ports
  is_first = omega (arith, pair.two)

  is_second : 1 < length ports
  is_second = omega (arith, pair.two)

  pub pair_size : sum_by (slice_index sizes) ports ≡ 2
  pair_size =
      let none : sum_by (slice_index sizes) (drop 2 ports) ≡ 0 =
      ap (sum_by (slice_index sizes)) (drop_all 2 ports (omega (arith, pair.two))) in
      omega (
        arith,
        sum_by-drop_more (slice_index sizes) ports 0 0 is_first,
        sum_by-drop_more (slice_index sizes) ports 1 0 is_second,
        pair.one 0 is_first,
        pair.one 1 is_second,
        none,
      )

  both : take 2 ports ≡ ports
  both = take_all 2 ports (omega (arith, pair.two))

  module _ {T : Type 0} (was : List (QueueValue T)) (are : ArePorts ports sizes (length was)) where
    apart : first ≡ second → ⊥
    apart e = differ 0 1 refl refl (are.once 0 1 is_first is_second e)

    abbrev turn : (n : ℕ) → n < length ports → (now : List (QueueValue T)) → length now ≡ length was → Turn T
    turn n l now long = record {
      ports = ports;
      sizes = sizes;
      was = was;
      are = are;
      now = now;
      long = long;
      i = n;
      known = l;
    }

    -- each has its turn
    abbrev one_turn : Turn T
    one_turn = turn 0 is_first was refl

    abbrev other_turn : QueueValue T → Turn T
    other_turn p = turn 1 is_second (set was first p) (length-set was first p)

    -- the block of a firing
    pub pair_front : (times i : ℕ) (xs ys : List T) → i < times → xs ≡ take times (samples was first) →
        ys ≡ take times (samples was second) →
        nth_block 1 xs i ++ nth_block 1 ys i ≡ front_at sizes ports was i
    pair_front times i xs ys l left right =
        front_more part ports 1 (nth_block 1 xs i) (nth_block 1 xs i ++ nth_block 1 ys i) (nth_block 1 ys i) is_second
        (front_more part ports 0 [] (nth_block 1 xs i) (nth_block 1 xs i) is_first refl (one 0 xs is_first left) refl)
        (one 1 ys is_second right) refl
        ∙ ap (flat_map part) both
      where
        part : ℕ → List T
        part c = take (get_or sizes c 0) (drop (i * get_or sizes c 0) (samples was c))

        one : (n : ℕ) (zs : List T) → n < length ports → zs ≡ take times (samples was (get_or ports n 0)) →
            nth_block 1 zs i ≡ part (get_or ports n 0)
        one n zs k is =
            let xs = samples was (get_or ports n 0) in
            let width : 1 ≡ get_or sizes (get_or ports n 0) 0 = sym (pair.one n k) in
            let all : times ≡ times * 1 = omega arith in
            ap (λ zs. nth_block 1 zs i) (is ∙ ap (λ m. take m xs) all)
            ∙ (row_block xs 1 times i l ∙ ap (λ w. take w (drop (i * w) xs)) width)

    -- samples of both are taken
    pub pair_taken : (size : ℕ → ℕ) (x y p q : QueueValue T) →
        p.samples ≡ drop (size first) (get_or was first x).samples →
        q.samples ≡ drop (size second) (get_or (set was first p) second y).samples →
        (c : ℕ) → c < length was → samples (set (set was first p) second q) c ≡
        drop (at_ports ports (size c) c) (samples was c)
    pair_taken size x y p q one two c k =
        taken_more (other_turn p) size y q two (taken_more one_turn size x p one (λ c k. refl)) c k
        ∙ ap (λ ps. drop (at_ports ps (size c) c) (samples was c)) both

    pub pair_rooms : (x y p q : QueueValue T) → p.room ≡ (get_or was first x).room →
        q.room ≡ (get_or (set was first p) second y).room →
        (c : ℕ) → c < length was → room (set (set was first p) second q) c ≡ room was c
    pair_rooms x y p q one two = rooms_more (other_turn p) y q two (rooms_more one_turn x p one (λ c k. refl))

    -- the second queue is taken out while both are put on
    pub lifted : (e p q : QueueValue T) →
        set (set (set was second e) first p) second q ≡ set (set was first p) second q
    lifted e p q =
        ap (λ qs. set qs second q) (set_comm was second first e p (λ f. apart (sym f)))
        ∙ set-set (set was first p) second e q

    pub other_first : (e x : QueueValue T) → get_or (set was second e) first x ≡ get_or was first x
    other_first e x = get_or-set_other was second first e x apart

    pub other_second : (p y : QueueValue T) → get_or (set was first p) second y ≡ get_or was second y
    other_second p y = get_or-set_other was first second p y (λ f. apart (sym f))

    -- samples are put on both
    pub pair_put : (block : List T) (times : ℕ) (x y p q : QueueValue T) →
        p.samples ≡ (get_or was first x).samples ++ joined (λ j. slice_range (nth_block 2 block j) 0 1) times →
        q.samples ≡ (get_or was second y).samples ++ joined (λ j. slice_range (nth_block 2 block j) 1 2) times →
        (c : ℕ) → c < length was → samples (set (set was first p) second q) c ≡
        samples was c ++ dealt sizes ports 2 block c times
    pair_put block times x y p q one two c k =
        let size = λ (d : ℕ). get_or sizes d 0 in
        let f = λ (j : ℕ). take 2 (drop (j * 2) block) in
        let wide : 1 ≡ size first = sym (pair.one 0 is_first) in
        let wider : 1 ≡ size second = sym (pair.one 1 is_second) in
        let now = set was first p in
        let put = λ (c : ℕ). dealt sizes ports 2 block c times in
        let left = one ∙ ap (λ ys. (get_or was first x).samples ++ ys) (row_put block 0 1 2 times
        ∙ ap (λ w. joined (λ j. take w (drop 0 (f j))) times) wide) in
        let right = two ∙ (ap (λ h. h.samples ++ joined (λ j. slice_range (nth_block 2 block j) 1 2) times)
        (sym (other_second p y)) ∙ ap (λ ys. (get_or now second y).samples ++ ys) (row_put block 1 1 2 times
        ∙ (ap (λ w. joined (λ j. take w (drop 1 (f j))) times) wider
        ∙ ap (λ w. joined (λ j. take (size second) (drop (0 + w) (f j))) times) wide))) in
        let on = puts_more one_turn x p f times 0 left put (λ c k. refl) in
        let done = puts_more (other_turn p) y q f times (0 + size first) right put on c k in
        let none = joined_none (λ j. spread size (drop 2 ports) (drop (0 + size first + size second) (f j)) c) times
        (λ j. ap (λ ds. spread size ds (drop (0 + size first + size second) (f j)) c)
        (drop_all 2 ports (omega (arith, pair.two)))) in
        sym (append-nil (samples (set now second q) c))
        ∙ (ap (λ ys. samples (set now second q) c ++ ys) (sym none) ∙ done)
