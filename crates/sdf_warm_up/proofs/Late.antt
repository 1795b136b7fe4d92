-- A history that was started late, and the one from the start: where an actor has forgotten what it took before, both
-- have the same samples.
use Rattle.std.proofs.Common.{◌≡◌, ℕ, zero, suc, ◌+◌, ◌-◌, ◌≤◌, ◌<◌, List, [], ◌∷◌, ◌++◌, length, get_or, take, drop}
use Rattle.std.proofs.Common.{refl, sym, ap, ◌∙◌, subst, subst₂, inl, inr, ◌⊎◌, arith, add-one}
use Rattle.std.specs.List.{between}
use Rattle.std.proofs.lemmas.Bool.{cases_eq, cases_lt}
use Rattle.std.proofs.lemmas.List.{take_all, length-drop, drop-drop}
use Rattle.std.proofs.lemmas.List.Edits.{length-between}
use Rattle.sdf_graph.specs.Sequences.{times, IsEnabled, IsAdmissible, IsPeriod}
use Rattle.sdf_graph.proofs.Theorems.{last_counts_more, others_count_same, fronts_count_within}
use Rattle.sdf_actor.specs.Histories.{Wiring, Answers, taken, put, taken_before, IsHistory, IsWired, size_in}
use Rattle.sdf_actor.proofs.Theorems.{begin_anew, between_past, flat_map_same, flat_map_apart}
use Rattle.sdf_warm_up.proofs.Counting.{reach, enabled_within, port, length_taken, blocks, length_blocks}
use Rattle.sdf_warm_up.proofs.Counting.{length_taken_before, before_and_on, sizes_before}
use Rattle.sdf_warm_up.proofs.Pieces.{part_agrees, parts_join, part_none, ends_agree}

-- blocks that the first firings of an actor may take
abbrev pub AreSized : {T : Type 0} → Wiring T → ℕ → List (List T) → Type 0
AreSized f a past = (i : ℕ) → i < length past → length (get_or past i []) ≡ size_in f a i

-- once an actor has fired memory times since, its answer is the same, whatever it took before
abbrev pub AnswersForget : {T : Type 0} → Wiring T → Answers T → Answers T → (ℕ → ℕ) → (ℕ → ℕ) → (ℕ → ℕ) → Type 0
AnswersForget {T} f x y k since memory =
    (a : ℕ) (early other later : List (List T)) (now : List T) → a < f.rates.actors → length early ≡ since a →
    length other ≡ k a + since a → memory a ≤ length later → AreSized f a (early ++ later) →
    AreSized f a (other ++ later) → y a (early ++ later) now ≡ x a (other ++ later) now

-- V is the history that is started first, and U the one that is started late, along the sequence w: what an actor has
-- taken before it is warm makes no difference
pub record IsLate {T : Type 0} (f : Wiring T) (x y : Answers T) (k m since memory : ℕ → ℕ) (w : List ℕ)
    (V U : ℕ → List T) : Type 0 where
  pub wired : IsWired f
  pub period : IsPeriod f.rates k
  pub long : IsHistory f x (λ a. k a + m a) V
  pub short : IsHistory f y m U
  pub takes : (c : ℕ) → c < f.rates.channels →
      f.rates.initial c + f.rates.produced c (since (f.rates.source c) + memory (f.rates.source c)) ≤
      f.rates.consumed c (since (f.rates.target c))
  pub forget : AnswersForget f x y k since memory
  pub order : IsAdmissible f.rates w
  pub counts : (a : ℕ) → a < f.rates.actors → m a ≡ times w a

module _ {T : Type 0} {f : Wiring T} {x y : Answers T} {k m since memory : ℕ → ℕ} {w : List ℕ} {V U : ℕ → List T}
    (started : IsLate f x y k m since memory w V U) where
  open started use {wired, period, long, short, takes, forget, order, counts}

  -- how many samples of a channel the long run has taken before the short one begins
  abbrev pub used : ℕ → ℕ
  used c = f.rates.consumed c (k (f.rates.target c))

  -- what stands on it from there on
  abbrev pub rest : ℕ → List T
  rest c = drop (used c) (V c)

  -- from which of an actor's firings on, and from which sample on, both are the same
  abbrev pub warm : ℕ → ℕ
  warm a = since a + memory a

  abbrev pub good : ℕ → ℕ
  good c = f.rates.initial c + f.rates.produced c (warm (f.rates.source c))

  -- up to a place
  abbrev pub AreSame : (ℕ → ℕ) → ℕ → Type 0
  AreSame to c = between (good c) (to c) (U c) ≡ between (good c) (to c) (rest c)

  length_rest : (c : ℕ) → c < f.rates.channels → length (rest c) ≡ reach f.rates m c
  length_rest c l =
      omega (
        arith,
        length-drop (used c) (V c),
        long.lengths c l,
        (begin_anew period (f.rates.source c) (m (f.rates.source c)) c l).1 refl,
      )

  enough : (a c : ℕ) → c < f.rates.channels → f.rates.target c ≡ a → f.rates.consumed c (m a) ≤ reach f.rates m c
  enough a c l e = subst (λ b. f.rates.consumed c (m b) ≤ reach f.rates m c) e (short.enough c l)

  module _ (a : ℕ) (known : a < f.rates.actors) where
    -- what a later firing of the long run takes and puts, on what stands there from the period on
    taken_late : (i : ℕ) → taken f V a (k a + i) ≡ taken f rest a i
    taken_late i =
        flat_map_same (λ c. between (f.rates.consumed c (k a + i)) (f.rates.consumed c (k a + i + 1)) (V c))
        (λ c. between (f.rates.consumed c i) (f.rates.consumed c (i + 1)) (rest c)) (f.ins a)
        (λ n h. let is = wired.ins_are a n known h in at (get_or (f.ins a) n 0) is.0 is.1)
      where
        at : (c : ℕ) → c < f.rates.channels → f.rates.target c ≡ a →
            between (f.rates.consumed c (k a + i)) (f.rates.consumed c (k a + i + 1)) (V c) ≡
            between (f.rates.consumed c i) (f.rates.consumed c (i + 1)) (rest c)
        at c l e =
            let from = (begin_anew period a i c l).0 e in
            let to : f.rates.consumed c (k a + i + 1) ≡ f.rates.consumed c (i + 1) + used c =
            ap (f.rates.consumed c) (let z : k a + i + 1 ≡ k a + (i + 1) = omega arith in z)
            ∙ (begin_anew period a (i + 1) c l).0 e in
            (λ κ. between (from κ) (to κ) (V c)) ∙
            between_past (V c) (used c) (f.rates.consumed c i) (f.rates.consumed c (i + 1))

    put_late : (i : ℕ) → put f V a (k a + i) ≡ put f rest a i
    put_late i =
        flat_map_same (λ c. between (f.rates.initial c + f.rates.produced c (k a + i))
        (f.rates.initial c + f.rates.produced c (k a + i + 1)) (V c))
        (λ c. between (f.rates.initial c + f.rates.produced c i) (f.rates.initial c + f.rates.produced c (i + 1))
        (rest c)) (f.outs a)
        (λ n h. let is = wired.outs_are a n known h in at (get_or (f.outs a) n 0) is.0 is.1)
      where
        at : (c : ℕ) → c < f.rates.channels → f.rates.source c ≡ a →
            between (f.rates.initial c + f.rates.produced c (k a + i))
            (f.rates.initial c + f.rates.produced c (k a + i + 1)) (V c) ≡
            between (f.rates.initial c + f.rates.produced c i) (f.rates.initial c + f.rates.produced c (i + 1)) (rest c)
        at c l e =
            let next : f.rates.produced c (k a + i + 1) ≡ f.rates.produced c (i + 1) + used c =
            ap (f.rates.produced c) (let z : k a + i + 1 ≡ k a + (i + 1) = omega arith in z)
            ∙ (begin_anew period a (i + 1) c l).1 e in
            let from : f.rates.initial c + f.rates.produced c (k a + i) ≡
            f.rates.initial c + f.rates.produced c i + used c = omega (arith, (begin_anew period a i c l).1 e) in
            let to : f.rates.initial c + f.rates.produced c (k a + i + 1) ≡
            f.rates.initial c + f.rates.produced c (i + 1) + used c = omega (arith, next) in
            (λ κ. between (from κ) (to κ) (V c)) ∙
            between_past (V c) (used c) (f.rates.initial c + f.rates.produced c i)
            (f.rates.initial c + f.rates.produced c (i + 1))

    blocks_late : (i j : ℕ) → blocks f V a (k a + i) j ≡ blocks f rest a i j
    blocks_late i zero = refl
    blocks_late i (suc j) =
        let earlier = blocks_late i j in
        let now = ap (taken f V a) (let e : k a + i + j ≡ k a + (i + j) = omega arith in e) ∙ taken_late (i + j) in
        λ κ. earlier κ ++ now κ ∷ []

    -- the blocks of both runs have the sizes of their firings
    sized_short : (n : ℕ) → n ≤ m a → AreSized f a (taken_before f U a n)
    sized_short n h i l =
        let low : i < n = omega (arith, length_taken_before f U a n) in
        sizes_before f U a (size_in f a) n (λ j g. length_taken f wired U a j known (λ c lc e.
        omega (arith, wired.sound.consumed_rises c (j + 1) (m a) (omega arith), enough a c lc e, short.lengths c lc)))
        i low

    sized_long : (n : ℕ) → n ≤ k a + m a → AreSized f a (taken_before f V a n)
    sized_long n h i l =
        let low : i < n = omega (arith, length_taken_before f V a n) in
        sizes_before f V a (size_in f a) n (λ j g. length_taken f wired V a j known (λ c lc e.
        omega (
          arith,
          wired.sound.consumed_rises c (j + 1) (k a + m a) (omega arith),
          subst (λ b. f.rates.consumed c (k b + m b) ≤ reach f.rates (λ d. k d + m d) c) e (long.enough c lc),
          long.lengths c lc,
        )))
        i low

    -- where both have the same samples up to what the next firings take
    module _ (to : ℕ → ℕ) (same : (c : ℕ) → c < f.rates.channels → AreSame to c) where
      taken_same : (i : ℕ) → since a ≤ i →
          ((c : ℕ) → c < f.rates.channels → f.rates.target c ≡ a → f.rates.consumed c (i + 1) ≤ to c) →
          taken f U a i ≡ taken f rest a i
      taken_same i h within =
          flat_map_same (λ c. between (f.rates.consumed c i) (f.rates.consumed c (i + 1)) (U c))
          (λ c. between (f.rates.consumed c i) (f.rates.consumed c (i + 1)) (rest c)) (f.ins a)
          (λ n g. let is = wired.ins_are a n known g in at (get_or (f.ins a) n 0) is.0 is.1)
        where
          at : (c : ℕ) → c < f.rates.channels → f.rates.target c ≡ a →
              between (f.rates.consumed c i) (f.rates.consumed c (i + 1)) (U c) ≡
              between (f.rates.consumed c i) (f.rates.consumed c (i + 1)) (rest c)
          at c l e =
              let first : good c ≤ f.rates.consumed c (since a) =
              subst (λ b. good c ≤ f.rates.consumed c (since b)) e (takes c l) in
              let rise : f.rates.consumed c (since a) ≤ f.rates.consumed c i =
              wired.sound.consumed_rises c (since a) i h in
              part_agrees (U c) (rest c) (good c) (to c) (f.rates.consumed c i) (f.rates.consumed c (i + 1)) (same c l)
              (omega arith) (wired.sound.consumed_rises c i (i + 1) (omega arith)) (within c l e)

      blocks_same : (j : ℕ) →
          ((c : ℕ) → c < f.rates.channels → f.rates.target c ≡ a → f.rates.consumed c (since a + j) ≤ to c) →
          blocks f U a (since a) j ≡ blocks f rest a (since a) j
      blocks_same zero within = refl
      blocks_same (suc j) within =
          let earlier = blocks_same j (λ c l e. omega (
            arith,
            within c l e,
            wired.sound.consumed_rises c (since a + j) (since a + suc j) (omega arith),
          )) in
          let now = taken_same (since a + j) (omega arith) (λ c l e.
          subst (λ n. f.rates.consumed c n ≤ to c) (let z : since a + suc j ≡ since a + j + 1 = omega arith in z)
          (within c l e)) in
          λ κ. earlier κ ++ now κ ∷ []

      -- all that an actor has taken, in two parts of which the later is the same
      pub past_short : (i : ℕ) → since a ≤ i →
          taken_before f U a i ≡ taken_before f U a (since a) ++ blocks f U a (since a) (i - since a)
      past_short i h =
          ap (taken_before f U a) (let e : i ≡ since a + (i - since a) = omega arith in e)
          ∙ before_and_on f U a (since a) (i - since a)

      pub past_long : (i : ℕ) → since a ≤ i →
          ((c : ℕ) → c < f.rates.channels → f.rates.target c ≡ a → f.rates.consumed c i ≤ to c) →
          taken_before f V a (k a + i) ≡
          taken_before f V a (k a + since a) ++ blocks f U a (since a) (i - since a)
      past_long i h within =
          ap (taken_before f V a) (let e : k a + i ≡ k a + since a + (i - since a) = omega arith in e) ∙
          (before_and_on f V a (k a + since a) (i - since a) ∙
          ap (λ b. taken_before f V a (k a + since a) ++ b)
          (blocks_late (since a) (i - since a) ∙ sym (blocks_same (i - since a) (λ c l e.
          subst (λ n. f.rates.consumed c n ≤ to c) (let z : i ≡ since a + (i - since a) = omega arith in z)
          (within c l e)))))

      pub long_sized : (i : ℕ) → since a ≤ i → i ≤ m a →
          ((c : ℕ) → c < f.rates.channels → f.rates.target c ≡ a → f.rates.consumed c i ≤ to c) →
          AreSized f a (taken_before f V a (k a + since a) ++ blocks f U a (since a) (i - since a))
      long_sized i h g within =
          subst (AreSized f a) (past_long i h within) (sized_long (k a + i) (omega arith))

      pub short_sized : (i : ℕ) → since a ≤ i → i ≤ m a →
          AreSized f a (taken_before f U a (since a) ++ blocks f U a (since a) (i - since a))
      short_sized i h g = subst (AreSized f a) (past_short i h) (sized_short i g)

  -- so a warm actor that finds the same puts the same
  put_same : (a : ℕ) → a < f.rates.actors → (to : ℕ → ℕ) → ((c : ℕ) → c < f.rates.channels → AreSame to c) →
      (i : ℕ) → warm a ≤ i → i < m a →
      ((c : ℕ) → c < f.rates.channels → f.rates.target c ≡ a → f.rates.consumed c (i + 1) ≤ to c) →
      put f U a i ≡ put f rest a i
  put_same a known to same i h g within =
      let here : (c : ℕ) → c < f.rates.channels → f.rates.target c ≡ a → f.rates.consumed c i ≤ to c =
      (λ c l e. omega (arith, within c l e, wired.sound.consumed_rises c i (i + 1) (omega arith))) in
      let past_u = past_short a known to same i (omega arith) in
      let past_v = past_long a known to same i (omega arith) here in
      let now = taken_same a known to same i (omega arith) within in
      let b : List (List T) = blocks f U a (since a) (i - since a) in
      short.steps a i known g ∙
      ((λ κ. y a (past_u κ) (taken f U a i)) ∙
      (forget a (taken_before f U a (since a)) (taken_before f V a (k a + since a)) b (taken f U a i) known
      (length_taken_before f U a (since a)) (length_taken_before f V a (k a + since a))
      (omega (arith, length_blocks f U a (since a) (i - since a)))
      (short_sized a known to same i (omega arith) (omega arith))
      (long_sized a known to same i (omega arith) (omega arith) here) ∙
      ((λ κ. x a (sym past_v κ) ((now ∙ sym (taken_late a known i)) κ)) ∙
      (sym (long.steps a (k a + i) known (omega arith)) ∙ put_late a known i))))

  -- the part of a channel that a firing puts
  abbrev part : (ℕ → List T) → ℕ → ℕ → List T
  part W i c = between (f.rates.initial c + f.rates.produced c i)
      (f.rates.initial c + f.rates.produced c (i + 1)) (W c)

  part_long : (W : ℕ → List T) → ((c : ℕ) → c < f.rates.channels → length (W c) ≡ reach f.rates m c) →
      (a i : ℕ) → i < m a → (c : ℕ) → c < f.rates.channels → f.rates.source c ≡ a →
      length (part W i c) ≡ f.rates.produced c (i + 1) - f.rates.produced c i
  part_long W lengths a i g c l e =
      let all : length (W c) ≡ f.rates.initial c + f.rates.produced c (m a) =
      lengths c l ∙ ap (λ b. f.rates.initial c + f.rates.produced c (m b)) e in
      let rise : f.rates.produced c (i + 1) ≤ f.rates.produced c (m a) =
      wired.sound.produced_rises c (i + 1) (m a) (omega arith) in
      let size : length (part W i c) ≡ (f.rates.initial c + f.rates.produced c (i + 1))
      - (f.rates.initial c + f.rates.produced c i) =
      length-between (W c) (f.rates.initial c + f.rates.produced c i) (f.rates.initial c + f.rates.produced c (i + 1))
      (omega arith) in
      omega arith

  part_same : (a i : ℕ) → i < m a → put f U a i ≡ put f rest a i → (c : ℕ) → c < f.rates.channels →
      f.rates.source c ≡ a → part U i c ≡ part rest i c
  part_same a i g e c l src =
      let known : a < f.rates.actors = subst (λ b. b < f.rates.actors) src (wired.sound.source_in c l) in
      let at = port f wired c l a src in
      subst (λ b. part U i b ≡ part rest i b) at.2
      (flat_map_apart (part U i) (part rest i) (f.outs a)
      (λ n h. let is = wired.outs_are a n known h in
      part_long U short.lengths a i g (get_or (f.outs a) n 0) is.0 is.1 ∙
      sym (part_long rest length_rest a i g (get_or (f.outs a) n 0) is.0 is.1))
      e at.0 at.1)

  -- along the sequence
  abbrev at : ℕ → ℕ → ℕ
  at n c = reach f.rates (times (take n w)) c

  one_more : (n : ℕ) → n < length w → (c : ℕ) → c < f.rates.channels → (a : ℕ) → get_or w n 0 ≡ a →
      f.rates.source c ≡ a → ((d : ℕ) → d < f.rates.channels → AreSame (at n) d) → AreSame (at (n + 1)) c
  one_more n h c l a e src before = go (cases_lt i (warm a))
    where
      i : ℕ
      i = times (take n w) a

      known : a < f.rates.actors
      known = subst (λ b. b < f.rates.actors) e (order n h).0

      next : times (take (n + 1) w) a ≡ i + 1
      next = last_counts_more w n a h e

      from : at n c ≡ f.rates.initial c + f.rates.produced c i
      from = ap (λ b. f.rates.initial c + f.rates.produced c (times (take n w) b)) src

      to : at (n + 1) c ≡ f.rates.initial c + f.rates.produced c (i + 1)
      to = ap (λ b. f.rates.initial c + f.rates.produced c (times (take (n + 1) w) b)) src
          ∙ ap (λ j. f.rates.initial c + f.rates.produced c j) next

      first : good c ≡ f.rates.initial c + f.rates.produced c (warm a)
      first = ap (λ b. f.rates.initial c + f.rates.produced c (warm b)) src

      on : IsEnabled f.rates (times (take n w)) a
      on = subst (IsEnabled f.rates (times (take n w))) e (order n h).1

      here : i < m a
      here = omega (arith, counts a known, next, fronts_count_within w (n + 1) a)

      go : (i < warm a) ⊎ (warm a ≤ i) → AreSame (at (n + 1)) c
      go (inl early) = part_none (U c) (rest c) (good c) (at (n + 1) c)
          (omega (arith, to, first, wired.sound.produced_rises c (i + 1) (warm a) (omega arith)))
      go (inr late) =
          let more : part U i c ≡ part rest i c = part_same a i here (put_same a known (at n) before i late here
          (enabled_within f.rates (times (take n w)) a on)) c l src in
          parts_join (U c) (rest c) (good c) (at n c) (at (n + 1) c)
          (omega (arith, from, first, wired.sound.produced_rises c (warm a) i late))
          (omega (arith, from, to, wired.sound.produced_rises c i (i + 1) (omega arith))) (before c l)
          (subst₂ (λ p q. between p q (U c) ≡ between p q (rest c)) (sym from) (sym to) more)

  pub along : (n : ℕ) → n ≤ length w → (c : ℕ) → c < f.rates.channels → AreSame (at n) c
  along zero h c l = part_none (U c) (rest c) (good c) (at 0 c) (omega (arith, wired.sound.produced_none c))
  along (suc n) h c l = rw add-one at (go (along n (omega arith)) (cases_eq (get_or w n 0) (f.rates.source c)))
    where
      go : ((d : ℕ) → d < f.rates.channels → AreSame (at n) d) →
          (get_or w n 0 ≡ f.rates.source c) ⊎ (get_or w n 0 ≡ f.rates.source c → ⊥) → AreSame (at (n + 1)) c
      go before (inl e) = one_more n h c l (f.rates.source c) e refl before
      go before (inr ne) = subst (λ j. between (good c) (f.rates.initial c + f.rates.produced c j) (U c) ≡
          between (good c) (f.rates.initial c + f.rates.produced c j) (rest c))
          (sym (others_count_same w n (f.rates.source c) h ne)) (before c l)

  pub all_same : (c : ℕ) → c < f.rates.channels → AreSame (reach f.rates m) c
  all_same c l =
      let source : times (take (length w) w) (f.rates.source c) ≡ m (f.rates.source c) =
      ap (λ v. times v (f.rates.source c)) (take_all (length w) w (omega arith)) ∙
      sym (counts (f.rates.source c) (wired.sound.source_in c l)) in
      subst (λ j. between (good c) (f.rates.initial c + f.rates.produced c j) (U c) ≡
      between (good c) (f.rates.initial c + f.rates.produced c j) (rest c)) source
      (along (length w) (omega arith) c l)

  -- what both runs leave on a channel
  pub held_same : (c : ℕ) → c < f.rates.channels → since (f.rates.target c) ≤ m (f.rates.target c) →
      drop (f.rates.consumed c (m (f.rates.target c))) (U c) ≡
      drop (f.rates.consumed c (k (f.rates.target c) + m (f.rates.target c))) (V c)
  held_same c l g =
      let took : used c + f.rates.consumed c (m (f.rates.target c)) ≡
      f.rates.consumed c (k (f.rates.target c) + m (f.rates.target c)) =
      omega (arith, (begin_anew period (f.rates.target c) (m (f.rates.target c)) c l).0 refl) in
      ends_agree (U c) (rest c) (good c) (reach f.rates m c) (f.rates.consumed c (m (f.rates.target c)))
      (all_same c l) (short.lengths c l) (length_rest c l)
      (omega (
        arith,
        takes c l,
        wired.sound.consumed_rises c (since (f.rates.target c)) (m (f.rates.target c)) g,
      )) ∙
      (drop-drop (f.rates.consumed c (m (f.rates.target c))) (used c) (V c) ∙ ap (λ j. drop j (V c)) took)

  -- what an actor took in both runs
  module _ (a : ℕ) (known : a < f.rates.actors) (g : since a ≤ m a) where
    abbrev pub early : List (List T)
    early = taken_before f U a (since a)

    abbrev pub other : List (List T)
    other = taken_before f V a (k a + since a)

    abbrev pub common : List (List T)
    common = blocks f U a (since a) (m a - since a)

    all_within : (c : ℕ) → c < f.rates.channels → f.rates.target c ≡ a →
        f.rates.consumed c (m a) ≤ reach f.rates m c
    all_within c l e = enough a c l e

    pub all_short : taken_before f U a (m a) ≡ early ++ common
    all_short = past_short a known (reach f.rates m) all_same (m a) g

    pub all_long : taken_before f V a (k a + m a) ≡ other ++ common
    all_long = past_long a known (reach f.rates m) all_same (m a) g all_within

    pub all_short_sized : AreSized f a (early ++ common)
    all_short_sized = short_sized a known (reach f.rates m) all_same (m a) g (omega arith)

    pub all_long_sized : AreSized f a (other ++ common)
    all_long_sized = long_sized a known (reach f.rates m) all_same (m a) g (omega arith) all_within
