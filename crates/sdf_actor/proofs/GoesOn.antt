-- A history goes on where another wiring, with the same channels, begins with the samples that it left.
use Rattle.std.proofs.Common.{◌≡◌, ℕ, zero, suc, ◌+◌, ◌-◌, ◌≤◌, ◌<◌, List, [], ◌∷◌, ◌++◌, length, get_or, take, drop}
use Rattle.std.proofs.Common.{sym, ap, ◌∙◌, subst, inl, inr, ◌⊎◌, arith, append_assoc}
use Rattle.std.specs.List.{flat_map, between}
use Rattle.std.proofs.lemmas.List.{take-append-le, take-append-drop, drop-append-le, drop-drop}
use Rattle.std.proofs.lemmas.List.{append-nil, length-append, length-drop}
use Rattle.std.proofs.lemmas.Bool.{cases_lt}
use Rattle.sdf_graph.specs.Rates.{Rates}
use Rattle.sdf_graph.specs.Sequences.{IsPeriod}
use Rattle.sdf_actor.specs.Histories.{Wiring, Answers, taken, put, taken_before, IsHistory, IsWired, AnswersAgree}
use Rattle.sdf_actor.specs.Laws.{RatesBeginAnew}
use Rattle.sdf_actor.proofs.Agree.{SameInput, SameOutput, taken_agrees, taken_before_agrees, put_agrees}
use Rattle.sdf_actor.proofs.Agree.{length_taken_before}
use Rattle.sdf_actor.proofs.Pieces.{flat_map_same, take_on}

-- wirings with the same channels, rates and ports, whatever the channels begin with
pub record SameWiring {T : Type 0} (f g : Wiring T) : Type 0 where
  pub actors : g.rates.actors ≡ f.rates.actors
  pub channels : g.rates.channels ≡ f.rates.channels
  pub source : (c : ℕ) → c < f.rates.channels → g.rates.source c ≡ f.rates.source c
  pub target : (c : ℕ) → c < f.rates.channels → g.rates.target c ≡ f.rates.target c
  pub initial : (c : ℕ) → c < f.rates.channels → g.rates.initial c ≡ f.rates.initial c
  pub produced : (c n : ℕ) → c < f.rates.channels → g.rates.produced c n ≡ f.rates.produced c n
  pub consumed : (c n : ℕ) → c < f.rates.channels → g.rates.consumed c n ≡ f.rates.consumed c n
  pub ins : (a : ℕ) → a < f.rates.actors → g.ins a ≡ f.ins a
  pub outs : (a : ℕ) → a < f.rates.actors → g.outs a ≡ f.outs a

-- a part behind the first n
pub between_past : {X : Type 0} (xs : List X) (n i j : ℕ) → between (i + n) (j + n) xs ≡ between i j (drop n xs)
between_past xs n i j =
    let size : (j + n) - (i + n) ≡ j - i = omega arith in
    let place : drop (i + n) xs ≡ drop i (drop n xs) =
    ap (λ m. drop m xs) (let e : i + n ≡ n + i = omega arith in e) ∙ sym (drop-drop i n xs) in
    λ κ. take (size κ) (place κ)

-- a beginning that goes past the first n
take_past : {X : Type 0} (xs : List X) (n i : ℕ) → take (n + i) xs ≡ take n xs ++ take i (drop n xs)
take_past xs n i =
    let size : n + i - n ≡ i = omega arith in
    take_on xs n (n + i) (omega arith) ∙ ap (λ m. take n xs ++ take m (drop n xs)) size

pub begin_anew : {r : Rates} {k : ℕ → ℕ} → RatesBeginAnew r k
begin_anew {r = r} {k = k} period a j c l = (
  (λ e. let at : k a + j ≡ j + k (r.target c) = let own : k (r.target c) ≡ k a = ap k e in omega arith in
      ap (r.consumed c) at ∙ period.consumed_anew c j l),
  (λ e. let at : k a + j ≡ j + k (r.source c) = let own : k (r.source c) ≡ k a = ap k e in omega arith in
      ap (r.produced c) at ∙ (period.produced_anew c j l ∙ ap (λ n. r.produced c j + n) (period.balanced c l))),
)

-- a history V of whole periods on wiring f, and a history U on a wiring g like it, whose channels begin with the
-- samples that V leaves
pub record Going (T : Type 0) : Type 0 where
  pub f : Wiring T
  pub g : Wiring T
  pub wired : IsWired f
  pub same : SameWiring f g
  pub x : Answers T
  pub y : Answers T
  pub k : ℕ → ℕ
  pub i : ℕ → ℕ
  pub V : ℕ → List T
  pub U : ℕ → List T
  pub period : IsPeriod f.rates k
  pub before : IsHistory f x k V
  pub on : IsHistory g y i U
  pub starts : (c : ℕ) → c < f.rates.channels → g.starts c ≡ drop (f.rates.consumed c (k (f.rates.target c))) (V c)

module _ {T : Type 0} (going : Going T) where
  open going use {f, g, wired, same, x, y, k, i, V, U, period, before, on, starts}

  -- how many samples of a channel were taken
  abbrev pub used : ℕ → ℕ
  used c = f.rates.consumed c (k (f.rates.target c))

  -- what stands on a channel in all
  abbrev pub whole : ℕ → List T
  whole c = V c ++ drop (f.rates.initial c) (U c)

  also : (c : ℕ) → c < f.rates.channels → c < g.rates.channels
  also c l = subst (λ n. c < n) (sym same.channels) l

  length_before : (c : ℕ) → c < f.rates.channels → length (V c) ≡ f.rates.initial c + used c
  length_before c l = before.lengths c l ∙ ap (λ n. f.rates.initial c + n) (period.balanced c l)

  length_on : (c : ℕ) → c < f.rates.channels → length (U c) ≡
      f.rates.initial c + f.rates.produced c (i (f.rates.source c))
  length_on c l =
      let first = same.initial c l in
      let later : g.rates.produced c (i (g.rates.source c)) ≡ f.rates.produced c (i (f.rates.source c)) =
      ap (λ b. g.rates.produced c (i b)) (same.source c l) ∙ same.produced c (i (f.rates.source c)) l in
      on.lengths c (also c l) ∙ (λ κ. first κ + later κ)

  enough_on : (c : ℕ) → c < f.rates.channels → f.rates.consumed c (i (f.rates.target c)) ≤
      f.rates.initial c + f.rates.produced c (i (f.rates.source c))
  enough_on c l =
      let later : g.rates.produced c (i (g.rates.source c)) ≡ f.rates.produced c (i (f.rates.source c)) =
      ap (λ b. g.rates.produced c (i b)) (same.source c l) ∙ same.produced c (i (f.rates.source c)) l in
      let took : g.rates.consumed c (i (g.rates.target c)) ≡ f.rates.consumed c (i (f.rates.target c)) =
      ap (λ b. g.rates.consumed c (i b)) (same.target c l) ∙ same.consumed c (i (f.rates.target c)) l in
      omega (arith, on.enough c (also c l), same.initial c l)

  -- the other begins with the samples that were left
  pub rest_is : (c : ℕ) → c < f.rates.channels → drop (used c) (whole c) ≡ U c
  rest_is c l =
      let first : take (f.rates.initial c) (U c) ≡ drop (used c) (V c) =
      ap (λ n. take n (U c)) (sym (same.initial c l)) ∙ (on.begins c (also c l) ∙ starts c l) in
      drop-append-le (used c) (V c) (drop (f.rates.initial c) (U c)) (omega (arith, length_before c l)) ∙
      (ap (λ ys. ys ++ drop (f.rates.initial c) (U c)) (sym first) ∙ take-append-drop (f.rates.initial c) (U c))

  kept : (c n : ℕ) → n ≤ length (V c) → take n (V c) ≡ take n (whole c)
  kept c n h = sym (take-append-le n (V c) (drop (f.rates.initial c) (U c)) h)

  module _ (a : ℕ) (known : a < f.rates.actors) where
    input : SameInput f V whole a (k a)
    input = record {
      known = known;
      agree = λ c l e. let own : used c ≡ f.rates.consumed c (k a) = ap (λ b. f.rates.consumed c (k b)) e in
          kept c (f.rates.consumed c (k a)) (omega (arith, length_before c l));
    }

    output : SameOutput f V whole a (k a)
    output = record {
      known = known;
      agree = λ c l e.
          let own : f.rates.produced c (k (f.rates.source c)) ≡ f.rates.produced c (k a) =
          ap (λ b. f.rates.produced c (k b)) e in
          kept c (f.rates.initial c + f.rates.produced c (k a)) (omega (arith, before.lengths c l));
    }

    past_early : (j : ℕ) → j ≤ k a → taken_before f V a j ≡ taken_before f whole a j
    past_early = taken_before_agrees wired input

    -- what its further firings take and put
    taken_late : (j : ℕ) → taken f whole a (k a + j) ≡ taken g U a j
    taken_late j =
        flat_map_same (λ c. between (f.rates.consumed c (k a + j)) (f.rates.consumed c (k a + j + 1)) (whole c))
        (λ c. between (g.rates.consumed c j) (g.rates.consumed c (j + 1)) (U c)) (f.ins a)
        (λ m h. let is = wired.ins_are a m known h in at (get_or (f.ins a) m 0) is.0 is.1) ∙
        ap (flat_map (λ c. between (g.rates.consumed c j) (g.rates.consumed c (j + 1)) (U c))) (sym (same.ins a known))
      where
        at : (c : ℕ) → c < f.rates.channels → f.rates.target c ≡ a →
            between (f.rates.consumed c (k a + j)) (f.rates.consumed c (k a + j + 1)) (whole c) ≡
            between (g.rates.consumed c j) (g.rates.consumed c (j + 1)) (U c)
        at c l e =
            let from = (begin_anew period a j c l).0 e in
            let to : f.rates.consumed c (k a + j + 1) ≡ f.rates.consumed c (j + 1) + used c =
            ap (f.rates.consumed c) (let z : k a + j + 1 ≡ k a + (j + 1) = omega arith in z)
            ∙ (begin_anew period a (j + 1) c l).0 e in
            let first = sym (same.consumed c j l) in
            let last = sym (same.consumed c (j + 1) l) in
            (λ κ. between (from κ) (to κ) (whole c)) ∙
            (between_past (whole c) (used c) (f.rates.consumed c j) (f.rates.consumed c (j + 1)) ∙
            (λ κ. between (first κ) (last κ) (rest_is c l κ)))

    put_late : (j : ℕ) → put f whole a (k a + j) ≡ put g U a j
    put_late j =
        flat_map_same (λ c. between (f.rates.initial c + f.rates.produced c (k a + j))
        (f.rates.initial c + f.rates.produced c (k a + j + 1)) (whole c))
        (λ c. between (g.rates.initial c + g.rates.produced c j) (g.rates.initial c + g.rates.produced c (j + 1))
        (U c)) (f.outs a)
        (λ m h. let is = wired.outs_are a m known h in at (get_or (f.outs a) m 0) is.0 is.1) ∙
        ap (flat_map (λ c. between (g.rates.initial c + g.rates.produced c j)
        (g.rates.initial c + g.rates.produced c (j + 1)) (U c))) (sym (same.outs a known))
      where
        at : (c : ℕ) → c < f.rates.channels → f.rates.source c ≡ a →
            between (f.rates.initial c + f.rates.produced c (k a + j))
            (f.rates.initial c + f.rates.produced c (k a + j + 1)) (whole c) ≡
            between (g.rates.initial c + g.rates.produced c j)
            (g.rates.initial c + g.rates.produced c (j + 1)) (U c)
        at c l e =
            let next : f.rates.produced c (k a + j + 1) ≡ f.rates.produced c (j + 1) + used c =
            ap (f.rates.produced c) (let z : k a + j + 1 ≡ k a + (j + 1) = omega arith in z)
            ∙ (begin_anew period a (j + 1) c l).1 e in
            let from : f.rates.initial c + f.rates.produced c (k a + j) ≡
            f.rates.initial c + f.rates.produced c j + used c = omega (arith, (begin_anew period a j c l).1 e) in
            let to : f.rates.initial c + f.rates.produced c (k a + j + 1) ≡
            f.rates.initial c + f.rates.produced c (j + 1) + used c = omega (arith, next) in
            let begin = sym (same.initial c l) in
            let first = sym (same.produced c j l) in
            let last = sym (same.produced c (j + 1) l) in
            (λ κ. between (from κ) (to κ) (whole c)) ∙
            (between_past (whole c) (used c) (f.rates.initial c + f.rates.produced c j)
            (f.rates.initial c + f.rates.produced c (j + 1)) ∙
            (λ κ. between (begin κ + first κ) (begin κ + last κ) (rest_is c l κ)))

    pub past_late : (j : ℕ) → taken_before f whole a (k a + j) ≡ taken_before f V a (k a) ++ taken_before g U a j
    past_late zero =
        ap (taken_before f whole a) (let z : k a + 0 ≡ k a = omega arith in z)
        ∙ (sym (past_early (k a) (omega arith)) ∙ sym (append-nil (taken_before f V a (k a))))
    past_late (suc j) =
        let earlier = past_late j in
        let now = taken_late j in
        ap (taken_before f whole a) (let z : k a + suc j ≡ suc (k a + j) = omega arith in z) ∙
        ((λ κ. earlier κ ++ now κ ∷ []) ∙ append_assoc (taken_before f V a (k a)) (taken_before g U a j)
        (taken g U a j ∷ []))

  -- its history in all, where the answers are those of the one and then of the other
  module _ (z : Answers T) (early : AnswersAgree f x z k)
      (late : (a : ℕ) (past : List (List T)) (now : List T) → a < f.rates.actors → length past < i a →
      z a (taken_before f V a (k a) ++ past) now ≡ y a past now) where
    step_early : (a j : ℕ) → a < f.rates.actors → j < k a →
        put f whole a j ≡ z a (taken_before f whole a j) (taken f whole a j)
    step_early a j known h =
        let past = past_early a known j (omega arith) in
        let now = taken_agrees wired (input a known) j h in
        sym (put_agrees wired (output a known) j h) ∙
        (before.steps a j known h ∙
        (early a (taken_before f V a j) (taken f V a j) known (omega (arith, length_taken_before f V a j, h)) ∙
        (λ κ. z a (past κ) (now κ))))

    step_late : (a j : ℕ) → a < f.rates.actors → j < i a →
        put f whole a (k a + j) ≡ z a (taken_before f whole a (k a + j)) (taken f whole a (k a + j))
    step_late a j known h =
        let past = past_late a known j in
        let now = taken_late a known j in
        put_late a known j ∙
        (on.steps a j (subst (λ n. a < n) (sym same.actors) known) h ∙
        (sym (late a (taken_before g U a j) (taken g U a j) known (omega (arith, length_taken_before g U a j, h))) ∙
        sym (λ κ. z a (past κ) (now κ))))

    step : (a n : ℕ) → a < f.rates.actors → n < k a + i a → (n < k a) ⊎ (k a ≤ n) →
        put f whole a n ≡ z a (taken_before f whole a n) (taken f whole a n)
    step a n known h (inl less) = step_early a n known less
    step a n known h (inr more) =
        subst (λ m. put f whole a m ≡ z a (taken_before f whole a m) (taken f whole a m))
        (let e : k a + (n - k a) ≡ n = omega arith in e)
        (step_late a (n - k a) known (omega arith))

    pub goes_on : IsHistory f z (λ a. k a + i a) whole
    goes_on = record {
      begins = λ c l. take-append-le (f.rates.initial c) (V c) (drop (f.rates.initial c) (U c))
          (omega (arith, length_before c l)) ∙ before.begins c l;
      lengths = λ c l.
          omega (
            arith,
            length-append (V c) (drop (f.rates.initial c) (U c)),
            length-drop (f.rates.initial c) (U c),
            length_before c l,
            length_on c l,
            (begin_anew period (f.rates.source c) (i (f.rates.source c)) c l).1
                (λ _. f.rates.source c),
          );
      enough = λ c l. omega (
        arith,
        enough_on c l,
        (begin_anew period (f.rates.source c) (i (f.rates.source c)) c l).1
            (λ _. f.rates.source c),
        (begin_anew period (f.rates.target c) (i (f.rates.target c)) c l).0 (λ _. f.rates.target c),
      );
      steps = λ a n known h. step a n known h (cases_lt n (k a));
    }

  -- what it leaves on a channel, and what has arrived at its end
  pub left_on : (c : ℕ) → c < f.rates.channels →
      drop (f.rates.consumed c (k (f.rates.target c) + i (f.rates.target c))) (whole c) ≡
      drop (g.rates.consumed c (i (g.rates.target c))) (U c)
  left_on c l =
      let took : g.rates.consumed c (i (g.rates.target c)) ≡ f.rates.consumed c (i (f.rates.target c)) =
      ap (λ b. g.rates.consumed c (i b)) (same.target c l) ∙ same.consumed c (i (f.rates.target c)) l in
      let at : f.rates.consumed c (k (f.rates.target c) + i (f.rates.target c)) ≡
      used c + f.rates.consumed c (i (f.rates.target c)) =
      omega (arith, (begin_anew period (f.rates.target c) (i (f.rates.target c)) c l).0 (λ _. f.rates.target c)) in
      ap (λ n. drop n (whole c)) at ∙
      (sym (drop-drop (f.rates.consumed c (i (f.rates.target c))) (used c) (whole c)) ∙
      (λ κ. drop (sym took κ) (rest_is c l κ)))

  pub arrived_on : (a c : ℕ) → c < f.rates.channels → f.rates.target c ≡ a →
      take (f.rates.consumed c (k a + i a)) (whole c) ≡
      take (f.rates.consumed c (k a)) (V c) ++ take (g.rates.consumed c (i a)) (U c)
  arrived_on a c l e =
      let own : used c ≡ f.rates.consumed c (k a) = ap (λ b. f.rates.consumed c (k b)) e in
      let at : f.rates.consumed c (k a + i a) ≡ used c + f.rates.consumed c (i a) =
      omega (arith, (begin_anew period a (i a) c l).0 e) in
      let took = sym (same.consumed c (i a) l) in
      let front = sym (kept c (used c) (omega (arith, length_before c l))) in
      ap (λ n. take n (whole c)) at ∙
      (take_past (whole c) (used c) (f.rates.consumed c (i a)) ∙
      (λ κ. front κ ++ take (took κ) (rest_is c l κ))
      ∙ ap (λ n. take n (V c) ++ take (g.rates.consumed c (i a)) (U c)) own)
