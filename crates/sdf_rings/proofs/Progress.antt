-- While a firing remains, some event is allowed.
use Rattle.std.proofs.Common.{◌≡◌, ◌≢◌, ℕ, zero, suc, ◌+◌, ◌≤◌, ◌<◌, List, length, get_or, take, min, refl, sym, ap}
use Rattle.std.proofs.Common.{◌∙◌, subst, inl, inr, ◌⊎◌, arith, add-one}
use Rattle.std.proofs.lemmas.List.{take_all}
use Rattle.std.proofs.lemmas.Bool.{cases_lt, cases_eq}
use Rattle.sdf_graph.specs.Sequences.{times, IsReady, IsAdmissible}
use Rattle.sdf_graph.proofs.Theorems.{last_counts_more, others_count_same}
use Rattle.sdf_actor.specs.Histories.{Wiring, IsWired}
use Rattle.sdf_rings.specs.Machine.{Machine, Event, Take, Put, HasTaken, HasReceived, HasPut, HasKept, CanTake, CanPut}
use Rattle.sdf_rings.specs.Machine.{IsAllowed}

-- below a bound all pass or some number fails
all_or_some : (P : ℕ → Type 0) → ((n : ℕ) → P n ⊎ (P n → ⊥)) → (m : ℕ) →
    ((n : ℕ) → n < m → P n) ⊎ ((n : ℕ) × (n < m) × (P n → ⊥))
all_or_some P dec zero = inl (λ n h. absurd (omega arith))
all_or_some P dec (suc m) = go (all_or_some P dec m) (dec m)
  where
    go : ((n : ℕ) → n < m → P n) ⊎ ((n : ℕ) × (n < m) × (P n → ⊥)) → P m ⊎ (P m → ⊥) →
        ((n : ℕ) → n < suc m → P n) ⊎ ((n : ℕ) × (n < suc m) × (P n → ⊥))
    go (inr (n, h, lacks)) here = inr (n, omega arith, lacks)
    go (inl all) (inr lacks) = inr (m, omega arith, lacks)
    go (inl all) (inl passes) = inl (λ n h. step n h (cases_lt n m))
      where
        step : (n : ℕ) → n < suc m → (n < m) ⊎ (m ≤ n) → P n
        step n h (inl below) = all n below
        step n h (inr above) = let e : m ≡ n = omega arith in subst P e passes

-- among the first m numbers with a property all have got so far, or one has not
all_or_low : (P : ℕ → Type 0) → ((d : ℕ) → P d ⊎ (P d → ⊥)) → (got : ℕ → ℕ) (j m : ℕ) →
    ((d : ℕ) → d < m → P d → j ≤ got d) ⊎ ((d : ℕ) × (d < m) × P d × (got d < j))
all_or_low P dec got j m = go (all_or_some (λ d. P d → j ≤ got d) (λ d. one d (dec d) (cases_lt (got d) j)) m)
  where
    one : (d : ℕ) → P d ⊎ (P d → ⊥) → (got d < j) ⊎ (j ≤ got d) → (P d → j ≤ got d) ⊎ ((P d → j ≤ got d) → ⊥)
    one d (inl is) (inl low) = inr (λ t. let g : j ≤ got d = t is in absurd (omega arith))
    one d here (inr high) = inl (λ t. high)
    one d (inr not) (inl low) = inl (λ t. absurd (not t))

    lack : (d : ℕ) → d < m → ((P d → j ≤ got d) → ⊥) → P d ⊎ (P d → ⊥) → (got d < j) ⊎ (j ≤ got d) →
        (d : ℕ) × (d < m) × P d × (got d < j)
    lack d h lacks (inl is) (inl low) = (d, h, is, low)
    lack d h lacks here (inr high) = absurd (lacks (λ t. high))
    lack d h lacks (inr not) (inl low) = absurd (lacks (λ t. absurd (not t)))

    go : ((d : ℕ) → d < m → P d → j ≤ got d) ⊎ ((d : ℕ) × (d < m) × ((P d → j ≤ got d) → ⊥)) →
        ((d : ℕ) → d < m → P d → j ≤ got d) ⊎ ((d : ℕ) × (d < m) × P d × (got d < j))
    go (inl all) = inl all
    go (inr (d, h, lacks)) = inr (lack d h lacks (dec d) (cases_lt (got d) j))

both : {P Q : Type 0} → P ⊎ (P → ⊥) → Q ⊎ (Q → ⊥) → (P × Q) ⊎ (P × Q → ⊥)
both (inl p) (inl q) = inl (p, q)
both (inl p) (inr fails) = inr (λ t. fails t.1)
both (inr fails) q = inr (λ t. fails t.0)

apart : {P : Type 0} → P ⊎ (P → ⊥) → (P → ⊥) ⊎ ((P → ⊥) → ⊥)
apart (inl p) = inr (λ not. not p)
apart (inr fails) = inl fails

module _ {A : Type 0} (f : Wiring A) (wired : IsWired f)
    (k cap : ℕ → ℕ) (w : List ℕ) (adm : IsAdmissible f.rates w)
    (k_enough : (c : ℕ) → c < f.rates.channels → f.rates.consumed c (k (f.rates.target c)) ≤
    f.rates.initial c + f.rates.produced c (k (f.rates.source c)))
    (cap_k : (c : ℕ) → c < f.rates.channels → f.rates.initial c + f.rates.produced c (k (f.rates.source c)) ≤
    cap c + f.rates.consumed c (k (f.rates.target c)))
    (cap_w : (n : ℕ) → n ≤ length w → (c : ℕ) → c < f.rates.channels →
    f.rates.initial c + f.rates.produced c (times (take n w) (f.rates.source c)) ≤
    cap c + f.rates.consumed c (times (take n w) (f.rates.target c)))
    (s : Machine A) where
  -- at channel c the first n letters of the word are over, as far as they are within k firings
  abbrev HasMoved : ℕ → ℕ → Type 0
  HasMoved n c = (min (times (take n w) (f.rates.target c)) (k (f.rates.target c)) ≤ s.took c)
      × (min (times (take n w) (f.rates.source c)) (k (f.rates.source c)) ≤ s.gave c)

  has_moved : (n c : ℕ) → HasMoved n c ⊎ (HasMoved n c → ⊥)
  has_moved n c = go (cases_lt (s.took c) (min (times (take n w) (f.rates.target c)) (k (f.rates.target c))))
      (cases_lt (s.gave c) (min (times (take n w) (f.rates.source c)) (k (f.rates.source c))))
    where
      go : (s.took c < min (times (take n w) (f.rates.target c)) (k (f.rates.target c)))
          ⊎ (min (times (take n w) (f.rates.target c)) (k (f.rates.target c)) ≤ s.took c) →
          (s.gave c < min (times (take n w) (f.rates.source c)) (k (f.rates.source c)))
          ⊎ (min (times (take n w) (f.rates.source c)) (k (f.rates.source c)) ≤ s.gave c) →
          HasMoved n c ⊎ (HasMoved n c → ⊥)
      go (inl low) g = inr (λ o. absurd (omega arith))
      go (inr high) (inl low) = inr (λ o. absurd (omega arith))
      go (inr high) (inr high2) = inl (high, high2)

  -- the letter at n, where the letters before it are over
  module _ (n : ℕ) (h : n < length w) (a : ℕ) (letter : get_or w n 0 ≡ a) (i : ℕ) (number : times (take n w) a ≡ i)
      (before : (c : ℕ) → c < f.rates.channels → HasMoved n c) where
    still : (d x : ℕ) → min (times (take n w) d) (k d) ≤ x → (a ≡ d → (i + 1 ≤ x) ⊎ (k a ≤ i)) →
        min (times (take (n + 1) w) d) (k d) ≤ x
    still d x was at = go (cases_eq a d)
      where
        go : (a ≡ d) ⊎ (a ≡ d → ⊥) → min (times (take (n + 1) w) d) (k d) ≤ x
        go (inl e) =
            let next : times (take (n + 1) w) d ≡ times (take n w) d + 1 = last_counts_more w n d h (letter ∙ e) in
            let count : times (take n w) d ≡ i = ap (times (take n w)) (sym e) ∙ number in
            let same : k a ≡ k d = ap k e in
            sub (at e) next count same
          where
            sub : (i + 1 ≤ x) ⊎ (k a ≤ i) → times (take (n + 1) w) d ≡ times (take n w) d + 1 → times (take n w) d ≡ i →
                k a ≡ k d → min (times (take (n + 1) w) d) (k d) ≤ x
            sub (inl more) next count same = omega arith
            sub (inr full) next count same = omega arith
        go (inr ne) = rw (others_count_same w n d h (λ e. ne (sym letter ∙ e))) was

    -- the channels of the actor have had the firings before this one
    had_in : i < k a → HasTaken f s a i
    had_in in_k d l e =
        let o : min (times (take n w) (f.rates.target d)) (k (f.rates.target d)) ≤ s.took d = (before d l).0 in
        let count : times (take n w) (f.rates.target d) ≡ i = ap (times (take n w)) e ∙ number in
        let same : k (f.rates.target d) ≡ k a = ap k e in
        omega arith

    had_out : i < k a → HasPut f s a i
    had_out in_k d l e =
        let o : min (times (take n w) (f.rates.source d)) (k (f.rates.source d)) ≤ s.gave d = (before d l).1 in
        let count : times (take n w) (f.rates.source d) ≡ i = ap (times (take n w)) e ∙ number in
        let same : k (f.rates.source d) ≡ k a = ap k e in
        omega arith

    -- a channel into it that has not had its block can give it
    may_take : i < k a → (d : ℕ) → d < f.rates.channels → f.rates.target d ≡ a → s.took d < i + 1 →
        (f.rates.source d ≡ a → HasReceived f s a (i + 1)) → CanTake f k s d
    may_take in_k d l e low own =
        let low_is : i ≤ s.took d = had_in in_k d l e in
        let at : s.took d ≡ i = omega arith in
        let same : k (f.rates.target d) ≡ k a = ap k e in
        record {
          known = l;
          left = omega arith;
          taken = λ c m t. let g : i ≤ s.took c = had_in in_k c m (t ∙ e) in omega arith;
          put = λ c m t. let g : i ≤ s.gave c = had_out in_k c m (t ∙ e) in omega arith;
          holds = go at same (cases_lt (times (take n w) (f.rates.source d)) (k (f.rates.source d)));
          own = λ t c m u v. let g : i + 1 ≤ s.took c = own (t ∙ e) c m (u ∙ e) (λ o. v (o ∙ sym e)) in omega arith;
        }
      where
        go : s.took d ≡ i → k (f.rates.target d) ≡ k a →
            (times (take n w) (f.rates.source d) < k (f.rates.source d))
            ⊎ (k (f.rates.source d) ≤ times (take n w) (f.rates.source d)) →
            f.rates.consumed d (s.took d + 1) ≤ f.rates.initial d + f.rates.produced d (s.gave d)
        go at same (inl short) =
            let ready : IsReady f.rates (times (take n w)) d = (adm n h).1 d l (e ∙ sym letter) in
            let count : s.took d ≡ times (take n w) (f.rates.target d) =
            at ∙ (sym number ∙ ap (times (take n w)) (sym e)) in
            let used : f.rates.consumed d (s.took d + 1) ≡
            f.rates.consumed d (times (take n w) (f.rates.target d) + 1) =
            ap (λ j. f.rates.consumed d (j + 1)) count in
            let o : min (times (take n w) (f.rates.source d)) (k (f.rates.source d)) ≤ s.gave d = (before d l).1 in
            let rise : f.rates.produced d (times (take n w) (f.rates.source d)) ≤ f.rates.produced d (s.gave d) =
            wired.sound.produced_rises d (times (take n w) (f.rates.source d)) (s.gave d) (omega arith) in
            omega arith
        go at same (inr long) =
            let o : min (times (take n w) (f.rates.source d)) (k (f.rates.source d)) ≤ s.gave d = (before d l).1 in
            let rise : f.rates.produced d (k (f.rates.source d)) ≤ f.rates.produced d (s.gave d) =
            wired.sound.produced_rises d (k (f.rates.source d)) (s.gave d) (omega arith) in
            let used : f.rates.consumed d (s.took d + 1) ≤ f.rates.consumed d (k (f.rates.target d)) =
            wired.sound.consumed_rises d (s.took d + 1) (k (f.rates.target d)) (omega arith) in
            omega (arith, k_enough d l)

    -- else a channel out of it that has not got its block can get it
    may_put : i < k a → HasTaken f s a (i + 1) → (c : ℕ) → c < f.rates.channels → f.rates.source c ≡ a →
        s.gave c < i + 1 → (f.rates.target c ≢ a → HasKept f s a (i + 1)) → CanPut f k cap s c
    may_put in_k taken c l e low own =
        let low_is : i ≤ s.gave c = had_out in_k c l e in
        let at : s.gave c ≡ i = omega arith in
        let same : k (f.rates.source c) ≡ k a = ap k e in
        record {
          known = l;
          left = omega arith;
          taken = λ d m t. let g : i + 1 ≤ s.took d = taken d m (t ∙ e) in omega arith;
          put = λ d m t. let g : i ≤ s.gave d = had_out in_k d m (t ∙ e) in omega arith;
          room = go at same (cases_lt (times (take (n + 1) w) (f.rates.target c)) (k (f.rates.target c)));
          own = λ t d m u v. let g : i + 1 ≤ s.gave d = own (λ o. t (o ∙ sym e)) d m (u ∙ e) (v ∙ e) in omega arith;
        }
      where
        o : min (times (take (n + 1) w) (f.rates.target c)) (k (f.rates.target c)) ≤ s.took c
        o = still (f.rates.target c) (s.took c) (before c l).0 (λ t. inl (taken c l (sym t)))

        next : times (take (n + 1) w) (f.rates.source c) ≡ i + 1
        next = last_counts_more w n (f.rates.source c) h (letter ∙ sym e)
            ∙ ap (λ j. j + 1) (ap (times (take n w)) e ∙ number)

        go : s.gave c ≡ i → k (f.rates.source c) ≡ k a →
            (times (take (n + 1) w) (f.rates.target c) < k (f.rates.target c))
            ⊎ (k (f.rates.target c) ≤ times (take (n + 1) w) (f.rates.target c)) →
            f.rates.initial c + f.rates.produced c (s.gave c + 1) ≤ cap c + f.rates.consumed c (s.took c)
        go at same (inl short) =
            let fits = cap_w (n + 1) (omega arith) c l in
            let is : f.rates.produced c (s.gave c + 1) ≡
            f.rates.produced c (times (take (n + 1) w) (f.rates.source c)) =
            ap (f.rates.produced c) (ap (λ j. j + 1) at ∙ sym next) in
            let rise : f.rates.consumed c (times (take (n + 1) w) (f.rates.target c)) ≤ f.rates.consumed c (s.took c) =
            wired.sound.consumed_rises c (times (take (n + 1) w) (f.rates.target c)) (s.took c)
            (omega (arith, o)) in
            omega arith
        go at same (inr long) =
            let more : f.rates.produced c (s.gave c + 1) ≤ f.rates.produced c (k (f.rates.source c)) =
            wired.sound.produced_rises c (s.gave c + 1) (k (f.rates.source c)) (omega arith) in
            let rise : f.rates.consumed c (k (f.rates.target c)) ≤ f.rates.consumed c (s.took c) =
            wired.sound.consumed_rises c (k (f.rates.target c)) (s.took c) (omega (arith, o)) in
            omega (arith, cap_k c l)

    find : (c : ℕ) → c < f.rates.channels → (HasMoved (n + 1) c → ⊥) → (e : Event) × IsAllowed f k cap s e
    find c l fails = turn (cases_lt i (k a))
      where
        from_others : (d : ℕ) → ((f.rates.target d ≡ a) × (f.rates.source d ≢ a))
            ⊎ ((f.rates.target d ≡ a) × (f.rates.source d ≢ a) → ⊥)
        from_others d = both (cases_eq (f.rates.target d) a) (apart (cases_eq (f.rates.source d) a))

        to_itself : (d : ℕ) → ((f.rates.source d ≡ a) × (f.rates.target d ≡ a))
            ⊎ ((f.rates.source d ≡ a) × (f.rates.target d ≡ a) → ⊥)
        to_itself d = both (cases_eq (f.rates.source d) a) (cases_eq (f.rates.target d) a)

        puts : i < k a → HasTaken f s a (i + 1) → HasKept f s a (i + 1) → (e : Event) × IsAllowed f k cap s e
        puts in_k taken kept = owe (cases_eq a (f.rates.source c)) (cases_lt (s.gave c) (i + 1))
          where
            over_in : min (times (take (n + 1) w) (f.rates.target c)) (k (f.rates.target c)) ≤ s.took c
            over_in = still (f.rates.target c) (s.took c) (before c l).0 (λ t. inl (taken c l (sym t)))

            owe : (a ≡ f.rates.source c) ⊎ (a ≡ f.rates.source c → ⊥) → (s.gave c < i + 1) ⊎ (i + 1 ≤ s.gave c) →
                (e : Event) × IsAllowed f k cap s e
            owe (inl e) (inl low) = (Put c, may_put in_k taken c l (sym e) low (λ t. kept))
            owe e (inr high) = absurd (fails (
              over_in,
              still (f.rates.source c) (s.gave c) (before c l).1
                  (λ t. inl high),
            ))
            owe (inr ne) (inl low) = absurd (fails (
              over_in,
              still (f.rates.source c) (s.gave c) (before c l).1 (λ t. absurd (ne t)),
            ))

        -- the actor takes from the others, then from itself, then puts to itself, then to the others
        keeps : i < k a → HasTaken f s a (i + 1) →
            ((d : ℕ) → d < f.rates.channels → (f.rates.source d ≡ a) × (f.rates.target d ≡ a) → i + 1 ≤ s.gave d) ⊎
            ((d : ℕ) × (d < f.rates.channels) × ((f.rates.source d ≡ a) × (f.rates.target d ≡ a))
            × (s.gave d < i + 1)) → (e : Event) × IsAllowed f k cap s e
        keeps in_k taken (inl kept) = puts in_k taken (λ d m t u. kept d m (t, u))
        keeps in_k taken (inr (d, m, e, low)) = (Put d, may_put in_k taken d m e.0 low (λ t. absurd (t e.1)))

        takes : i < k a → HasReceived f s a (i + 1) →
            ((d : ℕ) → d < f.rates.channels → f.rates.target d ≡ a → i + 1 ≤ s.took d) ⊎
            ((d : ℕ) × (d < f.rates.channels) × (f.rates.target d ≡ a) × (s.took d < i + 1)) →
            (e : Event) × IsAllowed f k cap s e
        takes in_k received (inl taken) = keeps in_k taken
            (all_or_low (λ d. (f.rates.source d ≡ a) × (f.rates.target d ≡ a)) to_itself s.gave (i + 1)
            f.rates.channels)
        takes in_k received (inr (d, m, e, low)) = (Take d, may_take in_k d m e low (λ t. received))

        receives : i < k a →
            ((d : ℕ) → d < f.rates.channels → (f.rates.target d ≡ a) × (f.rates.source d ≢ a) → i + 1 ≤ s.took d) ⊎
            ((d : ℕ) × (d < f.rates.channels) × ((f.rates.target d ≡ a) × (f.rates.source d ≢ a))
            × (s.took d < i + 1)) → (e : Event) × IsAllowed f k cap s e
        receives in_k (inl received) = takes in_k (λ d m t u. received d m (t, u))
            (all_or_low (λ d. f.rates.target d ≡ a) (λ d. cases_eq (f.rates.target d) a) s.took (i + 1)
            f.rates.channels)
        receives in_k (inr (d, m, e, low)) = (Take d, may_take in_k d m e.0 low (λ t. absurd (e.1 t)))

        turn : (i < k a) ⊎ (k a ≤ i) → (e : Event) × IsAllowed f k cap s e
        turn (inr full) = absurd (fails (
          still (f.rates.target c) (s.took c) (before c l).0 (λ e. inr full),
          still (f.rates.source c) (s.gave c) (before c l).1 (λ e. inr full),
        ))
        turn (inl in_k) = receives in_k (all_or_low (λ d. (f.rates.target d ≡ a) × (f.rates.source d ≢ a)) from_others
            s.took (i + 1) f.rates.channels)

  moved_or_allowed : (n : ℕ) → n ≤ length w → ((c : ℕ) → c < f.rates.channels → HasMoved n c)
      ⊎ ((e : Event) × IsAllowed f k cap s e)
  moved_or_allowed zero h = inl (λ c l. (omega arith, omega arith))
  moved_or_allowed (suc n) h = rw add-one at (go (moved_or_allowed n (omega arith))
      (all_or_some (HasMoved (n + 1)) (has_moved (n + 1)) f.rates.channels))
    where
      go : ((c : ℕ) → c < f.rates.channels → HasMoved n c) ⊎ ((e : Event) × IsAllowed f k cap s e) →
          ((c : ℕ) → c < f.rates.channels → HasMoved (n + 1) c)
          ⊎ ((c : ℕ) × (c < f.rates.channels) × (HasMoved (n + 1) c → ⊥)) →
          ((c : ℕ) → c < f.rates.channels → HasMoved (n + 1) c) ⊎ ((e : Event) × IsAllowed f k cap s e)
      go (inr found) o = inr found
      go (inl before) (inl over) = inl over
      go (inl before) (inr (c, l, fails)) = inr (find n h (get_or w n 0) refl (times (take n w) (get_or w n 0)) refl
          before c l fails)

  -- all is over, or some event is allowed
  pub goes_on : ((a : ℕ) → a < f.rates.actors → k a ≤ times w a) →
      ((c : ℕ) → c < f.rates.channels → (k (f.rates.target c) ≤ s.took c) × (k (f.rates.source c) ≤ s.gave c))
      ⊎ ((e : Event) × IsAllowed f k cap s e)
  goes_on kw = go (moved_or_allowed (length w) (omega arith))
    where
      go : ((c : ℕ) → c < f.rates.channels → HasMoved (length w) c) ⊎ ((e : Event) × IsAllowed f k cap s e) →
          ((c : ℕ) → c < f.rates.channels → (k (f.rates.target c) ≤ s.took c) × (k (f.rates.source c) ≤ s.gave c))
          ⊎ ((e : Event) × IsAllowed f k cap s e)
      go (inr found) = inr found
      go (inl over) = inl (λ c l.
          let o = over c l in
          let all : (a : ℕ) → times (take (length w) w) a ≡ times w a =
          (λ a. ap (λ v. times v a) (take_all (length w) w (omega arith))) in (
            omega (arith, o.0, all (f.rates.target c), kw (f.rates.target c) (wired.sound.target_in c l)),
            omega (arith, o.1, all (f.rates.source c), kw (f.rates.source c) (wired.sound.source_in c l)),
          ))
