-- What a floor says of the rule: which firings have ended, which are ready, which columns are busy.
use Rattle.std.proofs.Common.{◌≡◌, ℕ, ◌+◌, ◌-◌, ◌≤◌, ◌<◌, ◌⊎◌, List, length, get_or, sym, ap, ◌∙◌, subst, inl, inr}
use Rattle.std.proofs.Common.{arith, refl, Option, Some, None}
use Rattle.std.proofs.lemmas.List.{get_or_past}
use Rattle.std.proofs.lemmas.Option.{none-some}
use Rattle.std.proofs.lemmas.Bool.{cases_lt}
use Rattle.sdf_graph.specs.Rates.{Rates, IsSound}
use Rattle.sdf_graph.specs.Sequences.{IsEnabled}
use Rattle.sdf_prec.specs.declared.firing.Firing.{Firing}
use Rattle.sdf_prec.specs.Precedence.{WaitsFor}
use Rattle.sdf_prec.specs.TimedRows.{Timed, no_row, StandsAt, HasEnded, IsBusy, IsReadyAt, end_at}
use Rattle.sdf_prec.specs.Floor.{IsNextReady, IsFloor, AreAtWork}

-- a firing stands in a row that is there
pub row_known : (past : List Timed) (i j : ℕ) (f : Firing) → StandsAt past i j f → i < length past
row_known past i j f at = go (cases_lt i (length past))
  where
    go : (i < length past) ⊎ (length past ≤ i) → i < length past
    go (inl l) = l
    go (inr h) = absurd (none-some f (ap (λ (x : Timed). get_or x.cells j None)
        (sym (get_or_past past i no_row h)) ∙ at))

-- and in a column that is there
pub column_known : (cells : List (Option Firing)) (j : ℕ) (f : Firing) → get_or cells j None ≡ Some f → j < length cells
column_known cells j f e = go (cases_lt j (length cells))
  where
    go : (j < length cells) ⊎ (length cells ≤ j) → j < length cells
    go (inl l) = l
    go (inr h) = absurd (none-some f (sym (get_or_past cells j None h) ∙ e))

-- A step from time `now` to `next`: no busy processor ends its firing before `next`. `ended` and `ended'` count each
-- actor's ended firings at the two times.
pub record IsNextTime (width now next : ℕ) (ended ended' whose until : ℕ → ℕ) : Type 0 where
  pub later : now < next
  pub least : (j : ℕ) → j < width → now < until j → next ≤ until j
  pub through : (j : ℕ) → j < width → until j ≡ next → ended' (whose j) ≡ ended (whose j) + 1
  pub same : (a : ℕ) → ((j : ℕ) → j < width → until j ≡ next → whose j ≡ a → ⊥) → ended' a ≡ ended a
  pub rises : (a : ℕ) → ended a ≤ ended' a

module _ {r : Rates} {n cost : ℕ → ℕ} {width : ℕ} {past : List Timed} {t : ℕ} {ended started whose until : ℕ → ℕ}
    (w : IsFloor r n cost width past t ended started whose until) where
  pub behind : (a : ℕ) → a < r.actors → ended a ≤ started a
  behind a l = go (w.through a l)
    where
      go : (ended a ≡ started a) ⊎ (ended a + 1 ≡ started a) → ended a ≤ started a
      go (inl x) = omega arith
      go (inr x) = omega arith

  pub to_ended : (f : Firing) → HasEnded cost past t f → f.number < ended f.actor
  to_ended f (i, j, at, h) = (w.ended_is i j f at).0 h

  pub of_ended : (f : Firing) → f.actor < r.actors → f.number < ended f.actor → HasEnded cost past t f
  of_ended f k l =
      let o = (w.occurs f k).0 (omega (arith, behind f.actor k)) in
      (o.0, o.1, o.2, (w.ended_is o.0 o.1 f o.2).1 l)

  pub busy_to : (j : ℕ) → IsBusy cost past t j → t < until j
  busy_to j (i, f, at, h) = omega (arith, w.until_above i j f at)

  pub busy_of : (j : ℕ) → t < until j → IsBusy cost past t j
  busy_of j h = go (w.until_at j)
    where
      go : (until j ≡ 0) ⊎ ((i : ℕ) × (f : Firing) × StandsAt past i j f × (until j ≡ end_at cost past i f)) →
          IsBusy cost past t j
      go (inl e) = absurd (omega arith)
      go (inr (i, f, at, e)) = (i, f, at, omega arith)

  pub ready_to : IsSound r → (f : Firing) → IsNextReady r n ended started f → IsReadyAt r n cost past t f
  ready_to s f h = record {
    of_block = (h.known, h.within);
    left = λ o. let l = (w.occurs f h.known).1 o in absurd (omega (arith, h.next));
    waits = waits;
  }
    where
      waits : (g : Firing) → WaitsFor r f g → HasEnded cost past t g
      waits g (inl (e, m)) = of_ended g (subst (λ a. a < r.actors) (sym e) h.known)
          (subst (λ a. g.number < ended a) (sym e) (omega (arith, h.next, h.through)))
      waits g (inr (c, l, to, from, lacks)) = of_ended g (subst (λ a. a < r.actors) from (s.source_in c l))
          (go (cases_lt g.number (ended g.actor)))
        where
          own : ended (r.target c) ≡ f.number
          own = ap ended to ∙ (h.through ∙ sym h.next)

          enough : r.consumed c (f.number + 1) ≤ r.initial c + r.produced c (ended g.actor)
          enough = subst (λ a. r.consumed c (f.number + 1) ≤ r.initial c + r.produced c (ended a)) from
              (subst (λ k. r.consumed c (k + 1) ≤ r.initial c + r.produced c (ended (r.source c))) own (h.on c l to))

          go : (g.number < ended g.actor) ⊎ (ended g.actor ≤ g.number) → g.number < ended g.actor
          go (inl low) = low
          go (inr high) = absurd (omega (arith, s.produced_rises c (ended g.actor) g.number high, enough))

  pub ready_of : IsSound r → (f : Firing) → IsReadyAt r n cost past t f → IsNextReady r n ended started f
  ready_of s f h = record {
    known = h.of_block.0;
    within = h.of_block.1;
    next = next;
    through = through;
    on = on;
  }
    where
      low : (f.number < started f.actor) ⊎ (started f.actor ≤ f.number) → started f.actor ≤ f.number
      low (inl l) = absurd (h.left ((w.occurs f h.of_block.0).0 l))
      low (inr l) = l

      -- the one before it has ended
      one_before : 0 < f.number → f.number ≤ ended f.actor
      one_before l =
          let e = to_ended (record { actor = f.actor; number = f.number - 1 })
          (h.waits (record { actor = f.actor; number = f.number - 1 }) (inl (refl, omega arith))) in
          omega (arith, e)

      high : f.number ≤ ended f.actor
      high = go (cases_lt 0 f.number)
        where
          go : (0 < f.number) ⊎ (f.number ≤ 0) → f.number ≤ ended f.actor
          go (inl l) = one_before l
          go (inr l) = omega arith

      next : f.number ≡ started f.actor
      next = omega (arith, low (cases_lt f.number (started f.actor)), high, behind f.actor h.of_block.0)

      through : ended f.actor ≡ started f.actor
      through = omega (arith, low (cases_lt f.number (started f.actor)), high, behind f.actor h.of_block.0)

      on : IsEnabled r ended f.actor
      on c l e = go (cases_lt (r.initial c + r.produced c (ended (r.source c))) (r.consumed c (f.number + 1)))
        where
          own : f.number ≡ ended (r.target c)
          own = next ∙ (sym through ∙ ap ended (sym e))

          go : (r.initial c + r.produced c (ended (r.source c)) < r.consumed c (f.number + 1))
              ⊎ (r.consumed c (f.number + 1) ≤ r.initial c + r.produced c (ended (r.source c))) →
              r.consumed c (ended (r.target c) + 1) ≤ r.initial c + r.produced c (ended (r.source c))
          go (inr enough) = subst (λ m. r.consumed c (m + 1) ≤
              r.initial c + r.produced c (ended (r.source c))) own enough
          go (inl lacks) =
              let before = to_ended (record { actor = r.source c; number = ended (r.source c) })
              (h.waits (record { actor = r.source c; number = ended (r.source c) }) (inr (c, l, e, refl, lacks))) in
              absurd (omega (arith, before))

  -- a firing that has not ended is the last one that its actor started
  pub at_last : (i j : ℕ) (f : Firing) → StandsAt past i j f → t < end_at cost past i f →
      (f.number ≡ ended f.actor) × (ended f.actor + 1 ≡ started f.actor)
  at_last i j f at late = go (cases_lt f.number (ended f.actor)) (w.through f.actor known)
    where
      known : f.actor < r.actors
      known = (w.known i j f at).0

      low : f.number < started f.actor
      low = (w.occurs f known).1 (i, j, at)

      go : (f.number < ended f.actor) ⊎ (ended f.actor ≤ f.number) →
          (ended f.actor ≡ started f.actor) ⊎ (ended f.actor + 1 ≡ started f.actor) →
          (f.number ≡ ended f.actor) × (ended f.actor + 1 ≡ started f.actor)
      go (inl l) _ = absurd (omega (arith, (w.ended_is i j f at).1 l))
      go (inr h) (inl e) = absurd (omega (arith, low))
      go (inr h) (inr e) = (omega (arith, low), e)

  -- so an actor has one at most
  pub one_at_work : (i j k m : ℕ) (f g : Firing) → StandsAt past i j f → StandsAt past k m g →
      t < end_at cost past i f → t < end_at cost past k g → f.actor ≡ g.actor →
      (i ≡ k) × (j ≡ m) × (end_at cost past i f ≡ end_at cost past k g)
  one_at_work i j k m f g at at' late late' is = (one.0, one.1, end)
    where
      number : f.number ≡ g.number
      number = (at_last i j f at late).0 ∙ (ap ended is ∙ sym (at_last k m g at' late').0)

      same : f ≡ g
      same = λ p. record { actor = is p; number = number p }

      one : (i ≡ k) × (j ≡ m)
      one = w.once i j k m g (at ∙ ap Some same) at'

      end : end_at cost past i f ≡ end_at cost past k g
      end = ap (λ x. end_at cost past x f) one.0 ∙ ap (end_at cost past k) same

  -- an actor that has not ended what it started is at work
  pub work_of : (a : ℕ) → a < r.actors → ended a + 1 ≡ started a →
      (i : ℕ) × (j : ℕ) × (f : Firing) × StandsAt past i j f × (f.actor ≡ a) × (t < end_at cost past i f)
  work_of a l e =
      let f : Firing = record { actor = a; number = ended a } in
      let o = (w.occurs (record { actor = a; number = ended a }) l).0 (omega arith) in (
        o.0,
        o.1,
        record { actor = a; number = ended a },
        o.2,
        refl,
        late o.0 o.1 o.2
            (cases_lt t (end_at cost past o.0 (record { actor = a; number = ended a }))),
      )
    where
      late : (i j : ℕ) → StandsAt past i j (record { actor = a; number = ended a }) →
          (t < end_at cost past i (record { actor = a; number = ended a }))
          ⊎ (end_at cost past i (record { actor = a; number = ended a }) ≤ t) →
          t < end_at cost past i (record { actor = a; number = ended a })
      late i j at (inl h) = h
      late i j at (inr h) = absurd (omega (arith, (w.ended_is i j (record { actor = a; number = ended a }) at).0 h))

  -- the firing for which a column is at work
  pub work_at : (j : ℕ) → t < until j → (i : ℕ) × (f : Firing) × StandsAt past i j f × (until j ≡ end_at cost past i f)
  work_at j h = go (w.until_at j)
    where
      go : (until j ≡ 0) ⊎ ((i : ℕ) × (f : Firing) × StandsAt past i j f × (until j ≡ end_at cost past i f)) →
          (i : ℕ) × (f : Firing) × StandsAt past i j f × (until j ≡ end_at cost past i f)
      go (inl e) = absurd (omega arith)
      go (inr x) = x

  -- where each column is through, no column is busy, and all that started has ended
  pub none_busy : ((j : ℕ) → j < width → until j ≤ t) → (j : ℕ) → t < until j → ⊥
  none_busy all j h =
      let x = work_at j h in
      omega (arith, all j (w.known x.0 j x.1 x.2).1)

  pub none_at_work : ((j : ℕ) → j < width → until j ≤ t) → (a : ℕ) → a < r.actors → ended a ≡ started a
  none_at_work all a l = go (w.through a l)
    where
      go : (ended a ≡ started a) ⊎ (ended a + 1 ≡ started a) → ended a ≡ started a
      go (inl e) = e
      go (inr e) =
          let x = work_of a l e in
          absurd (omega (arith, x.5, w.until_above x.0 x.1 x.2 x.3, all x.1 (w.known x.0 x.1 x.2 x.3).1))

  -- the same rows later on, where no column is through
  pub floor_before : (t' : ℕ) → t ≤ t' → ((j : ℕ) → j < width → t < until j → t' < until j) →
      IsFloor r n cost width past t' ended started whose until
  floor_before t' later busy = record {
    occurs = w.occurs;
    known = λ i j f at. let k = w.known i j f at in (k.0, k.1, omega (arith, k.2));
    within = w.within;
    once = w.once;
    ended_is = λ i j f at. (
      ended_to i j f at (cases_lt t (end_at cost past i f)),
      λ h. omega (arith, (w.ended_is i j f at).1 h),
    );
    through = w.through;
    on = w.on;
    at_work = λ i j f at late. w.at_work i j f at (omega arith);
    until_above = w.until_above;
    until_at = w.until_at;
  }
    where
      ended_to : (i j : ℕ) (f : Firing) → StandsAt past i j f →
          (t < end_at cost past i f) ⊎ (end_at cost past i f ≤ t) →
          end_at cost past i f ≤ t' → f.number < ended f.actor
      ended_to i j f at (inr h) e = (w.ended_is i j f at).0 h
      ended_to i j f at (inl h) e =
          let is = (w.at_work i j f at h).1 in
          absurd (omega (arith, busy j (w.known i j f at).1 (omega arith)))

  -- and where some are
  module _ {next : ℕ} {ended' : ℕ → ℕ} (turn : IsNextTime width t next ended ended' whose until) where
    open turn use {later, least, through, same, rises}

    -- the firings that end then
    now_ended : (i j : ℕ) (f : Firing) → StandsAt past i j f → t < end_at cost past i f → end_at cost past i f ≤ next →
        ended' f.actor ≡ ended f.actor + 1
    now_ended i j f at late low =
        let at_work = w.at_work i j f at late in
        let inside = (w.known i j f at).1 in
        let is : until j ≡ next = omega (arith, at_work.1, least j inside (omega (arith, at_work.1))) in
        subst (λ a. ended' a ≡ ended a + 1) at_work.0 (through j inside is)

    -- and those that end later
    not_yet : (i j : ℕ) (f : Firing) → StandsAt past i j f → next < end_at cost past i f →
        ended' f.actor ≡ ended f.actor
    not_yet i j f at late = same f.actor none
      where
        none : (m : ℕ) → m < width → until m ≡ next → whose m ≡ f.actor → ⊥
        none m l is its =
            let x = work_at m (omega (arith, later)) in
            let late' : t < end_at cost past x.0 x.1 = omega (arith, later, x.3) in
            let actor : x.1.actor ≡ f.actor = sym (w.at_work x.0 m x.1 x.2 late').0 ∙ its in
            let one = one_at_work x.0 m i j x.1 f x.2 at late' (omega (arith, later)) actor in
            omega (arith, one.2, x.3)

    pub through_then : (a : ℕ) → a < r.actors →
        (ended' a ≡ started a) ⊎ ((ended' a ≡ ended a) × (ended a + 1 ≡ started a))
    through_then a l = go (w.through a l)
      where
        go : (ended a ≡ started a) ⊎ (ended a + 1 ≡ started a) →
            (ended' a ≡ started a) ⊎ ((ended' a ≡ ended a) × (ended a + 1 ≡ started a))
        go (inl e) = inl (same a none ∙ e)
          where
            none : (m : ℕ) → m < width → until m ≡ next → whose m ≡ a → ⊥
            none m k is its =
                let x = work_at m (omega (arith, later)) in
                let late : t < end_at cost past x.0 x.1 = omega (arith, later, x.3) in
                let actor : x.1.actor ≡ a = sym (w.at_work x.0 m x.1 x.2 late).0 ∙ its in
                let last = subst (λ a. ended a + 1 ≡ started a) actor (at_last x.0 m x.1 x.2 late).1 in
                omega arith
        go (inr e) = at (cases_lt next (end_at cost past x.0 x.2))
          where
            x : (i : ℕ) × (j : ℕ) × (f : Firing) × StandsAt past i j f × (f.actor ≡ a) × (t < end_at cost past i f)
            x = work_of a l e

            at : (next < end_at cost past x.0 x.2) ⊎ (end_at cost past x.0 x.2 ≤ next) →
                (ended' a ≡ started a) ⊎ ((ended' a ≡ ended a) × (ended a + 1 ≡ started a))
            at (inl h) = inr (subst (λ a. ended' a ≡ ended a) x.4 (not_yet x.0 x.1 x.2 x.3 h), e)
            at (inr h) = inl (subst (λ a. ended' a ≡ ended a + 1) x.4 (now_ended x.0 x.1 x.2 x.3 x.5 h) ∙ e)

    pub floor_later : ((a : ℕ) → a < r.actors → ended' a < started a → IsEnabled r ended' a) →
        IsFloor r n cost width past next ended' started whose until
    floor_later on' = record {
      occurs = w.occurs;
      known = λ i j f at. let k = w.known i j f at in (k.0, k.1, omega (arith, k.2, later));
      within = w.within;
      once = w.once;
      ended_is = λ i j f at. (
        ended_to i j f at (cases_lt t (end_at cost past i f)),
        ended_from i j f at (cases_lt next (end_at cost past i f)),
      );
      through = λ a l. now (through_then a l);
      on = on';
      at_work = λ i j f at late. w.at_work i j f at (omega (arith, later));
      until_above = w.until_above;
      until_at = w.until_at;
    }
      where
        ended_to : (i j : ℕ) (f : Firing) → StandsAt past i j f →
            (t < end_at cost past i f) ⊎ (end_at cost past i f ≤ t) → end_at cost past i f ≤ next →
            f.number < ended' f.actor
        ended_to i j f at (inr h) e = omega (arith, (w.ended_is i j f at).0 h, rises f.actor)
        ended_to i j f at (inl h) e = omega (arith, now_ended i j f at h e, (at_last i j f at h).0)

        ended_from : (i j : ℕ) (f : Firing) → StandsAt past i j f →
            (next < end_at cost past i f) ⊎ (end_at cost past i f ≤ next) → f.number < ended' f.actor →
            end_at cost past i f ≤ next
        ended_from i j f at (inr h) l = h
        ended_from i j f at (inl h) l = absurd (omega (
          arith,
          not_yet i j f at h,
          (at_last i j f at (omega (arith, later))).0,
        ))

        now : {a : ℕ} → (ended' a ≡ started a) ⊎ ((ended' a ≡ ended a) × (ended a + 1 ≡ started a)) →
            (ended' a ≡ started a) ⊎ (ended' a + 1 ≡ started a)
        now (inl e) = inl e
        now (inr x) = inr (ap (λ k. k + 1) x.0 ∙ x.1)

  -- the columns that are through at the next time
  pub columns_at : (next : ℕ) → t < next → AreAtWork r next width ended whose until
  columns_at next later = record {
    known = λ j l is. let x = at j is in subst (λ a. a < r.actors) (sym x.4) (w.known x.0 j x.1 x.2).0;
    on = λ j l is. let x = at j is in
        let last = (at_last x.0 j x.1 x.2 x.3).1 in
        subst (IsEnabled r ended) (sym x.4) (w.on x.1.actor (w.known x.0 j x.1 x.2).0 (omega arith));
    apart = λ j m l k is is' same.
        let x = at j is in
        let y = at m is' in
        (one_at_work x.0 j y.0 m x.1 y.1 x.2 y.2 x.3 y.3 (sym x.4 ∙ (same ∙ y.4))).1;
  }
    where
      at : (j : ℕ) → until j ≡ next → (i : ℕ) × (f : Firing) × StandsAt past i j f × (t < end_at cost past i f)
          × (whose j ≡ f.actor)
      at j is =
          let x = work_at j (omega arith) in
          let late : t < end_at cost past x.0 x.1 = omega (arith, x.3) in
          (x.0, x.1, x.2, late, (w.at_work x.0 j x.1 x.2 late).0)

  -- whose actors have not ended what they started
  pub at_next : (next : ℕ) → t < next → (j : ℕ) → until j ≡ next → ended (whose j) + 1 ≡ started (whose j)
  at_next next later j is =
      let x = work_at j (omega arith) in
      let late : t < end_at cost past x.0 x.1 = omega (arith, x.3) in
      subst (λ a. ended a + 1 ≡ started a) (sym (w.at_work x.0 j x.1 x.2 late).0) (at_last x.0 j x.1 x.2 late).1
