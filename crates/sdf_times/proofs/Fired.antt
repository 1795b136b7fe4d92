-- One firing more of a table's walk.
use Rattle.std.proofs.Common.{◌≡◌, ℕ, ◌+◌, ◌-◌, ◌*◌, ◌^◌, ◌≤◌, ◌<◌, ◌⊎◌, List, [], ◌∷◌, ◌++◌, length, get_or}
use Rattle.std.proofs.Common.{inl, inr, sym, ap, ◌∙◌, subst, arith, refl, Option, Some}
use Rattle.std.proofs.lemmas.List.{get_or_append_left, get_or_push, get_or-set_same}
use Rattle.std.proofs.lemmas.List.{get_or-set_other, length-set, length_push}
use Rattle.std.proofs.lemmas.Option.{same_Some}
use Rattle.std.proofs.lemmas.Bool.{cases_lt, cases_eq}
use Rattle.sdf_limits.specs.declared.TheConstants.{MAX_COST, MAX_BLOCK}
use Rattle.sdf_graph.specs.Rates.{Rates}
use Rattle.sdf_prec.specs.declared.firing.Firing.{Firing}
use Rattle.sdf_prec.specs.Precedence.{WaitsFor}
use Rattle.sdf_prec.specs.Tables.{cell}
use Rattle.sdf_times.specs.Times.{IsGreatest, ComesBefore, IsStart, end_of}
use Rattle.sdf_times.specs.Times.{start_in, HasStart}
use Rattle.sdf_times.specs.Walks.{IsPast, IsColumnEnd, IsWalk, IsNeedEnd, IsPrepared, IsFired}
use Rattle.sdf_times.proofs.Greatest.{greatest_same, greatest_least}
use Rattle.sdf_times.proofs.Cells.{AreCells}
use Rattle.sdf_times.proofs.Walks.{before_earlier}

module _ (r : Rates) (n cost : ℕ → ℕ) (rows : List (List (Option Firing))) (i j : ℕ) (f : Firing)
    (starts : List (List ℕ)) (until : List ℕ) (cells : AreCells r n rows)
    (cheap : (a : ℕ) → a < r.actors → cost a ≤ MAX_COST) (here : cell rows i j ≡ Some f)
    (w : IsWalk r cost rows (IsPast i j) starts until) where
  abbrev old : Firing → ℕ
  old = start_in starts

  -- a firing of an earlier row has ended by the row's number of greatest costs
  end_early : (k m : ℕ) (g : Firing) → cell rows k m ≡ Some g → k < i → end_of cost old g ≤ MAX_COST * i
  end_early k m g e low =
      let known = (cells.known k m g e).0 in
      let more : MAX_COST * k + MAX_COST ≤ MAX_COST * i = omega arith in
      omega (arith, w.early k m g e (inl low), cheap g.actor known)

  -- f has no start yet
  new_here : HasStart starts f → ⊥
  new_here h = let at = w.only f h in out at.0 at.1 (cells.once at.0 at.1 i j f at.2 here) at.3
    where
      out : (k m : ℕ) → (k ≡ i) × (m ≡ j) → IsPast i j k m → ⊥
      out k m (e, d) (inl low) = omega arith
      out k m (e, d) (inr (same, low)) = omega arith

  waited : (g : Firing) → WaitsFor r f g → HasStart starts g
  waited g waits = let at = cells.earlier i j f g here waits in w.known at.0 at.1 g at.3 (inl at.2)

  -- so it is its actor's next one
  next : f.number ≡ length (get_or starts f.actor [])
  next = go (cases_lt 0 f.number) (cases_lt f.number (length (get_or starts f.actor [])))
    where
      go : (0 < f.number) ⊎ (f.number ≤ 0) → (f.number < length (get_or starts f.actor []))
          ⊎ (length (get_or starts f.actor []) ≤ f.number) → f.number ≡ length (get_or starts f.actor [])
      go z (inl low) = absurd (new_here low)
      go (inr z) (inr high) = omega arith
      go (inl some) (inr high) =
          let h : f.number - 1 < length (get_or starts f.actor []) =
          waited (record { actor = f.actor; number = f.number - 1 }) (inl (refl, omega arith)) in
          omega arith

  known_here : f.actor < length starts
  known_here = omega (arith, (cells.known i j f here).0, w.actors)

  small_of : i < MAX_BLOCK → MAX_COST * i < 2 ^ 40
  small_of l = omega arith

  pub prepared : i < MAX_BLOCK → IsPrepared r cost starts f
  prepared l = record {
    actors = w.actors;
    of = (cells.known i j f here).0;
    started = waited;
    small = λ g waits.
        let at = cells.earlier i j f g here waits in
        omega (arith, end_early at.0 at.1 g at.3 at.2, small_of l);
    rise = λ a k l. rise a k l;
  }
    where
      rise : (a k : ℕ) → k + 1 < length (get_or starts a []) →
          get_or (get_or starts a []) k 0 ≤ get_or (get_or starts a []) (k + 1) 0
      rise a k l =
          let at = w.only (record { actor = a; number = k + 1 }) l in
          let is = w.each at.0 at.1 (record { actor = a; number = k + 1 }) at.2 at.3 in
          let low = is.above (get_or (get_or starts a []) k 0 + cost a)
          (record { actor = a; number = k }, inl (inl (refl, refl)), refl) in
          omega (arith, low)

  -- the column is through by then
  through_early : (t : ℕ) → (t ≡ 0) ⊎ IsColumnEnd cost rows (IsPast i j) old j t → t ≤ MAX_COST * i
  through_early t (inl z) = omega arith
  through_early t (inr (k, g, e, p, is)) = go p
    where
      go : IsPast i j k j → t ≤ MAX_COST * i
      go (inl low) = omega (arith, end_early k j g e low, is)
      go (inr (same, low)) = absurd (omega arith)

  pub until_small : i < MAX_BLOCK → j < length until → get_or until j 0 < 2 ^ 40
  until_small l known = omega (arith, through_early (get_or until j 0) (w.through j known).reached, small_of l)

  module _ (starts' : List (List ℕ)) (until' : List ℕ) (column : j < length until)
      (fired : IsFired r cost f j starts until starts' until') where
    abbrev new : Firing → ℕ
    new = start_in starts'

    abbrev line : List ℕ
    line = get_or starts f.actor [] ++ fired.start ∷ []

    own_line : get_or starts' f.actor [] ≡ line
    own_line = ap (λ (xs : List (List ℕ)). get_or xs f.actor []) fired.starts_are
        ∙ get_or-set_same starts f.actor line [] known_here

    other_line : (a : ℕ) → (a ≡ f.actor → ⊥) → get_or starts' a [] ≡ get_or starts a []
    other_line a ne = ap (λ (xs : List (List ℕ)). get_or xs a []) fired.starts_are
        ∙ get_or-set_other starts f.actor a line [] ne

    own_start : new f ≡ fired.start
    own_start = ap (λ (xs : List ℕ). get_or xs f.number 0) own_line
        ∙ get_or_push (get_or starts f.actor []) fired.start 0 f.number (sym next)

    kept : (g : Firing) → HasStart starts g → new g ≡ old g
    kept g h = go (cases_eq g.actor f.actor)
      where
        go : (g.actor ≡ f.actor) ⊎ (g.actor ≡ f.actor → ⊥) → new g ≡ old g
        go (inr ne) = ap (λ (xs : List ℕ). get_or xs g.number 0) (other_line g.actor ne)
        go (inl e) =
            let was : get_or starts g.actor [] ≡ get_or starts f.actor [] = ap (λ a. get_or starts a []) e in
            let is : get_or starts' g.actor [] ≡ line = ap (λ a. get_or starts' a []) e ∙ own_line in
            let low : g.number < length (get_or starts f.actor []) =
            omega (arith, h, ap (λ (xs : List ℕ). length xs) was) in
            ap (λ (xs : List ℕ). get_or xs g.number 0) is
            ∙ (get_or_append_left (get_or starts f.actor []) (fired.start ∷ []) 0 g.number low
            ∙ ap (λ (xs : List ℕ). get_or xs g.number 0) (sym was))

    has_own : HasStart starts' f
    has_own = omega (
      arith,
      ap (λ (xs : List ℕ). length xs) own_line,
      length_push (get_or starts f.actor []) fired.start,
      next,
    )

    has_kept : (g : Firing) → HasStart starts g → HasStart starts' g
    has_kept g h = go (cases_eq g.actor f.actor)
      where
        go : (g.actor ≡ f.actor) ⊎ (g.actor ≡ f.actor → ⊥) → HasStart starts' g
        go (inr ne) = omega (arith, h, ap (λ (xs : List ℕ). length xs) (other_line g.actor ne))
        go (inl e) =
            let was : get_or starts g.actor [] ≡ get_or starts f.actor [] = ap (λ a. get_or starts a []) e in
            let is : get_or starts' g.actor [] ≡ line = ap (λ a. get_or starts' a []) e ∙ own_line in
            omega (
              arith,
              h,
              ap (λ (xs : List ℕ). length xs) was,
              ap (λ (xs : List ℕ). length xs) is,
              length_push (get_or starts f.actor []) fired.start,
            )

    has_only : (g : Firing) → HasStart starts' g → HasStart starts g ⊎ (g ≡ f)
    has_only g h = go (cases_eq g.actor f.actor) (cases_eq g.number f.number)
      where
        go : (g.actor ≡ f.actor) ⊎ (g.actor ≡ f.actor → ⊥) → (g.number ≡ f.number) ⊎ (g.number ≡ f.number → ⊥) →
            HasStart starts g ⊎ (g ≡ f)
        go (inr ne) d = inl (omega (arith, h, ap (λ (xs : List ℕ). length xs) (other_line g.actor ne)))
        go (inl e) (inl d) = inr (λ x. record { actor = e x; number = d x })
        go (inl e) (inr ne) =
            let was : get_or starts g.actor [] ≡ get_or starts f.actor [] = ap (λ a. get_or starts a []) e in
            let is : get_or starts' g.actor [] ≡ line = ap (λ a. get_or starts' a []) e ∙ own_line in
            let long : length line ≡ length (get_or starts f.actor []) + 1 =
            length_push (get_or starts f.actor []) fired.start in
            inl (omega (arith, h, ap (λ (xs : List ℕ). length xs) was, ap (λ (xs : List ℕ). length xs) is, long, next))

    -- which cells are passed now
    past_more : (k m : ℕ) → IsPast i j k m → IsPast i (j + 1) k m
    past_more k m (inl low) = inl low
    past_more k m (inr (e, low)) = inr (e, omega arith)

    past_less : (k m : ℕ) → IsPast i (j + 1) k m → IsPast i j k m ⊎ ((k ≡ i) × (m ≡ j))
    past_less k m (inl low) = inl (inl low)
    past_less k m (inr (e, low)) = go (cases_lt m j)
      where
        go : (m < j) ⊎ (j ≤ m) → IsPast i j k m ⊎ ((k ≡ i) × (m ≡ j))
        go (inl less) = inl (inr (e, less))
        go (inr high) = inr (e, omega arith)

    past_before : (k m x y : ℕ) → IsPast i j k m → x < k → IsPast i j x y
    past_before k m x y (inl low) less = inl (omega arith)
    past_before k m x y (inr (e, low)) less = inl (omega arith)

    -- a firing that stands there is f
    at_here : (k m : ℕ) (g : Firing) → cell rows k m ≡ Some g → (k ≡ i) × (m ≡ j) → f ≡ g
    at_here k m g e (a, b) = same_Some f g (sym here ∙ (sym (ap (λ x. cell rows x m) a ∙ ap (cell rows i) b) ∙ e))

    -- what comes before a firing that is passed was kept
    ended : (k m : ℕ) (g h : Firing) → cell rows k m ≡ Some g → IsPast i j k m → ComesBefore r rows h g → new h ≡ old h
    ended k m g h e p b = let at = before_earlier r n rows cells k m g h e b in
        kept h (w.known at.0 at.1 h at.3 (past_before k m at.0 at.1 p at.2))

    ended_here : (h : Firing) → ComesBefore r rows h f → new h ≡ old h
    ended_here h b = let at = before_earlier r n rows cells i j f h here b in
        kept h (w.known at.0 at.1 h at.3 (inl at.2))

    known_more : (k m : ℕ) (g : Firing) → cell rows k m ≡ Some g → IsPast i j k m ⊎ ((k ≡ i) × (m ≡ j)) →
        HasStart starts' g
    known_more k m g e (inl p) = has_kept g (w.known k m g e p)
    known_more k m g e (inr q) = subst (HasStart starts') (at_here k m g e q) has_own

    only_more : (g : Firing) → HasStart starts g ⊎ (g ≡ f) →
        (k : ℕ) × (m : ℕ) × (cell rows k m ≡ Some g) × IsPast i (j + 1) k m
    only_more g (inl h) = let at = w.only g h in (at.0, at.1, at.2, past_more at.0 at.1 at.3)
    only_more g (inr e) = (i, j, here ∙ ap Some (sym e), inr (refl, omega arith))

    start_here : IsStart r cost rows new f
    start_here = subst (IsGreatest (λ t. (g : Firing) × ComesBefore r rows g f × (end_of cost new g ≡ t)))
        (sym own_start) (record { above = λ u x. above u x.0 x.1 x.2; reached = reach fired.is.reached })
      where
        above : (u : ℕ) (g : Firing) → ComesBefore r rows g f → end_of cost new g ≡ u → u ≤ fired.start
        above u g b e = go b
          where
            was : end_of cost old g ≡ u
            was = ap (λ t. t + cost g.actor) (sym (ended_here g b)) ∙ e

            go : ComesBefore r rows g f → u ≤ fired.start
            go (inl waits) = fired.is.above u (inr (g, waits, was))
            go (inr (k, x, y, low, up, at)) =
                let same = cells.once x y i j f at here in
                let there : cell rows k j ≡ Some g = ap (cell rows k) (sym same.1) ∙ up in
                let high : u ≤ get_or until j 0 = (w.through j column).above u
                (k, g, there, inl (omega (arith, same.0)), was) in
                let more : get_or until j 0 ≤ fired.start = fired.is.above (get_or until j 0) (inl refl) in
                omega arith

        by_column : (k : ℕ) (g : Firing) → cell rows k j ≡ Some g → IsPast i j k j →
            end_of cost old g ≡ get_or until j 0 → fired.start ≡ get_or until j 0 →
            (g : Firing) × ComesBefore r rows g f × (end_of cost new g ≡ fired.start)
        by_column k g e (inr (same, low)) is at = absurd (omega arith)
        by_column k g e (inl low) is at =
            let b : ComesBefore r rows g f = inr (k, i, j, low, e, here) in
            (g, b, ap (λ t. t + cost g.actor) (ended_here g b) ∙ (is ∙ sym at))

        by_until : fired.start ≡ get_or until j 0 → (get_or until j 0 ≡ 0)
            ⊎ IsColumnEnd cost rows (IsPast i j) old j (get_or until j 0) →
            (fired.start ≡ 0) ⊎ ((g : Firing) × ComesBefore r rows g f × (end_of cost new g ≡ fired.start))
        by_until at (inl z) = inl (at ∙ z)
        by_until at (inr (k, g, e, p, is)) = inr (by_column k g e p is at)

        reach : (fired.start ≡ 0) ⊎ ((fired.start ≡ get_or until j 0) ⊎ IsNeedEnd r cost old f fired.start) →
            (fired.start ≡ 0) ⊎ ((g : Firing) × ComesBefore r rows g f × (end_of cost new g ≡ fired.start))
        reach (inl z) = inl z
        reach (inr (inl at)) = by_until at (w.through j column).reached
        reach (inr (inr (g, waits, e))) = inr (g, inl waits, ap (λ t. t + cost g.actor) (ended_here g (inl waits)) ∙ e)

    each_more : (k m : ℕ) (g : Firing) → cell rows k m ≡ Some g → IsPast i j k m ⊎ ((k ≡ i) × (m ≡ j)) →
        IsStart r cost rows new g
    each_more k m g e (inr q) = subst (IsStart r cost rows new) (at_here k m g e q) start_here
    each_more k m g e (inl p) =
        subst (IsGreatest (λ t. (h : Firing) × ComesBefore r rows h g × (end_of cost new h ≡ t)))
        (sym (kept g (w.known k m g e p)))
        (greatest_same (λ t. (h : Firing) × ComesBefore r rows h g × (end_of cost old h ≡ t))
        (λ t. (h : Firing) × ComesBefore r rows h g × (end_of cost new h ≡ t)) (old g)
        (λ u x. (x.0, x.1, ap (λ t. t + cost x.0.actor) (ended k m g x.0 e p x.1) ∙ x.2))
        (λ u x. (x.0, x.1, ap (λ t. t + cost x.0.actor) (sym (ended k m g x.0 e p x.1)) ∙ x.2)) (w.each k m g e p))

    start_early : fired.start ≤ MAX_COST * i
    start_early = greatest_least (λ u. (u ≡ get_or until j 0) ⊎ IsNeedEnd r cost old f u) fired.start
        (MAX_COST * i) fired.is low
      where
        low : (u : ℕ) → (u ≡ get_or until j 0) ⊎ IsNeedEnd r cost old f u → u ≤ MAX_COST * i
        low u (inl e) = omega (arith, e, through_early (get_or until j 0) (w.through j column).reached)
        low u (inr (g, waits, e)) = let at = cells.earlier i j f g here waits in
            omega (arith, end_early at.0 at.1 g at.3 at.2, e)

    early_more : (k m : ℕ) (g : Firing) → cell rows k m ≡ Some g → IsPast i j k m ⊎ ((k ≡ i) × (m ≡ j)) →
        new g ≤ MAX_COST * k
    early_more k m g e (inl p) = omega (arith, w.early k m g e p, kept g (w.known k m g e p))
    early_more k m g e (inr q) =
        let its : new f ≡ new g = ap new (at_here k m g e q) in
        let bound : MAX_COST * i ≡ MAX_COST * k = ap (λ x. MAX_COST * x) (sym q.0) in
        omega (arith, start_early, own_start)

    through_here : IsGreatest (IsColumnEnd cost rows (IsPast i (j + 1)) new j) (fired.start + cost f.actor)
    through_here = record {
      above = λ u x. above u x.0 x.1 x.2 x.4 (past_less x.0 j x.3);
      reached = inr (i, f, here, inr (refl, omega arith), ap (λ t. t + cost f.actor) own_start);
    }
      where
        above : (u k : ℕ) (g : Firing) → cell rows k j ≡ Some g → end_of cost new g ≡ u →
            IsPast i j k j ⊎ ((k ≡ i) × (j ≡ j)) → u ≤ fired.start + cost f.actor
        above u k g e is (inr q) =
            let its : end_of cost new f ≡ end_of cost new g = ap (end_of cost new) (at_here k j g e q) in
            omega (arith, its, own_start, is)
        above u k g e is (inl p) =
            let was : end_of cost old g ≡ u = ap (λ t. t + cost g.actor) (sym (kept g (w.known k j g e p))) ∙ is in
            let high : u ≤ get_or until j 0 = (w.through j column).above u (k, g, e, p, was) in
            let more : get_or until j 0 ≤ fired.start = fired.is.above (get_or until j 0) (inl refl) in
            omega arith

    through_other : (m : ℕ) → (m ≡ j → ⊥) → m < length until →
        IsGreatest (IsColumnEnd cost rows (IsPast i (j + 1)) new m) (get_or until m 0)
    through_other m ne l =
        greatest_same (IsColumnEnd cost rows (IsPast i j) old m) (IsColumnEnd cost rows (IsPast i (j + 1)) new m)
        (get_or until m 0)
        (λ u x. (
          x.0,
          x.1,
          x.2,
          past_more x.0 m x.3,
          ap (λ t. t + cost x.1.actor) (kept x.1 (w.known x.0 m x.1 x.2 x.3)) ∙ x.4,
        ))
        (λ u x. back u x.0 x.1 x.2 x.4 (past_less x.0 m x.3)) (w.through m l)
      where
        back : (u k : ℕ) (g : Firing) → cell rows k m ≡ Some g → end_of cost new g ≡ u →
            IsPast i j k m ⊎ ((k ≡ i) × (m ≡ j)) → IsColumnEnd cost rows (IsPast i j) old m u
        back u k g e is (inr q) = absurd (ne q.1)
        back u k g e is (inl p) = (k, g, e, p, ap (λ t. t + cost g.actor) (sym (kept g (w.known k m g e p))) ∙ is)

    through_more : (m : ℕ) → m < length until' → (m ≡ j) ⊎ (m ≡ j → ⊥) →
        IsGreatest (IsColumnEnd cost rows (IsPast i (j + 1)) new m) (get_or until' m 0)
    through_more m l (inl e) =
        let is : get_or until' j 0 ≡ fired.start + cost f.actor =
        ap (λ (xs : List ℕ). get_or xs j 0) fired.until_are
        ∙ get_or-set_same until j (fired.start + cost f.actor) 0 column in
        subst (λ m. IsGreatest (IsColumnEnd cost rows (IsPast i (j + 1)) new m) (get_or until' m 0)) (sym e)
        (subst (IsGreatest (IsColumnEnd cost rows (IsPast i (j + 1)) new j)) (sym is) through_here)
    through_more m l (inr ne) =
        let is : get_or until' m 0 ≡ get_or until m 0 =
        ap (λ (xs : List ℕ). get_or xs m 0) fired.until_are
        ∙ get_or-set_other until j m (fired.start + cost f.actor) 0 ne in
        let long : length until' ≡ length until = ap (λ (xs : List ℕ). length xs) fired.until_are
        ∙ length-set until j (fired.start + cost f.actor) in
        subst (IsGreatest (IsColumnEnd cost rows (IsPast i (j + 1)) new m)) (sym is) (through_other m ne (omega arith))

    pub walk_fire : IsWalk r cost rows (IsPast i (j + 1)) starts' until'
    walk_fire = record {
      actors = ap (λ (xs : List (List ℕ)). length xs) fired.starts_are ∙ (length-set starts f.actor line ∙ w.actors);
      known = λ k m g e p. known_more k m g e (past_less k m p);
      only = λ g h. only_more g (has_only g h);
      each = λ k m g e p. each_more k m g e (past_less k m p);
      early = λ k m g e p. early_more k m g e (past_less k m p);
      through = λ m l. through_more m l (cases_eq m j);
    }

    pub wide_fire : length until' ≡ length until
    wide_fire = ap (λ (xs : List ℕ). length xs) fired.until_are ∙ length-set until j (fired.start + cost f.actor)
