-- One more row.
use Rattle.std.proofs.Common.{◌≡◌, ℕ, zero, suc, ◌+◌, ◌≤◌, ◌<◌, ◌⊎◌, ◌↔◌, List, [], ◌∷◌, ◌++◌, length, get_or, sym, ap}
use Rattle.std.proofs.Common.{◌∙◌, subst, inl, inr, arith, refl, Option, Some, None}
use Rattle.std.proofs.lemmas.List.{get_or_append_left, get_or_push, length_push}
use Rattle.std.proofs.lemmas.Option.{none-some, same_Some}
use Rattle.std.proofs.lemmas.Bool.{cases_lt, cases_eq, cases_order}
use Rattle.sdf_graph.specs.Rates.{Rates}
use Rattle.sdf_graph.specs.Sequences.{IsEnabled}
use Rattle.sdf_prec.specs.declared.firing.Firing.{Firing}
use Rattle.sdf_prec.specs.TimedRows.{Timed, no_row, timed, StandsAt, Occurs, end_at}
use Rattle.sdf_prec.specs.Floor.{IsNextReady, IsFloor, AreStarted}
use Rattle.sdf_prec.proofs.Floors.{row_known, column_known}

-- a firing of the actor stands in the row, or none does
pub actor_in : (cells : List (Option Firing)) (a : ℕ) →
    ((j : ℕ) × (f : Firing) × (get_or cells j None ≡ Some f) × (f.actor ≡ a))
    ⊎ ((j : ℕ) (f : Firing) → get_or cells j None ≡ Some f → f.actor ≡ a → ⊥)
actor_in [] a = inr (λ j f e _. none-some f e)
actor_in (c ∷ cells) a = go (here c) (actor_in cells a)
  where
    here : (o : Option Firing) → ((f : Firing) × (o ≡ Some f) × (f.actor ≡ a))
        ⊎ ((f : Firing) → o ≡ Some f → f.actor ≡ a → ⊥)
    here None = inr (λ f e _. none-some f e)
    here (Some g) = at (cases_eq g.actor a)
      where
        at : (g.actor ≡ a) ⊎ (g.actor ≡ a → ⊥) → ((f : Firing) × (Some g ≡ Some f) × (f.actor ≡ a))
            ⊎ ((f : Firing) → Some g ≡ Some f → f.actor ≡ a → ⊥)
        at (inl e) = inl (g, refl, e)
        at (inr ne) = inr (λ f e is. ne (ap (λ (f : Firing). f.actor) (same_Some g f e) ∙ is))

    go : ((f : Firing) × (c ≡ Some f) × (f.actor ≡ a)) ⊎ ((f : Firing) → c ≡ Some f → f.actor ≡ a → ⊥) →
        ((j : ℕ) × (f : Firing) × (get_or cells j None ≡ Some f) × (f.actor ≡ a))
        ⊎ ((j : ℕ) (f : Firing) → get_or cells j None ≡ Some f → f.actor ≡ a → ⊥) →
        ((j : ℕ) × (f : Firing) × (get_or (c ∷ cells) j None ≡ Some f) × (f.actor ≡ a))
        ⊎ ((j : ℕ) (f : Firing) → get_or (c ∷ cells) j None ≡ Some f → f.actor ≡ a → ⊥)
    go (inl (f, e, is)) _ = inl (zero, f, e, is)
    go (inr no_here) (inl (j, f, e, is)) = inl (suc j, f, e, is)
    go (inr no_here) (inr no_later) = inr none
      where
        none : (j : ℕ) (f : Firing) → get_or (c ∷ cells) j None ≡ Some f → f.actor ≡ a → ⊥
        none zero f e is = no_here f e is
        none (suc j) f e is = no_later j f e is

module _ (past : List Timed) (x : Timed) where
  pub row_old : (i : ℕ) → i < length past → timed (past ++ x ∷ []) i ≡ timed past i
  row_old i l = get_or_append_left past (x ∷ []) no_row i l

  pub row_new : timed (past ++ x ∷ []) (length past) ≡ x
  row_new = get_or_push past x no_row (length past) refl

  pub at_old : (i j : ℕ) (f : Firing) → StandsAt past i j f → StandsAt (past ++ x ∷ []) i j f
  at_old i j f at = ap (λ (y : Timed). get_or y.cells j None) (row_old i (row_known past i j f at)) ∙ at

  pub at_new : (j : ℕ) (f : Firing) → get_or x.cells j None ≡ Some f → StandsAt (past ++ x ∷ []) (length past) j f
  at_new j f e = ap (λ (y : Timed). get_or y.cells j None) row_new ∙ e

  pub at_cases : (i j : ℕ) (f : Firing) → StandsAt (past ++ x ∷ []) i j f →
      ((i < length past) × StandsAt past i j f) ⊎ ((i ≡ length past) × (get_or x.cells j None ≡ Some f))
  at_cases i j f at = go (cases_order i (length past))
    where
      go : (i ≡ length past) ⊎ ((i < length past) ⊎ (length past < i)) →
          ((i < length past) × StandsAt past i j f) ⊎ ((i ≡ length past) × (get_or x.cells j None ≡ Some f))
      go (inl e) = inr (
        e,
        sym (ap (λ (y : Timed). get_or y.cells j None)
            (ap (timed (past ++ x ∷ [])) e ∙ row_new)) ∙ at,
      )
      go (inr (inl l)) = inl (l, sym (ap (λ (y : Timed). get_or y.cells j None) (row_old i l)) ∙ at)
      go (inr (inr l)) = let k = row_known (past ++ x ∷ []) i j f at in absurd (omega (arith, length_push past x))

module _ {r : Rates} {n cost : ℕ → ℕ} {width : ℕ} {past : List Timed} {now : ℕ}
    {ended started whose until started' whose' until' : ℕ → ℕ} {cells : List (Option Firing)}
    (w : IsFloor r n cost width past now ended started whose until) (dear : (a : ℕ) → a < r.actors → 1 ≤ cost a)
    (each : (j : ℕ) (f : Firing) → get_or cells j None ≡ Some f →
    IsNextReady r n ended started f × (j < width) × (until j ≤ now))
    (apart : (j m : ℕ) (f g : Firing) → get_or cells j None ≡ Some f → get_or cells m None ≡ Some g →
    f.actor ≡ g.actor → j ≡ m)
    (b : AreStarted cost now (length cells) cells started whose until started' whose' until') where
  abbrev new : Timed
  new = record { start = now; cells = cells }

  abbrev rows : List Timed
  rows = past ++ record { start = now; cells = cells } ∷ []

  begun : (j : ℕ) (f : Firing) → get_or cells j None ≡ Some f →
      (started' f.actor ≡ f.number + 1) × (whose' j ≡ f.actor) × (until' j ≡ now + cost f.actor)
  begun j f e = b.each j f (column_known cells j f e) e

  kept : (a : ℕ) → ((j : ℕ) (f : Firing) → get_or cells j None ≡ Some f → f.actor ≡ a → ⊥) →
      started' a ≡ started a
  kept a none = b.others a (λ j f l. none j f)

  -- an actor of the row, with its firing's number
  more : (a j : ℕ) (f : Firing) → get_or cells j None ≡ Some f → f.actor ≡ a →
      (started' a ≡ started a + 1) × (ended a ≡ started a) × IsEnabled r ended a
  more a j f e is =
      let s = begun j f e in
      let h = (each j f e).0 in
      subst (λ a. (started' a ≡ started a + 1) × (ended a ≡ started a) × IsEnabled r ended a)
      is (omega (arith, s.0, h.next), h.through, h.on)

  rises : (a : ℕ) → started a ≤ started' a
  rises a = go (actor_in cells a)
    where
      go : ((j : ℕ) × (f : Firing) × (get_or cells j None ≡ Some f) × (f.actor ≡ a))
          ⊎ ((j : ℕ) (f : Firing) → get_or cells j None ≡ Some f → f.actor ≡ a → ⊥) → started a ≤ started' a
      go (inl (j, f, e, is)) = omega (arith, (more a j f e is).0)
      go (inr none) = omega (arith, kept a none)

  end_old : (i : ℕ) (f : Firing) → i < length past → end_at cost rows i f ≡ end_at cost past i f
  end_old i f l = ap (λ (y : Timed). y.start + cost f.actor) (row_old past (record { start = now; cells = cells }) i l)

  end_new : (i : ℕ) (f : Firing) → i ≡ length past → end_at cost rows i f ≡ now + cost f.actor
  end_new i f e = ap (λ (y : Timed). y.start + cost f.actor)
      (ap (timed rows) e ∙ row_new past (record { start = now; cells = cells }))

  cases : (i j : ℕ) (f : Firing) → StandsAt rows i j f →
      ((i < length past) × StandsAt past i j f) ⊎ ((i ≡ length past) × (get_or cells j None ≡ Some f))
  cases i j f at = at_cases past (record { start = now; cells = cells }) i j f at

  low : (i j : ℕ) (f : Firing) → StandsAt past i j f → f.number < started f.actor
  low i j f at = (w.occurs f (w.known i j f at).0).1 (i, j, at)

  occurs_to : (f : Firing) → f.actor < r.actors → f.number < started' f.actor → Occurs rows f
  occurs_to f k l = go (actor_in cells f.actor)
    where
      old : f.number < started f.actor → Occurs rows f
      old h = let o = (w.occurs f k).0 h in (
        o.0,
        o.1,
        at_old past (record { start = now; cells = cells }) o.0 o.1 f o.2,
      )

      go : ((j : ℕ) × (g : Firing) × (get_or cells j None ≡ Some g) × (g.actor ≡ f.actor))
          ⊎ ((j : ℕ) (g : Firing) → get_or cells j None ≡ Some g → g.actor ≡ f.actor → ⊥) → Occurs rows f
      go (inr none) = old (let e = kept f.actor none in omega arith)
      go (inl (j, g, e, is)) = at (cases_lt f.number (started f.actor))
        where
          at : (f.number < started f.actor) ⊎ (started f.actor ≤ f.number) → Occurs rows f
          at (inl h) = old h
          at (inr h) =
              let s = (more f.actor j g e is).0 in
              let next : g.number ≡ started f.actor = (each j g e).0.next ∙ ap started is in
              let number : g.number ≡ f.number = omega arith in
              let same : g ≡ f = (λ k. record { actor = is k; number = number k }) in
              (length past, j, at_new past (record { start = now; cells = cells }) j f (e ∙ ap Some same))

  occurs_from : (f : Firing) → f.actor < r.actors → Occurs rows f → f.number < started' f.actor
  occurs_from f k (i, j, at) = go (cases i j f at)
    where
      go : ((i < length past) × StandsAt past i j f) ⊎ ((i ≡ length past) × (get_or cells j None ≡ Some f)) →
          f.number < started' f.actor
      go (inl (_, old)) = omega (arith, low i j f old, rises f.actor)
      go (inr (_, e)) = omega (arith, (begun j f e).0)

  pub floor_more : IsFloor r n cost width rows now ended started' whose' until'
  floor_more = record {
    occurs = λ f k. (occurs_to f k, occurs_from f k);
    known = λ i j f at. known i j f (cases i j f at);
    within = λ a l. within a l (actor_in cells a);
    once = λ i j k m f at at'. once i j k m f (cases i j f at) (cases k m f at');
    ended_is = λ i j f at. ended_is i j f (cases i j f at);
    through = λ a l. through a l (actor_in cells a);
    on = λ a l h. on a l h (actor_in cells a);
    at_work = λ i j f at late. at_work i j f (cases i j f at) (get_or cells j None) (λ _. get_or cells j None) late;
    until_above = λ i j f at. above i j f (cases i j f at) (get_or cells j None) (λ _. get_or cells j None);
    until_at = λ j. until_at j (get_or cells j None) (λ _. get_or cells j None);
  }
    where
      known : (i j : ℕ) (f : Firing) → ((i < length past) × StandsAt past i j f)
          ⊎ ((i ≡ length past) × (get_or cells j None ≡ Some f)) →
          (f.actor < r.actors) × (j < width) × ((timed rows i).start ≤ now)
      known i j f (inl (l, at)) =
          let k = w.known i j f at in
          let e = ap (λ (y : Timed). y.start) (row_old past (record { start = now; cells = cells }) i l) in
          (k.0, k.1, omega (arith, k.2, e))
      known i j f (inr (l, e)) =
          let s = ap (λ (y : Timed). y.start) (ap (timed rows) l
          ∙ row_new past (record { start = now; cells = cells })) in
          let h = each j f e in
          (h.0.known, h.1, omega (arith, s))

      within : (a : ℕ) → a < r.actors → ((j : ℕ) × (f : Firing) × (get_or cells j None ≡ Some f) × (f.actor ≡ a))
          ⊎ ((j : ℕ) (f : Firing) → get_or cells j None ≡ Some f → f.actor ≡ a → ⊥) → started' a ≤ n a
      within a l (inl (j, f, e, is)) =
          let s = (more a j f e is).0 in
          let h = (each j f e).0 in
          let room : f.number < n a = subst (λ a. f.number < n a) is h.within in
          let next : f.number ≡ started a = h.next ∙ ap started is in
          omega arith
      within a l (inr none) = omega (arith, kept a none, w.within a l)

      -- what is ready stands in no earlier row
      fresh : (i j m : ℕ) (f : Firing) → StandsAt past i j f → get_or cells m None ≡ Some f → ⊥
      fresh i j m f at e = let h = (each m f e).0 in omega (arith, low i j f at, h.next)

      once : (i j k m : ℕ) (f : Firing) → ((i < length past) × StandsAt past i j f)
          ⊎ ((i ≡ length past) × (get_or cells j None ≡ Some f)) →
          ((k < length past) × StandsAt past k m f) ⊎ ((k ≡ length past) × (get_or cells m None ≡ Some f)) →
          (i ≡ k) × (j ≡ m)
      once i j k m f (inl (_, at)) (inl (_, at')) = w.once i j k m f at at'
      once i j k m f (inl (_, at)) (inr (_, e)) = absurd (fresh i j m f at e)
      once i j k m f (inr (_, e)) (inl (_, at)) = absurd (fresh k m j f at e)
      once i j k m f (inr (l, e)) (inr (l', e')) = (l ∙ sym l', apart j m f f e e' (λ _. f.actor))

      ended_is : (i j : ℕ) (f : Firing) → ((i < length past) × StandsAt past i j f)
          ⊎ ((i ≡ length past) × (get_or cells j None ≡ Some f)) →
          (end_at cost rows i f ≤ now) ↔ (f.number < ended f.actor)
      ended_is i j f (inl (l, at)) =
          let is = end_old i f l in (
            λ h. (w.ended_is i j f at).0 (subst (λ x. x ≤ now) is h),
            λ h. subst (λ x. x ≤ now) (sym is) ((w.ended_is i j f at).1 h),
          )
      ended_is i j f (inr (l, e)) =
          let is = end_new i f l in
          let h = (each j f e).0 in
          let c = dear f.actor h.known in (
            λ x. let y = subst (λ z. z ≤ now) is x in absurd (omega arith),
            λ x. absurd (omega (arith, h.next, h.through)),
          )

      through : (a : ℕ) → a < r.actors → ((j : ℕ) × (f : Firing) × (get_or cells j None ≡ Some f) × (f.actor ≡ a))
          ⊎ ((j : ℕ) (f : Firing) → get_or cells j None ≡ Some f → f.actor ≡ a → ⊥) →
          (ended a ≡ started' a) ⊎ (ended a + 1 ≡ started' a)
      through a l (inl (j, f, e, is)) = let m = more a j f e is in
          inr (let x : ended a + 1 ≡ started' a = omega (arith, m.0, m.1) in x)
      through a l (inr none) =
          subst (λ s. (ended a ≡ s) ⊎ (ended a + 1 ≡ s)) (sym (kept a none)) (w.through a l)

      on : (a : ℕ) → a < r.actors → ended a < started' a →
          ((j : ℕ) × (f : Firing) × (get_or cells j None ≡ Some f) × (f.actor ≡ a))
          ⊎ ((j : ℕ) (f : Firing) → get_or cells j None ≡ Some f → f.actor ≡ a → ⊥) → IsEnabled r ended a
      on a l h (inl (j, f, e, is)) = (more a j f e is).2
      on a l h (inr none) = w.on a l (let k = kept a none in omega arith)

      -- the column of a new firing was through
      column_rises : (j : ℕ) (o : Option Firing) → get_or cells j None ≡ o → until j ≤ until' j
      column_rises j None e = let k = (b.columns j (λ f l is. none-some f (sym e ∙ is))).1 in omega arith
      column_rises j (Some g) e = let k = (each j g e).2 in omega (arith, (begun j g e).2)

      at_work : (i j : ℕ) (f : Firing) → ((i < length past) × StandsAt past i j f)
          ⊎ ((i ≡ length past) × (get_or cells j None ≡ Some f)) → (o : Option Firing) → get_or cells j None ≡ o →
          now < end_at cost rows i f → (whose' j ≡ f.actor) × (until' j ≡ end_at cost rows i f)
      at_work i j f (inr (l, e)) _ _ late = ((begun j f e).1, (begun j f e).2 ∙ sym (end_new i f l))
      at_work i j f (inl (l, at)) None e late =
          let is = end_old i f l in
          let same = b.columns j (λ f l is. none-some f (sym e ∙ is)) in
          let old = w.at_work i j f at (omega arith) in
          (same.0 ∙ old.0, same.1 ∙ (old.1 ∙ sym is))
      at_work i j f (inl (l, at)) (Some g) e late =
          -- the column was not through
          absurd (omega (arith, end_old i f l, w.until_above i j f at, (each j g e).2))

      above : (i j : ℕ) (f : Firing) → ((i < length past) × StandsAt past i j f)
          ⊎ ((i ≡ length past) × (get_or cells j None ≡ Some f)) → (o : Option Firing) → get_or cells j None ≡ o →
          end_at cost rows i f ≤ until' j
      above i j f (inl (l, at)) o e = omega (arith, end_old i f l, w.until_above i j f at, column_rises j o e)
      above i j f (inr (l, is)) o e = omega (arith, end_new i f l, (begun j f is).2)

      until_at : (j : ℕ) (o : Option Firing) → get_or cells j None ≡ o →
          (until' j ≡ 0) ⊎ ((i : ℕ) × (f : Firing) × StandsAt rows i j f × (until' j ≡ end_at cost rows i f))
      until_at j (Some g) e = inr (
        length past,
        g,
        at_new past (record { start = now; cells = cells }) j g e,
        (begun j g e).2 ∙ sym (end_new (length past) g refl),
      )
      until_at j None e = go (w.until_at j)
        where
          same : until' j ≡ until j
          same = (b.columns j (λ f l is. none-some f (sym e ∙ is))).1

          go : (until j ≡ 0) ⊎ ((i : ℕ) × (f : Firing) × StandsAt past i j f × (until j ≡ end_at cost past i f)) →
              (until' j ≡ 0) ⊎ ((i : ℕ) × (f : Firing) × StandsAt rows i j f × (until' j ≡ end_at cost rows i f))
          go (inl z) = inl (same ∙ z)
          go (inr (i, f, at, is)) = inr (
            i,
            f,
            at_old past (record { start = now; cells = cells }) i j f at,
            same ∙ (is ∙ sym (end_old i f (row_known past i j f at))),
          )
