-- Rows by the rule, and times at which they are empty.
use Rattle.std.proofs.Common.{◌≡◌, ℕ, zero, suc, ◌+◌, ◌*◌, ◌≤◌, ◌<◌, ◌⊎◌, ◌↔◌, List, [], ◌∷◌, length, get_or, sym, ap}
use Rattle.std.proofs.Common.{◌∙◌, subst, inl, inr, arith, refl, Option, Some, None, true}
use Rattle.std.specs.Prelude.{slice_get, IsTrue}
use Rattle.std.specs.List.{Contains}
use Rattle.std.proofs.lemmas.List.{get_or_default}
use Rattle.std.proofs.lemmas.Option.{none-some, same_Some, slice_get_within, get_or_from_slice_get, slice_get-get_or}
use Rattle.std.proofs.lemmas.Bool.{cases_lt, cases_order}
use Rattle.sdf_graph.specs.Rates.{Rates, IsSound}
use Rattle.sdf_graph.specs.Adjacency.{ListsExactly}
use Rattle.sdf_prec.specs.declared.firing.Firing.{Firing}
use Rattle.sdf_prec.specs.Tables.{firing, firings, no_firing, Stands}
use Rattle.sdf_prec.specs.Trying.{IsTriedBefore, IsQueue, IsLeast, IsPlace, IsLeft, IsPlaced, ArePlaced, load}
use Rattle.sdf_prec.specs.TimedRows.{Timed, IsBusy, IsReadyAt, IsSettled, IsFreeRow, IsHomedRow}
use Rattle.sdf_prec.specs.Floor.{IsNextReady, IsFilling, IsFloor, AreStarted, IsStuck}
use Rattle.sdf_prec.specs.Placing.{IsOpen, IsPlacing, AreWaiting}
use Rattle.sdf_prec.proofs.Floors.{column_known, ready_to, ready_of, busy_to, busy_of}
use Rattle.sdf_prec.proofs.Trial.{place_unique, placed_idle}

pub nothing : (cells : List (Option Firing)) → ((j : ℕ) (f : Firing) → get_or cells j None ≡ Some f → ⊥) →
    firings cells ≡ []
nothing [] none = refl
nothing (None ∷ cells) none = nothing cells (λ j f e. none (suc j) f e)
nothing (Some g ∷ cells) none = absurd (none zero g refl)

pub queue_alike : {level : Firing → ℕ} {P Q : Firing → Type 0} {q : List Firing} → ((f : Firing) → P f → Q f) →
    ((f : Firing) → Q f → P f) → IsQueue level P q → IsQueue level Q q
queue_alike {q = q} to from s = record {
  each = λ p l. to (firing q p) (s.each p l);
  all = λ f h. s.all f (from f h);
  sorted = s.sorted;
}

lists_alike : {P Q : ℕ → Type 0} {n : ℕ} {xs : List ℕ} → ((j : ℕ) → P j → Q j) → ((j : ℕ) → Q j → P j) →
    ListsExactly P n xs → ListsExactly Q n xs
lists_alike {xs = xs} to from s = record {
  rising = s.rising;
  each = λ i l. let e = s.each i l in (e.0, to (get_or xs i 0) e.1);
  all = λ x l h. s.all x l (from x h);
}

-- each firing stands once in a queue
pub queue_once : {level : Firing → ℕ} {P : Firing → Type 0} {q : List Firing} → IsQueue level P q → (p m : ℕ) → p < m →
    m < length q → firing q p ≡ firing q m → ⊥
queue_once {level = level} {q = q} s p m h l e = go (firing q p) (firing q m) e (s.sorted p m h l)
  where
    go : (f g : Firing) → f ≡ g → IsTriedBefore level f g → ⊥
    go f g e (inl less) = let same = ap level e in omega arith
    go f g e (inr (_, inl less)) = let same = ap (λ (f : Firing). f.actor) e in omega arith
    go f g e (inr (_, inr (_, less))) = let same = ap (λ (f : Firing). f.number) e in omega arith

pub queue_place : {level : Firing → ℕ} {P : Firing → Type 0} {q : List Firing} → IsQueue level P q → (p m : ℕ) →
    p < length q → m < length q → firing q p ≡ firing q m → p ≡ m
queue_place s p m k l e = go (cases_order p m)
  where
    go : (p ≡ m) ⊎ ((p < m) ⊎ (m < p)) → p ≡ m
    go (inl same) = same
    go (inr (inl h)) = absurd (queue_once s p m h l e)
    go (inr (inr h)) = absurd (queue_once s m p h k (sym e))

module _ {r : Rates} {n cost : ℕ → ℕ} (level : Firing → ℕ) {width : ℕ} {past : List Timed} {t : ℕ}
    {ended started whose until : ℕ → ℕ} (w : IsFloor r n cost width past t ended started whose until)
    (s : IsSound r) where
  idle_to : (j : ℕ) → until j ≤ t → IsBusy cost past t j → ⊥
  idle_to j h b = let l = busy_to w j b in omega arith

  idle_of : (j : ℕ) → (IsBusy cost past t j → ⊥) → until j ≤ t
  idle_of j h = go (cases_lt t (until j))
    where
      go : (t < until j) ⊎ (until j ≤ t) → until j ≤ t
      go (inl l) = absurd (h (busy_of w j l))
      go (inr l) = l

  queue_at : {queue : List Firing} → IsQueue level (IsNextReady r n ended started) queue →
      IsQueue level (IsReadyAt r n cost past t) queue
  queue_at q = queue_alike (ready_to w s) (ready_of w s) q

  -- a ready firing where no column is left: the row is empty
  pub free_empty : ((f : Firing) → IsNextReady r n ended started f → (j : ℕ) → j < width → t < until j) →
      (cells : List (Option Firing)) → IsFreeRow r n cost level width past t cells → firings cells ≡ []
  free_empty stuck cells row = nothing cells stands
    where
      stands : (j : ℕ) (f : Firing) → get_or cells j None ≡ Some f → ⊥
      stands j f e = at (row.filled.only j f e)
        where
          at : Contains row.columns j → ⊥
          at (q, l, is) =
              let column : get_or row.columns q 0 ≡ j = get_or_default row.columns q 0 j l ∙ is in
              let known = row.idle.each q l in
              let here : slice_get row.queue q ≡ Some f =
              sym (row.filled.filled q l) ∙ (ap (λ c. get_or cells c None) column ∙ e) in
              let ready = ready_of w s (firing row.queue q)
              (row.ready.each q (slice_get_within row.queue q f here)) in
              known.1 (busy_of w (get_or row.columns q 0)
              (stuck (firing row.queue q) ready (get_or row.columns q 0) known.0))

  pub homed_empty : (homes : ℕ → Option ℕ) → ((a j : ℕ) → a < r.actors → (homes a ≡ Some j) ↔ IsSettled past a j) →
      IsStuck r n ended started until homes width t true →
      (cells : List (Option Firing)) → IsHomedRow r n cost level width past t cells → firings cells ≡ []
  homed_empty homes homes_are stuck cells row = nothing cells stands
    where
      stands : (j : ℕ) (f : Firing) → get_or cells j None ≡ Some f → ⊥
      stands j f e = at (row.placed.only j f e)
        where
          at : Stands row.queue f → ⊥
          at (p, l, is) = go (stuck (firing row.queue p) ready)
            where
              ready : IsNextReady r n ended started (firing row.queue p)
              ready = ready_of w s (firing row.queue p)
                  (row.ready.each p l)

              pl : IsPlaced r.actors width (λ a. n a * cost a) (λ j. IsBusy cost past t j → ⊥) row.homes
                  row.queue cells p
              pl = row.placed.each p l

              place : IsPlace width (λ m. (IsBusy cost past t m → ⊥) × IsLeft row.queue cells p m)
                  (load r.actors (λ a. n a * cost a) pl.home) (pl.home (firing row.queue p).actor) j
              place = (pl.stands j).0 (e ∙ ap Some (sym is))

              go : ((k : ℕ) × IsTrue true × (homes (firing row.queue p).actor ≡ Some k) × (t < until k))
                  ⊎ ((j : ℕ) → j < width → t < until j) → ⊥
              go (inr all) = place.is_free.0 (busy_of w j
                  (all j place.known))
              go (inl (k, _, home, busy)) = found place.chosen
                where
                  had : row.homes (firing row.queue p).actor ≡ Some k
                  had = (row.homes_are (firing row.queue p).actor k ready.known).1
                      ((homes_are (firing row.queue p).actor k ready.known).0 home)

                  then_home : pl.home (firing row.queue p).actor ≡ Some k
                  then_home = (pl.home_is (firing row.queue p).actor k ready.known).1 (inl had)

                  found : (pl.home (firing row.queue p).actor ≡ Some j)
                      ⊎ ((pl.home (firing row.queue p).actor ≡ None)
                      × IsLeast width (λ m. (IsBusy cost past t m → ⊥) × IsLeft row.queue cells p m)
                      (load r.actors (λ a. n a * cost a) pl.home) j) → ⊥
                  found (inl g) = place.is_free.0 (busy_of w j
                      (subst (λ j. t < until j) (same_Some k j (sym then_home ∙ g)) busy))
                  found (inr (none, _)) = none-some k (sym none ∙ then_home)

  module _ {queue : List Firing} (q : IsQueue level (IsNextReady r n ended started) queue) where
    -- ready firings of one actor are one firing
    same_ready : (f g : Firing) → IsNextReady r n ended started f → IsNextReady r n ended started g →
        f.actor ≡ g.actor → f ≡ g
    same_ready f g h k e = let number : f.number ≡ g.number = h.next ∙ (ap started e ∙ sym k.next) in
        (λ i. record { actor = e i; number = number i })

    module _ {cells : List (Option Firing)} {u : List ℕ} {next : ℕ} (fill : IsFilling u t width queue next cells)
        (u_is : (j : ℕ) → get_or u j 0 ≡ until j) where
      -- where a firing of a filled row stands in the queue
      from : (j : ℕ) (f : Firing) → get_or cells j None ≡ Some f →
          (p : ℕ) × (p < length fill.columns) × (get_or fill.columns p 0 ≡ j) × (p < length queue)
          × (firing queue p ≡ f)
      from j f e = at (fill.filled.only j f e)
        where
          at : Contains fill.columns j → (p : ℕ) × (p < length fill.columns) × (get_or fill.columns p 0 ≡ j)
              × (p < length queue) × (firing queue p ≡ f)
          at (p, l, is) =
              let column : get_or fill.columns p 0 ≡ j = get_or_default fill.columns p 0 j l ∙ is in
              let here : slice_get queue p ≡ Some f = sym (fill.filled.filled p l)
              ∙ (ap (λ c. get_or cells c None) column ∙ e) in
              (p, l, column, slice_get_within queue p f here, get_or_from_slice_get queue p f no_firing here)

      pub filled_each : (j : ℕ) (f : Firing) → get_or cells j None ≡ Some f →
          IsNextReady r n ended started f × (j < width) × (until j ≤ t)
      filled_each j f e =
          let x = from j f e in
          let c = fill.idle.each x.0 x.1 in (
            subst (IsNextReady r n ended started) x.4 (q.each x.0 x.3),
            subst (λ j. j < width) x.2 c.0,
            subst (λ y. y ≤ t) (u_is j) (subst (λ j. get_or u j 0 ≤ t) x.2 c.1),
          )

      pub filled_apart : (j m : ℕ) (f g : Firing) → get_or cells j None ≡ Some f → get_or cells m None ≡ Some g →
          f.actor ≡ g.actor → j ≡ m
      filled_apart j m f g e e' is =
          let x = from j f e in
          let y = from m g e' in
          let same : f ≡ g = same_ready f g (filled_each j f e).0 (filled_each m g e').0 is in
          let p = queue_place q x.0 y.0 x.3 y.3 (x.4 ∙ (same ∙ sym y.4)) in
          sym x.2 ∙ (ap (λ p. get_or fill.columns p 0) p ∙ y.2)

      pub free_row : IsFreeRow r n cost level width past t cells
      free_row = record {
        queue = queue;
        columns = fill.columns;
        ready = queue_at q;
        idle = lists_alike (λ j h. idle_to j (subst (λ y. y ≤ t) (u_is j) h))
            (λ j h. subst (λ y. y ≤ t) (sym (u_is j)) (idle_of j h)) fill.idle;
        filled = fill.filled;
      }

    module _ {cells : List (Option Firing)} {weight : ℕ → ℕ} (u : List ℕ) (homes : List (Option ℕ))
        {homes' : List (Option ℕ)} (weight_is : weight ≡ (λ a. n a * cost a))
        (u_is : (j : ℕ) → get_or u j 0 ≡ until j)
        (homes_are : (a j : ℕ) → a < r.actors → (get_or homes a None ≡ Some j) ↔ IsSettled past a j)
        (placed : IsPlacing r.actors width weight (λ j. get_or u j 0 ≤ t) (λ a. get_or homes a None) queue
        (length queue) cells homes') where
      pub placed_each : (j : ℕ) (f : Firing) → get_or cells j None ≡ Some f →
          IsNextReady r n ended started f × (j < width) × (until j ≤ t)
      placed_each j f e =
          let x = placed.only j f e in
          let place = ((placed.each x.0 x.1).stands j).0 (e ∙ ap Some (sym x.2)) in (
            subst (IsNextReady r n ended started) x.2 (q.each x.0 x.1),
            place.known,
            subst (λ y. y ≤ t) (u_is j) place.is_free.0,
          )

      pub placed_apart : (j m : ℕ) (f g : Firing) → get_or cells j None ≡ Some f → get_or cells m None ≡ Some g →
          f.actor ≡ g.actor → j ≡ m
      placed_apart j m f g e e' is =
          let x = placed.only j f e in
          let same : f ≡ g = same_ready f g (placed_each j f e).0 (placed_each m g e').0 is in
          let pl = placed.each x.0 x.1 in
          place_unique width (λ k. (get_or u k 0 ≤ t) × IsLeft queue cells x.0 k) (load r.actors weight pl.home)
          (pl.home (firing queue x.0).actor) j m
          ((pl.stands j).0 (e ∙ ap Some (sym x.2))) ((pl.stands m).0 (e' ∙ ap Some (sym same ∙ sym x.2)))

      idle_placed : (p : ℕ) → IsPlaced r.actors width weight (λ j. get_or u j 0 ≤ t) (λ a. get_or homes a None) queue
          cells p → IsPlaced r.actors width weight (λ j. IsBusy cost past t j → ⊥)
          (λ a. get_or homes a None) queue cells p
      idle_placed p pl = placed_idle r.actors width weight (λ j. get_or u j 0 ≤ t) (λ j. IsBusy cost past t j → ⊥)
          (λ a. get_or homes a None) queue cells p
          (λ k h. idle_to k (subst (λ y. y ≤ t) (u_is k) h)) (λ k h. subst (λ y. y ≤ t) (sym (u_is k)) (idle_of k h)) pl

      pub homed_row : IsHomedRow r n cost level width past t cells
      homed_row = record {
        queue = queue;
        homes = λ a. get_or homes a None;
        ready = queue_at q;
        homes_are = homes_are;
        placed = subst (λ v. ArePlaced r.actors width v (λ j. IsBusy cost past t j → ⊥) (λ a. get_or homes a None) queue
            cells) weight_is
            (record { each = λ p l. idle_placed p (placed.each p l); only = placed.only });
      }

      -- the homes with this row
      pub homes_then : (x : List Timed) → ((a j : ℕ) →
          IsSettled x a j ↔ (IsSettled past a j ⊎ ((f : Firing) × (get_or cells j None ≡ Some f) × (f.actor ≡ a)))) →
          (a j : ℕ) → a < r.actors → (get_or homes' a None ≡ Some j) ↔ IsSettled x a j
      homes_then x grown a j l = (
        λ e. to ((placed.homes_are a j l).0 e),
        λ h. (placed.homes_are a j l).1 (back ((grown a j).0 h)),
      )
        where
          to : (get_or homes a None ≡ Some j) ⊎ ((m : ℕ) × (m < length queue)
              × (get_or cells j None ≡ Some (firing queue m)) × ((firing queue m).actor ≡ a)) → IsSettled x a j
          to (inl e) = (grown a j).1 (inl ((homes_are a j l).0 e))
          to (inr (m, h, e, is)) = (grown a j).1 (inr (firing queue m, e, is))

          back : IsSettled past a j ⊎ ((f : Firing) × (get_or cells j None ≡ Some f) × (f.actor ≡ a)) →
              (get_or homes a None ≡ Some j) ⊎ ((m : ℕ) × (m < length queue)
              × (get_or cells j None ≡ Some (firing queue m)) × ((firing queue m).actor ≡ a))
          back (inl h) = inl ((homes_are a j l).1 h)
          back (inr (f, e, is)) = let y = placed.only j f e in
              inr (y.0, y.1, e ∙ ap Some (sym y.2), ap (λ (f : Firing). f.actor) y.2 ∙ is)

    -- after the row no ready firing can start
    module _ {cells : List (Option Firing)} {started' whose' until' : ℕ → ℕ} (u : List ℕ)
        (dear : (a : ℕ) → a < r.actors → 1 ≤ cost a)
        (each : (j : ℕ) (f : Firing) → get_or cells j None ≡ Some f →
        IsNextReady r n ended started f × (j < width) × (until j ≤ t))
        (b : AreStarted cost t (length cells) cells started whose until started' whose' until')
        (u_is : (j : ℕ) → get_or u j 0 ≡ until j) where
      -- an actor of the row has a firing that has not ended
      not_in : (f : Firing) → IsNextReady r n ended started' f → (j : ℕ) (g : Firing) → get_or cells j None ≡ Some g →
          g.actor ≡ f.actor → ⊥
      not_in f h j g e is =
          let begun : started' f.actor ≡ g.number + 1 =
          ap started' (sym is) ∙ (b.each j g (column_known cells j g e) e).0 in
          let k = (each j g e).0 in
          let next : g.number ≡ started f.actor = k.next ∙ ap started is in
          let through : ended f.actor ≡ started f.actor = ap ended (sym is) ∙ (k.through ∙ ap started is) in
          omega (arith, h.through)

      -- so it was ready before, and stands in the queue
      was_ready : (f : Firing) → IsNextReady r n ended started' f → Stands queue f
      was_ready f h =
          let same : started' f.actor ≡ started f.actor = b.others f.actor (λ j g l e. not_in f h j g e) in
          q.all f (record {
            known = h.known;
            within = h.within;
            next = h.next ∙ same;
            through = h.through ∙ same;
            on = h.on;
          })

      -- a column that is through after the row was so before, and nothing stands in it
      open_after : (j : ℕ) → until' j ≤ t → IsOpen u t cells j
      open_after j l = go (get_or cells j None) (λ _. get_or cells j None)
        where
          go : (o : Option Firing) → get_or cells j None ≡ o → IsOpen u t cells j
          go (Some g) e =
              let x = (b.each j g (column_known cells j g e) e).2 in
              let c = dear g.actor (each j g e).0.known in
              absurd (omega arith)
          go None e =
              let same : until' j ≡ until j = (b.columns j (λ f k is. none-some f (sym e ∙ is))).1 in
              let low : get_or u j 0 ≤ t = omega (arith, u_is j) in
              (low, e)

      taken : (j : ℕ) → (IsOpen u t cells j → ⊥) → t < until' j
      taken j closed = go (cases_lt t (until' j))
        where
          go : (t < until' j) ⊎ (until' j ≤ t) → t < until' j
          go (inl l) = l
          go (inr l) = absurd (closed (open_after j l))

      pub free_stuck : {next : ℕ} → IsFilling u t width queue next cells → (f : Firing) →
          IsNextReady r n ended started' f → (j : ℕ) → j < width → t < until' j
      free_stuck fill f h j l = taken j closed
        where
          stands : Stands queue f
          stands = was_ready f h

          closed : IsOpen u t cells j → ⊥
          closed (low, none) = at (fill.idle.all j l low)
            where
              at : Contains fill.columns j → ⊥
              at (p, k, is) = go (cases_lt p (length queue))
                where
                  column : get_or fill.columns p 0 ≡ j
                  column = get_or_default fill.columns p 0 j k ∙ is

                  go : (p < length queue) ⊎ (length queue ≤ p) → ⊥
                  go (inl within) = none-some (firing queue p)
                      (sym none ∙ (sym (ap (λ c. get_or cells c None) column)
                      ∙ (fill.filled.filled p k ∙ slice_get-get_or queue p no_firing within)))
                  go (inr past') =
                      let m : stands.0 < length fill.columns = omega (arith, stands.1) in
                      not_in f h (get_or fill.columns stands.0 0) f
                      (fill.filled.filled stands.0 m ∙ (slice_get-get_or queue stands.0 no_firing stands.1
                      ∙ ap Some stands.2)) (λ _. f.actor)

      pub homed_stuck : (homes : List (Option ℕ)) → length u ≡ width → AreWaiting u t queue (length queue) cells homes →
          IsStuck r n ended started' until' (λ a. get_or homes a None) width t true
      homed_stuck homes wide waiting f h = go (waiting stands.0 stands.1)
        where
          stands : Stands queue f
          stands = was_ready f h

          its : (firing queue stands.0).actor ≡ f.actor
          its = ap (λ (f : Firing). f.actor) stands.2

          go : ((j : ℕ) × (get_or cells j None ≡ Some (firing queue stands.0))) ⊎
              (((k : ℕ) × (get_or homes (firing queue stands.0).actor None ≡ Some k) × (k < length u)
              × (IsOpen u t cells k → ⊥)) ⊎
              ((j : ℕ) → j < length u → IsOpen u t cells j → ⊥)) →
              ((k : ℕ) × IsTrue true × (get_or homes f.actor None ≡ Some k) × (t < until' k))
              ⊎ ((j : ℕ) → j < width → t < until' j)
          go (inl (j, e)) = absurd (not_in f h j f (e ∙ ap Some stands.2) (λ _. f.actor))
          go (inr (inl (k, home, l, closed))) = inl (
            k,
            refl,
            ap (λ a. get_or homes a None) (sym its) ∙ home,
            taken k closed,
          )
          go (inr (inr all)) = inr (λ j l. taken j (all j (omega (arith, wide))))
