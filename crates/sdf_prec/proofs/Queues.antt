-- The queue of ready firings, as firings come and go.
use Rattle.std.proofs.Common.{◌≡◌, ℕ, zero, suc, ◌+◌, ◌-◌, ◌≤◌, ◌<◌, ◌⊎◌, ◌↔◌, List, [], ◌∷◌, length, get_or, cond, sym}
use Rattle.std.proofs.Common.{ap}
use Rattle.std.proofs.Common.{◌∙◌, subst, inl, inr, arith, refl, Bool, true, false}
use Rattle.std.specs.Prelude.{filter}
use Rattle.std.specs.List.{insert, AllPairs}
use Rattle.std.proofs.lemmas.List.{get_or_default}
use Rattle.std.proofs.lemmas.List.Edits.{length-insert, get_or-insert_below, get_or-insert_at, get_or-insert_above}
use Rattle.std.proofs.lemmas.List.Kept.{AllPairs-filter}
use Rattle.std.proofs.lemmas.Bool.{cases_lt, cases_eq, cases_Bool}
use Rattle.sdf_prec.specs.declared.firing.Firing.{Firing}
use Rattle.sdf_prec.specs.Tables.{firing, no_firing, Stands}
use Rattle.sdf_prec.specs.Trying.{IsTriedBefore, IsQueue}
use Rattle.sdf_prec.specs.Queued.{AreInTurn, IsQueueOf}

module _ (p : Firing → Bool) where
  put : (fs : List Firing) (g f : Firing) → Stands fs f → Stands (g ∷ fs) f
  put fs g f (i, l, e) = (suc i, omega arith, e)

  stays : (fs : List Firing) (f : Firing) → Stands fs f → p f ≡ true → Stands (filter p fs) f
  stays [] f (i, l, e) on = absurd (omega arith)
  stays (g ∷ fs) f (zero, l, e) on =
      subst (λ b. Stands (cond b (g ∷ filter p fs) (filter p fs)) f) (sym (ap p e ∙ on)) (0, omega arith, e)
  stays (g ∷ fs) f (suc i, l, e) on = go (cases_Bool (p g)) (stays fs f (i, omega arith, e) on)
    where
      go : (p g ≡ true) ⊎ (p g ≡ false) → Stands (filter p fs) f → Stands (filter p (g ∷ fs)) f
      go (inl y) h = subst (λ b. Stands (cond b (g ∷ filter p fs) (filter p fs)) f) (sym y)
          (put (filter p fs) g f h)
      go (inr n) h = subst (λ b. Stands (cond b (g ∷ filter p fs) (filter p fs)) f) (sym n) h

  left : (fs : List Firing) (f : Firing) → Stands (filter p fs) f → Stands fs f × (p f ≡ true)
  left [] f (i, l, e) = absurd (omega arith)
  left (g ∷ fs) f h = go (cases_Bool (p g)) (left fs f)
    where
      back : Stands fs f × (p f ≡ true) → Stands (g ∷ fs) f × (p f ≡ true)
      back (s, on) = (put fs g f s, on)

      first : p g ≡ true → (Stands (filter p fs) f → Stands fs f × (p f ≡ true)) → Stands (g ∷ filter p fs) f →
          Stands (g ∷ fs) f × (p f ≡ true)
      first y rest (zero, l, e) = ((0, omega arith, e), ap p (sym e) ∙ y)
      first y rest (suc i, l, e) = back (rest (i, omega arith, e))

      go : (p g ≡ true) ⊎ (p g ≡ false) → (Stands (filter p fs) f → Stands fs f × (p f ≡ true)) →
          Stands (g ∷ fs) f × (p f ≡ true)
      go (inl y) rest = first y rest (subst (λ b. Stands (cond b (g ∷ filter p fs) (filter p fs)) f) y h)
      go (inr n) rest = back (rest (subst (λ b. Stands (cond b (g ∷ filter p fs) (filter p fs)) f) n h))

module _ (level : Firing → ℕ) where
  tried_on : (f g h : Firing) → IsTriedBefore level f g → IsTriedBefore level g h → IsTriedBefore level f h
  tried_on f g h (inl a) (inl b) = inl (omega arith)
  tried_on f g h (inl a) (inr b) = inl (omega (arith, b.0))
  tried_on f g h (inr a) (inl b) = inl (omega (arith, a.0))
  tried_on f g h (inr a) (inr b) = inr (a.0 ∙ b.0, later a.1 b.1)
    where
      later : (f.actor < g.actor) ⊎ ((f.actor ≡ g.actor) × (f.number < g.number)) →
          (g.actor < h.actor) ⊎ ((g.actor ≡ h.actor) × (g.number < h.number)) →
          (f.actor < h.actor) ⊎ ((f.actor ≡ h.actor) × (f.number < h.number))
      later (inl a) (inl b) = inl (omega arith)
      later (inl a) (inr b) = inl (omega (arith, b.0))
      later (inr a) (inl b) = inl (omega (arith, a.0))
      later (inr a) (inr b) = inr (a.0 ∙ b.0, omega (arith, a.1, b.1))

  -- a firing comes to stand between those that are tried before it and the others
  module _ (q : List Firing) (x : Firing) (k : ℕ) (turn : AreInTurn level q) (fits : k ≤ length q)
      (before : (p : ℕ) → p < k → IsTriedBefore level (firing q p) x)
      (after : k < length q → IsTriedBefore level x (firing q k)) where
    longer : length (insert q k x) ≡ length q + 1
    longer = length-insert q k x fits

    -- what stands at a place of the longer list: an earlier one, x, or a later one
    abbrev At : ℕ → Type 0
    At m = ((m < k) × (firing (insert q k x) m ≡ firing q m)) ⊎
        (((m ≡ k) × (firing (insert q k x) m ≡ x)) ⊎
        ((p : ℕ) × (m ≡ p + 1) × (k ≤ p) × (p < length q) × (firing (insert q k x) m ≡ firing q p)))

    at : (m : ℕ) → m < length q + 1 → At m
    at m l = go (cases_lt m k) (cases_eq m k)
      where
        go : (m < k) ⊎ (k ≤ m) → (m ≡ k) ⊎ (m ≡ k → ⊥) → At m
        go (inl low) _ = inl (low, get_or-insert_below q k x no_firing m low fits)
        go (inr high) (inl e) = inr (inl (
          e,
          ap (λ m. firing (insert q k x) m) e
              ∙ get_or-insert_at q k x no_firing fits,
        ))
        go (inr high) (inr ne) =
            let back : m ≡ m - 1 + 1 = omega arith in
            inr (inr (
              m - 1,
              back,
              omega arith,
              omega arith,
              ap (λ m. firing (insert q k x) m) back ∙ get_or-insert_above q k x no_firing (m - 1)
                  (omega arith) fits,
            ))

    behind : (p : ℕ) → k ≤ p → p < length q → IsTriedBefore level x (firing q p)
    behind p h l = go (cases_eq p k)
      where
        go : (p ≡ k) ⊎ (p ≡ k → ⊥) → IsTriedBefore level x (firing q p)
        go (inl e) = subst (λ p. IsTriedBefore level x (firing q p)) (sym e) (after (omega arith))
        go (inr ne) = tried_on x (firing q k) (firing q p) (after (omega arith)) (turn k p (omega arith) l)

    sorted : (p m : ℕ) → p < m → At p → At m → IsTriedBefore level (firing (insert q k x) p) (firing (insert q k x) m)
    sorted p m h (inl (a, e)) (inl (b, g)) = subst (λ f. IsTriedBefore level f (firing (insert q k x) m)) (sym e)
        (subst (IsTriedBefore level (firing q p)) (sym g) (turn p m h (omega arith)))
    sorted p m h (inl (a, e)) (inr (inl (b, g))) =
        subst (λ f. IsTriedBefore level f (firing (insert q k x) m)) (sym e)
        (subst (IsTriedBefore level (firing q p)) (sym g) (before p a))
    sorted p m h (inl (a, e)) (inr (inr (n, b, c, d, g))) =
        subst (λ f. IsTriedBefore level f (firing (insert q k x) m)) (sym e)
        (subst (IsTriedBefore level (firing q p)) (sym g) (turn p n (omega arith) d))
    sorted p m h (inr (inl (a, e))) (inl (b, g)) = absurd (omega arith)
    sorted p m h (inr (inl (a, e))) (inr (inl (b, g))) = absurd (omega arith)
    sorted p m h (inr (inl (a, e))) (inr (inr (n, b, c, d, g))) =
        subst (λ f. IsTriedBefore level f (firing (insert q k x) m)) (sym e)
        (subst (IsTriedBefore level x) (sym g) (behind n c d))
    sorted p m h (inr (inr (n, b, c, d, g))) (inl (a, e)) = absurd (omega arith)
    sorted p m h (inr (inr (n, b, c, d, g))) (inr (inl (a, e))) = absurd (omega arith)
    sorted p m h (inr (inr (n, b, c, d, g))) (inr (inr (o, u, v, w, e))) =
        subst (λ f. IsTriedBefore level f (firing (insert q k x) m)) (sym g)
        (subst (IsTriedBefore level (firing q n)) (sym e) (turn n o (omega arith) w))

    pub insert_sorted : AreInTurn level (insert q k x)
    insert_sorted p m h l = sorted p m h (at p (omega (arith, longer))) (at m (omega (arith, longer)))

    kept : (f : Firing) → Stands q f → Stands (insert q k x) f
    kept f (p, l, e) = go (cases_lt p k)
      where
        go : (p < k) ⊎ (k ≤ p) → Stands (insert q k x) f
        go (inl low) = (p, omega (arith, longer), get_or-insert_below q k x no_firing p low fits ∙ e)
        go (inr high) = (p + 1, omega (arith, longer), get_or-insert_above q k x no_firing p high fits ∙ e)

    came : (f : Firing) (p : ℕ) → firing (insert q k x) p ≡ f → At p → Stands q f ⊎ (f ≡ x)
    came f p e (inl (a, g)) = inl (p, omega arith, sym g ∙ e)
    came f p e (inr (inl (a, g))) = inr (sym e ∙ g)
    came f p e (inr (inr (n, b, c, d, g))) = inl (n, d, sym g ∙ e)

    pub insert_stands : (f : Firing) → Stands (insert q k x) f ↔ (Stands q f ⊎ (f ≡ x))
    insert_stands f = (λ s. came f s.0 s.2 (at s.0 (omega (arith, longer, s.1))), go)
      where
        go : Stands q f ⊎ (f ≡ x) → Stands (insert q k x) f
        go (inl s) = kept f s
        go (inr e) = (k, omega (arith, longer), get_or-insert_at q k x no_firing fits ∙ sym e)

  module _ (ready : Firing → Type 0) where
    -- actors of one kind are of another, or are this one
    module _ (next : ℕ → ℕ) (own : (f : Firing) → ready f → f.number ≡ next f.actor) (kind more : ℕ → Type 0)
        (i : ℕ) (known : (a : ℕ) → more a → kind a ⊎ (a ≡ i)) where
      its_next : (f : Firing) → f.actor ≡ i → ready f → f ≡ record { actor = i; number = next i }
      its_next f e h =
          let number : f.number ≡ next i = own f h ∙ ap next e in
          (λ k. record { actor = e k; number = number k })

      -- this one has no ready firing
      pub queue_skip : (q : List Firing) → (ready (record { actor = i; number = next i }) → ⊥) →
          IsQueueOf level ready kind q → IsQueueOf level ready more q
      queue_skip q none s = record {
        each = s.each;
        all = λ f h k. go f h (known f.actor k);
        sorted = s.sorted;
      }
        where
          go : (f : Firing) → ready f → kind f.actor ⊎ (f.actor ≡ i) → Stands q f
          go f h (inl k) = s.all f h k
          go f h (inr e) = absurd (none (subst ready (its_next f e h) h))

      -- or it has one, which comes to stand in the queue
      pub queue_more : (q longer : List Firing) → ready (record { actor = i; number = next i }) →
          IsQueueOf level ready kind q → AreInTurn level longer →
          ((f : Firing) → Stands longer f ↔ (Stands q f ⊎ (f ≡ record { actor = i; number = next i }))) →
          IsQueueOf level ready more longer
      queue_more q longer on s turn stands = record {
        each = λ f h. each f ((stands f).0 h);
        all = λ f h k. go f h (known f.actor k);
        sorted = turn;
      }
        where
          each : (f : Firing) → Stands q f ⊎ (f ≡ record { actor = i; number = next i }) → ready f
          each f (inl h) = s.each f h
          each f (inr e) = subst ready (sym e) on

          go : (f : Firing) → ready f → kind f.actor ⊎ (f.actor ≡ i) → Stands longer f
          go f h (inl k) = (stands f).1 (inl (s.all f h k))
          go f h (inr e) = (stands f).1 (inr (its_next f e h))

    -- a queue with the ready firings of all actors
    pub queue_all : (kind : ℕ → Type 0) (q : List Firing) → ((f : Firing) → ready f → kind f.actor) →
        IsQueueOf level ready kind q → IsQueue level ready q
    queue_all kind q known s = record {
      each = λ p l. s.each (firing q p) (p, l, refl);
      all = λ f h. s.all f h (known f h);
      sorted = s.sorted;
    }

    module _ (then : Firing → Type 0) (q : List Firing) (s : IsQueue level ready q) where
      -- more firings are ready then, but of some actors no other ones
      pub queue_later : (kind : ℕ → Type 0) → ((f : Firing) → ready f → then f) →
          ((f : Firing) → then f → kind f.actor → ready f) → IsQueueOf level then kind q
      queue_later kind up down = record {
        each = λ f h. subst then h.2 (up (firing q h.0) (s.each h.0 h.1));
        all = λ f h k. s.all f (down f h k);
        sorted = s.sorted;
      }

      -- those are ready then that pass a test
      pub queue_left : (p : Firing → Bool) → ((f : Firing) → then f → ready f × (p f ≡ true)) →
          ((f : Firing) → ready f → p f ≡ true → then f) → IsQueue level then (filter p q)
      queue_left p down up = record {
        each = λ m l. each (firing (filter p q) m) (left p q (firing (filter p q) m) (m, l, refl));
        all = λ f h. let d = down f h in stays p q f (s.all f d.0) d.1;
        sorted = λ i m h l. turn i m no_firing h l;
      }
        where
          each : (f : Firing) → Stands q f × (p f ≡ true) → then f
          each f h = up f (subst ready h.0.2 (s.each h.0.0 h.0.1)) h.1

          pairs : AllPairs (IsTriedBefore level) q
          pairs i m d h l =
              let a : firing q i ≡ get_or q i d = get_or_default q i no_firing d (omega arith) in
              let b : firing q m ≡ get_or q m d = get_or_default q m no_firing d l in
              subst (λ f. IsTriedBefore level f (get_or q m d)) a
              (subst (IsTriedBefore level (firing q i)) b (s.sorted i m h l))

          turn : AllPairs (IsTriedBefore level) (filter p q)
          turn = AllPairs-filter (IsTriedBefore level) p q pairs
