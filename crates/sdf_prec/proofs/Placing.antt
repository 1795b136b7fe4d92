-- One firing a row makes a valid table of an admissible sequence.
use Rattle.std.proofs.Common.{◌≡◌, ℕ, zero, suc, ◌+◌, ◌≤◌, ◌<◌, List, [], ◌∷◌, ◌++◌, length, get_or, set, take}
use Rattle.std.proofs.Common.{replicate, sym, ap, ◌∙◌, subst, inl, inr, ◌⊎◌, arith, add-one, refl, Option, Some, None}
use Rattle.std.proofs.lemmas.List.{take_all, take-take, length-append, length-set, length-replicate, length-take-le}
use Rattle.std.proofs.lemmas.List.{get_or-take, get_or_append_left}
use Rattle.std.proofs.lemmas.Bool.{cases_lt, cases_eq, cases_order}
use Rattle.sdf_graph.specs.Rates.{Rates, IsSound}
use Rattle.sdf_graph.specs.Sequences.{times, IsPass}
use Rattle.sdf_graph.proofs.Theorems.{fronts_count_within, last_counts_more, others_count_same}
use Rattle.sdf_prec.specs.declared.firing.Firing.{Firing}
use Rattle.sdf_prec.specs.Precedence.{WaitsFor}
use Rattle.sdf_prec.specs.Tables.{firing, firings, no_firing, row, order, Stands, IsOfBlock, IsValid}
use Rattle.sdf_prec.specs.ByHomes.{HasHome, AreByHomes, firing_at}
use Rattle.sdf_prec.proofs.Next.{place_of}
use Rattle.sdf_prec.proofs.Keeping.{firings_empty}
use Rattle.sdf_prec.proofs.Marks.{last_is, stands_push}
use Rattle.sdf_prec.proofs.RowMarks.{row_order}
use Rattle.sdf_prec.proofs.Standings.{some_is}

firings_set : (m j : ℕ) (f : Firing) → j < m → firings (set (replicate m None) j (Some f)) ≡ f ∷ []
firings_set zero j f l = absurd (omega arith)
firings_set (suc m) zero f l = ap (λ fs. f ∷ fs) (firings_empty m)
firings_set (suc m) (suc j) f l = firings_set m j f (omega arith)

module _ (r : Rates) (n : ℕ → ℕ) (w : List ℕ) (s : IsSound r) (pass : IsPass r n w)
    (homes : List (Option ℕ)) (m : ℕ)
    (homed : (a : ℕ) → a < r.actors → HasHome homes m a) (rows : List (List (Option Firing)))
    (by : AreByHomes homes m w rows) where
  row_firings : (p : ℕ) → p < length w → firings (row rows p) ≡ firing_at w p ∷ []
  row_firings p l = let home = homed (get_or w p 0) (pass.0 p l).0 in
      ap firings (by.each p home.0 l home.1) ∙ firings_set m home.0 (firing_at w p) home.2

  pub rows_wide : (p : ℕ) → p < length rows → length (row rows p) ≡ m
  rows_wide p l =
      let k : p < length w = omega (arith, by.all) in
      let home = homed (get_or w p 0) (pass.0 p k).0 in
      ap length (by.each p home.0 k home.1) ∙ (length-set (replicate m None) home.0 (Some (firing_at w p))
      ∙ length-replicate m None)

  pub rows_some : (p : ℕ) → p < length rows → 0 < length (firings (row rows p))
  rows_some p l = let k : p < length w = omega (arith, by.all) in omega (arith, ap length (row_firings p k))

  -- the first i rows hold the first i firings
  pub record Begins (i : ℕ) : Type 0 where
    pub long : length (order (take i rows)) ≡ i
    pub are : (p : ℕ) → p < i → firing (order (take i rows)) p ≡ firing_at w p

  begins : (i : ℕ) → i ≤ length w → Begins i
  begins zero h = record { long = refl; are = λ p l. absurd (omega arith) }
  begins (suc i) h = rw add-one at (more (begins i (omega arith)))
    where
      parts : order (take (i + 1) rows) ≡ order (take i rows) ++ firing_at w i ∷ []
      parts = row_order rows i (omega (arith, by.all))
          ∙ ap (λ fs. order (take i rows) ++ fs) (row_firings i (omega arith))

      more : Begins i → Begins (i + 1)
      more b = record {
        long = omega (arith, ap length parts, length-append (order (take i rows)) (firing_at w i ∷ []), b.long);
        are = λ p l. ap (λ fs. firing fs p) parts ∙ one p l (cases_lt p i);
      }
        where
          one : (p : ℕ) → p < i + 1 → (p < i) ⊎ (i ≤ p) →
              firing (order (take i rows) ++ firing_at w i ∷ []) p ≡ firing_at w p
          one p l (inl low) = get_or_append_left (order (take i rows)) (firing_at w i ∷ []) no_firing p
              (omega (arith, b.long)) ∙ b.are p low
          one p l (inr high) =
              let is : length (order (take i rows)) ≡ p = omega (arith, b.long) in
              let same : i ≡ p = omega arith in
              ap (firing (order (take i rows) ++ firing_at w i ∷ [])) (sym is)
              ∙ (last_is (order (take i rows)) (firing_at w i) ∙ ap (firing_at w) same)

  whole : order (take (length w) rows) ≡ order rows
  whole = ap order (take_all (length w) rows (omega (arith, by.all)))

  long : length (order rows) ≡ length w
  long = ap length (sym whole) ∙ (begins (length w) (omega arith)).long

  are : (p : ℕ) → p < length w → firing (order rows) p ≡ firing_at w p
  are p l = ap (λ fs. firing fs p) (sym whole) ∙ (begins (length w) (omega arith)).are p l

  -- a firing of the first i stands in the first i rows
  stands_before : (i : ℕ) → i ≤ length w → (g : Firing) → g.number < times (take i w) g.actor →
      Stands (order (take i rows)) g
  stands_before i h g l =
      let at = place_of w g.actor g.number i h l in
      let b = begins i h in
      let number : times (take at.0 w) (get_or w at.0 0) ≡ g.number = ap (times (take at.0 w)) at.2 ∙ at.3 in
      (at.0, omega (arith, b.long, at.1), b.are at.0 at.1 ∙ (λ k. record { actor = at.2 k; number = number k }))

  rises : (p q a : ℕ) → p < q → q ≤ length w → get_or w p 0 ≡ a → times (take p w) a < times (take q w) a
  rises p q a l h e =
      let more = last_counts_more w p a (omega arith) e in
      let within : times (take (p + 1) (take q w)) a ≤ times (take q w) a = fronts_count_within (take q w) (p + 1) a in
      let same : times (take (p + 1) (take q w)) a ≡ times (take (p + 1) w) a =
      ap (λ v. times v a) (take-take (p + 1) q w (omega arith)) in
      omega arith

  pub rows_valid : IsValid r n rows
  rows_valid = record { known = known; all = all; once = once; earlier = early }
    where
      known : (p : ℕ) → p < length (order rows) → IsOfBlock r n (firing (order rows) p)
      known p h =
          let l : p < length w = omega (arith, long) in
          let a : ℕ = get_or w p 0 in
          let more = last_counts_more w p a l (λ _. get_or w p 0) in
          let within = fronts_count_within w (p + 1) a in
          let total = pass.1 a (pass.0 p l).0 in
          subst (IsOfBlock r n) (sym (are p l)) ((pass.0 p l).0, omega arith)

      all : (f : Firing) → IsOfBlock r n f → Stands (order rows) f
      all f (k, low) =
          let total = pass.1 f.actor k in
          let same : times (take (length w) w) f.actor ≡ times w f.actor =
          ap (λ v. times v f.actor) (take_all (length w) w (omega arith)) in
          subst (λ fs. Stands fs f) whole (stands_before (length w) (omega arith) f (omega arith))

      apart : (p q : ℕ) → p < q → q < length w → firing_at w p ≡ firing_at w q → ⊥
      apart p q l h e =
          let actor : get_or w p 0 ≡ get_or w q 0 = ap (λ (f : Firing). f.actor) e in
          let number : times (take p w) (get_or w p 0) ≡ times (take q w) (get_or w q 0) =
          ap (λ (f : Firing). f.number) e in
          let more = rises p q (get_or w q 0) l (omega arith) actor in
          let same : times (take p w) (get_or w p 0) ≡ times (take p w) (get_or w q 0) = ap (times (take p w)) actor in
          omega arith

      once : (p q : ℕ) → p < length (order rows) → q < length (order rows) →
          firing (order rows) p ≡ firing (order rows) q → p ≡ q
      once p q l h e = go (cases_order p q)
        where
          same : firing_at w p ≡ firing_at w q
          same = sym (are p (omega (arith, long))) ∙ (e ∙ are q (omega (arith, long)))

          go : (p ≡ q) ⊎ ((p < q) ⊎ (q < p)) → p ≡ q
          go (inl is) = is
          go (inr (inl low)) = absurd (apart p q low (omega (arith, long)) same)
          go (inr (inr low)) = absurd (apart q p low (omega (arith, long)) (sym same))

      early : (i : ℕ) → i < length rows → (f g : Firing) → Stands (firings (row rows i)) f → WaitsFor r f g →
          Stands (order (take i rows)) g
      early i h f g st waits = stands_before i (omega (arith, by.all)) g (low waits)
        where
          l : i < length w
          l = omega (arith, by.all)

          is : firing_at w i ≡ f
          is = go (stands_push [] (firing_at w i) f (subst (λ fs. Stands fs f) (row_firings i l) st))
            where
              go : Stands [] f ⊎ (firing_at w i ≡ f) → firing_at w i ≡ f
              go (inl (p, m, e)) = absurd (omega arith)
              go (inr e) = e

          actor : get_or w i 0 ≡ f.actor
          actor = ap (λ (h : Firing). h.actor) is

          number : times (take i w) f.actor ≡ f.number
          number = ap (times (take i w)) (sym actor) ∙ ap (λ (h : Firing). h.number) is

          low : WaitsFor r f g → g.number < times (take i w) g.actor
          low (inl (same, e)) = let there : times (take i w) g.actor ≡ times (take i w) f.actor =
              ap (times (take i w)) same in omega (arith, number)
          low (inr (c, k, into, from, lacks)) = subst (λ a. g.number < times (take i w) a) from
              (go (cases_lt g.number (times (take i w) (r.source c))))
            where
              ready : r.consumed c (times (take i w) (r.target c) + 1) ≤
                  r.initial c + r.produced c (times (take i w) (r.source c))
              ready = (pass.0 i l).1 c k (into ∙ sym actor)

              its : r.consumed c (times (take i w) (r.target c) + 1) ≡ r.consumed c (f.number + 1)
              its = ap (λ t. r.consumed c (t + 1)) (ap (times (take i w)) into ∙ number)

              go : (g.number < times (take i w) (r.source c)) ⊎ (times (take i w) (r.source c) ≤ g.number) →
                  g.number < times (take i w) (r.source c)
              go (inl is) = is
              go (inr high) = let more = s.produced_rises c (times (take i w) (r.source c)) g.number high in
                  absurd (omega (arith, its, ready, lacks))

firing_same : (w : List ℕ) (i p : ℕ) → p < i → firing_at (take i w) p ≡ firing_at w p
firing_same w i p l k = record {
  actor = get_or-take i w p 0 l k;
  number = times (take-take p i w (omega arith) k) (get_or-take i w p 0 l k);
}

last_row : (rows : List (List (Option Firing))) (new : List (Option Firing)) →
    row (rows ++ new ∷ []) (length rows) ≡ new
last_row [] new = refl
last_row (x ∷ rows) new = last_row rows new

-- no actor fires more often than there are firings
pub times_small : (w : List ℕ) (i a : ℕ) → i ≤ length w → times (take i w) a ≤ i
times_small w zero a h = omega arith
times_small w (suc i) a h = rw add-one at (go (times_small w i a (omega arith)) (cases_eq (get_or w i 0) a))
  where
    go : times (take i w) a ≤ i → (get_or w i 0 ≡ a) ⊎ (get_or w i 0 ≡ a → ⊥) → times (take (i + 1) w) a ≤ i + 1
    go low (inl e) = omega (arith, last_counts_more w i a h e)
    go low (inr ne) = omega (arith, others_count_same w i a h ne)

-- one row more
pub by_homes_more : (homes : List (Option ℕ)) (m : ℕ) (w : List ℕ) (i home : ℕ) (rows : List (List (Option Firing)))
    (new : List (Option Firing)) → i < length w →
    AreByHomes homes m (take i w) rows → get_or homes (get_or w i 0) None ≡ Some home → home < m →
    new ≡ set (replicate m None) home (Some (firing_at w i)) →
    AreByHomes homes m (take (i + 1) w) (rows ++ new ∷ [])
by_homes_more homes m w i home rows new l by at inside is = record {
  all = omega (
    arith,
    length-append rows (new ∷ []),
    by.all,
    length-take-le i w (omega arith),
    length-take-le (i + 1) w (omega arith),
  );
  homed = λ p h. its_home p (omega (arith, h, length-take-le (i + 1) w (omega arith))) (cases_lt p i);
  each = λ p j h e. one p j (omega (arith, h, length-take-le (i + 1) w (omega arith))) e (cases_lt p i);
}
  where
    its_home : (p : ℕ) → p < i + 1 → (p < i) ⊎ (i ≤ p) → HasHome homes m (get_or (take (i + 1) w) p 0)
    its_home p h (inl low) = subst (HasHome homes m) (get_or-take i w p 0 low ∙ sym (get_or-take (i + 1) w p 0 h))
        (by.homed p (omega (arith, length-take-le i w (omega arith))))
    its_home p h (inr high) =
        let this : i ≡ p = omega arith in
        subst (HasHome homes m) (ap (λ q. get_or w q 0) this ∙ sym (get_or-take (i + 1) w p 0 h)) (home, at, inside)

    count : length rows ≡ i
    count = by.all ∙ length-take-le i w (omega arith)

    one : (p j : ℕ) → p < i + 1 → get_or homes (get_or (take (i + 1) w) p 0) None ≡ Some j → (p < i) ⊎ (i ≤ p) →
        row (rows ++ new ∷ []) p ≡ set (replicate m None) j (Some (firing_at (take (i + 1) w) p))
    one p j h e (inl low) =
        let actor : get_or (take (i + 1) w) p 0 ≡ get_or (take i w) p 0 =
        get_or-take (i + 1) w p 0 h ∙ sym (get_or-take i w p 0 low) in
        let same : firing_at (take i w) p ≡ firing_at (take (i + 1) w) p =
        firing_same w i p low ∙ sym (firing_same w (i + 1) p h) in
        get_or_append_left rows (new ∷ []) [] p (omega (arith, count)) ∙
        (by.each p j (omega (arith, length-take-le i w (omega arith))) (ap (λ a. get_or homes a None) (sym actor) ∙ e) ∙
        ap (λ f. set (replicate m None) j (Some f)) same)
    one p j h e (inr high) =
        let this : i ≡ p = omega arith in
        let actor : get_or (take (i + 1) w) p 0 ≡ get_or w i 0 =
        get_or-take (i + 1) w p 0 h ∙ ap (λ q. get_or w q 0) (sym this) in
        let its : home ≡ j = some_is (sym at ∙ (ap (λ a. get_or homes a None) (sym actor) ∙ e)) in
        let same : firing_at w i ≡ firing_at (take (i + 1) w) p =
        ap (firing_at w) this ∙ sym (firing_same w (i + 1) p h) in
        let place : length rows ≡ p = count ∙ this in
        ap (λ q. row (rows ++ new ∷ []) q) (sym place)
        ∙ (last_row rows new ∙ (is ∙ (λ k. set (replicate m None) (its k) (Some (same k)))))
