-- One more firing of a queue is placed.
use Rattle.std.proofs.Common.{◌≡◌, ℕ, ◌+◌, ◌≤◌, ◌<◌, ◌⊎◌, ◌↔◌, List, length, get_or, set, sym, ap, ◌∙◌, subst, inl, inr}
use Rattle.std.proofs.Common.{arith, Option, Some, None}
use Rattle.std.proofs.lemmas.List.{get_or-set_same, get_or-set_other, length-set}
use Rattle.std.proofs.lemmas.Option.{none-some, same_Some}
use Rattle.std.proofs.lemmas.Bool.{cases_lt, cases_eq}
use Rattle.sdf_prec.specs.declared.firing.Firing.{Firing}
use Rattle.sdf_prec.specs.Tables.{firing}
use Rattle.sdf_prec.specs.Trying.{IsLeft, IsHomeFor, IsLeast, IsPlace, IsPlaced, load}
use Rattle.sdf_prec.specs.Placing.{IsOpen, IsNowhere, AreWaiting, IsPlacing}

pub place_alike : (width : ℕ) (free free' : ℕ → Type 0) (weights : ℕ → ℕ) (home : Option ℕ) (j : ℕ) →
    ((m : ℕ) → free m → free' m) → ((m : ℕ) → free' m → free m) →
    IsPlace width free weights home j → IsPlace width free' weights home j
place_alike width free free' weights home j to from p =
    record { known = p.known; is_free = to j p.is_free; chosen = go p.chosen }
  where
    go : (home ≡ Some j) ⊎ ((home ≡ None) × IsLeast width free weights j) →
        (home ≡ Some j) ⊎ ((home ≡ None) × IsLeast width free' weights j)
    go (inl e) = inl e
    go (inr (e, least)) = inr (e, λ m l f. least m l (from m f))

pub place_unique : (width : ℕ) (free : ℕ → Type 0) (weights : ℕ → ℕ) (home : Option ℕ) (j k : ℕ) →
    IsPlace width free weights home j → IsPlace width free weights home k → j ≡ k
place_unique width free weights home j k p q = go p.chosen q.chosen
  where
    even : (weights j < weights k) ⊎ ((weights j ≡ weights k) × (j ≤ k)) →
        (weights k < weights j) ⊎ ((weights k ≡ weights j) × (k ≤ j)) → j ≡ k
    even (inl a) (inl b) = absurd (omega arith)
    even (inl a) (inr b) = absurd (omega (arith, b.0))
    even (inr a) (inl b) = absurd (omega (arith, a.0))
    even (inr a) (inr b) = omega (arith, a.1, b.1)

    go : (home ≡ Some j) ⊎ ((home ≡ None) × IsLeast width free weights j) →
        (home ≡ Some k) ⊎ ((home ≡ None) × IsLeast width free weights k) → j ≡ k
    go (inl e) (inl g) = same_Some j k (sym e ∙ g)
    go (inl e) (inr (none, _)) = absurd (none-some j (sym none ∙ e))
    go (inr (none, _)) (inl g) = absurd (none-some k (sym none ∙ g))
    go (inr (_, a)) (inr (_, b)) = even (a k q.known q.is_free) (b j p.known p.is_free)

module _ (before : ℕ → Option ℕ) (queue : List Firing) (cells cells' : List (Option Firing)) (p : ℕ) where
  home_alike : ((m j : ℕ) → m < p → get_or cells j None ≡ Some (firing queue m) →
      get_or cells' j None ≡ Some (firing queue m)) →
      (a j : ℕ) → IsHomeFor before queue cells p a j → IsHomeFor before queue cells' p a j
  home_alike to a j (inl b) = inl b
  home_alike to a j (inr (m, l, e, is)) = inr (m, l, to m j l e, is)

  left_alike : ((m j : ℕ) → m < p → get_or cells' j None ≡ Some (firing queue m) →
      get_or cells j None ≡ Some (firing queue m)) →
      (j : ℕ) → IsLeft queue cells p j → IsLeft queue cells' p j
  left_alike back j left m l e = left m l (back m j l e)

-- a firing stays placed where the firings tried up to it stand as they did
pub placed_alike : (actors width : ℕ) (weight : ℕ → ℕ) (idle : ℕ → Type 0) (before : ℕ → Option ℕ) (queue : List Firing)
    (cells cells' : List (Option Firing)) (p : ℕ) →
    ((m j : ℕ) → m ≤ p → get_or cells j None ≡ Some (firing queue m) → get_or cells' j None ≡ Some (firing queue m)) →
    ((m j : ℕ) → m ≤ p → get_or cells' j None ≡ Some (firing queue m) → get_or cells j None ≡ Some (firing queue m)) →
    IsPlaced actors width weight idle before queue cells p → IsPlaced actors width weight idle before queue cells' p
placed_alike actors width weight idle before queue cells cells' p to back placed = record {
  home = placed.home;
  home_is = λ a j l. (
    λ e. home_alike before queue cells cells' p (λ m k h. to m k (omega arith)) a j ((placed.home_is a j l).0 e),
    λ h. (placed.home_is a j l).1 (home_alike before queue cells' cells p (λ m k h. back m k (omega arith)) a j h),
  );
  stands = λ j. (
    λ e. place_alike width (λ m. idle m × IsLeft queue cells p m) (λ m. idle m × IsLeft queue cells' p m)
        (load actors weight placed.home) (placed.home (firing queue p).actor) j
        (λ m f. (f.0, left_alike before queue cells cells' p (λ x k h. back x k (omega arith)) m f.1))
        (λ m f. (f.0, left_alike before queue cells' cells p (λ x k h. to x k (omega arith)) m f.1))
        ((placed.stands j).0 (back p j (omega arith) e)),
    λ pl. to p j (omega arith) ((placed.stands j).1
        (place_alike width (λ m. idle m × IsLeft queue cells' p m) (λ m. idle m × IsLeft queue cells p m)
        (load actors weight placed.home) (placed.home (firing queue p).actor) j
        (λ m f. (f.0, left_alike before queue cells' cells p (λ x k h. to x k (omega arith)) m f.1))
        (λ m f. (f.0, left_alike before queue cells cells' p (λ x k h. back x k (omega arith)) m f.1)) pl)),
  );
}

-- and where the same columns are idle, said in other words
pub placed_idle : (actors width : ℕ) (weight : ℕ → ℕ) (idle idle' : ℕ → Type 0) (before : ℕ → Option ℕ)
    (queue : List Firing) (cells : List (Option Firing)) (p : ℕ) →
    ((j : ℕ) → idle j → idle' j) → ((j : ℕ) → idle' j → idle j) →
    IsPlaced actors width weight idle before queue cells p → IsPlaced actors width weight idle' before queue cells p
placed_idle actors width weight idle idle' before queue cells p to from pl = record {
  home = pl.home;
  home_is = pl.home_is;
  stands = λ j. (
    λ e. place_alike width (λ k. idle k × IsLeft queue cells p k) (λ k. idle' k × IsLeft queue cells p k)
        (load actors weight pl.home) (pl.home (firing queue p).actor) j
        (λ k x. (to k x.0, x.1)) (λ k x. (from k x.0, x.1)) ((pl.stands j).0 e),
    λ place. (pl.stands j).1 (place_alike width (λ k. idle' k × IsLeft queue cells p k)
        (λ k. idle k × IsLeft queue cells p k) (load actors weight pl.home) (pl.home (firing queue p).actor) j
        (λ k x. (from k x.0, x.1)) (λ k x. (to k x.0, x.1)) place),
  );
}

module _ (actors width : ℕ) (weight : ℕ → ℕ) (idle : ℕ → Type 0) (before : ℕ → Option ℕ) (queue : List Firing) (i : ℕ)
    (cells : List (Option Firing)) (homes : List (Option ℕ))
    (once : (p m : ℕ) → p < m → m < length queue → firing queue p ≡ firing queue m → ⊥) (here : i < length queue)
    (s : IsPlacing actors width weight idle before queue i cells homes) where
  abbrev f : Firing
  f = firing queue i

  abbrev home : ℕ → Option ℕ
  home a = get_or homes a None

  -- no cell has firing i yet
  fresh : (j : ℕ) → get_or cells j None ≡ Some (firing queue i) → ⊥
  fresh j e = let w = s.only j (firing queue i) e in once w.0 i w.1 here w.2

  left_of : (j : ℕ) → get_or cells j None ≡ None → IsLeft queue cells i j
  left_of j none m l e = none-some (firing queue m) (sym none ∙ e)

  none_of : (j : ℕ) → IsLeft queue cells i j → get_or cells j None ≡ None
  none_of j left = go (get_or cells j None) (λ _. get_or cells j None)
    where
      go : (o : Option Firing) → get_or cells j None ≡ o → get_or cells j None ≡ None
      go None e = e
      go (Some g) e = let w = s.only j g e in absurd (left w.0 w.1 (e ∙ ap Some (sym w.2)))

  place_of : (j : ℕ) → IsPlace width (λ m. idle m × IsLeft queue cells i m)
      (load actors weight (λ a. get_or homes a None)) (get_or homes (firing queue i).actor None) j →
      IsPlace width (λ m. idle m × (get_or cells m None ≡ None)) (load actors weight (λ a. get_or homes a None))
      (get_or homes (firing queue i).actor None) j
  place_of j = place_alike width (λ m. idle m × IsLeft queue cells i m) (λ m. idle m × (get_or cells m None ≡ None))
      (load actors weight (λ a. get_or homes a None)) (get_or homes (firing queue i).actor None) j
      (λ m f. (f.0, none_of m f.1)) (λ m f. (f.0, left_of m f.1))

  of_place : (j : ℕ) → IsPlace width (λ m. idle m × (get_or cells m None ≡ None))
      (load actors weight (λ a. get_or homes a None)) (get_or homes (firing queue i).actor None) j →
      IsPlace width (λ m. idle m × IsLeft queue cells i m) (load actors weight (λ a. get_or homes a None))
      (get_or homes (firing queue i).actor None) j
  of_place j = place_alike width (λ m. idle m × (get_or cells m None ≡ None)) (λ m. idle m × IsLeft queue cells i m)
      (load actors weight (λ a. get_or homes a None)) (get_or homes (firing queue i).actor None) j
      (λ m f. (f.0, left_of m f.1)) (λ m f. (f.0, none_of m f.1))

  -- it has no place, and waits
  pub placing_waits : ((j : ℕ) → IsPlace width (λ m. idle m × (get_or cells m None ≡ None))
      (load actors weight (λ a. get_or homes a None)) (get_or homes (firing queue i).actor None) j → ⊥) →
      IsPlacing actors width weight idle before queue (i + 1) cells homes
  placing_waits nowhere = record {
    each = λ p l. go p (cases_lt p i) l;
    only = λ j g e. let w = s.only j g e in (w.0, omega (arith, w.1), w.2);
    homes_are = λ a j l. (λ e. more a j ((s.homes_are a j l).0 e), λ h. (s.homes_are a j l).1 (less a j h));
    inside = s.inside;
    wide = s.wide;
    all = s.all;
  }
    where
      more : (a j : ℕ) → IsHomeFor before queue cells i a j → IsHomeFor before queue cells (i + 1) a j
      more a j (inl b) = inl b
      more a j (inr (m, l, e, is)) = inr (m, omega arith, e, is)

      less : (a j : ℕ) → IsHomeFor before queue cells (i + 1) a j → IsHomeFor before queue cells i a j
      less a j (inl b) = inl b
      less a j (inr (m, l, e, is)) = at (cases_lt m i)
        where
          at : (m < i) ⊎ (i ≤ m) → IsHomeFor before queue cells i a j
          at (inl low) = inr (m, low, e, is)
          at (inr high) = let same : m ≡ i = omega arith in
              absurd (fresh j (subst (λ m. get_or cells j None ≡ Some (firing queue m)) same e))

      now : IsPlaced actors width weight idle before queue cells i
      now = record {
        home = λ a. get_or homes a None;
        home_is = s.homes_are;
        stands = λ j. (λ e. absurd (fresh j e), λ pl. absurd (nowhere j (place_of j pl)));
      }

      go : (p : ℕ) → (p < i) ⊎ (i ≤ p) → p < i + 1 → IsPlaced actors width weight idle before queue cells p
      go p (inl low) l = s.each p low
      go p (inr high) l = subst (IsPlaced actors width weight idle before queue cells)
          (let e : i ≡ p = omega arith in e) now

  -- it stands in its place
  module _ (c : ℕ) (place : IsPlace width (λ m. idle m × (get_or cells m None ≡ None))
      (load actors weight (λ a. get_or homes a None)) (get_or homes (firing queue i).actor None) c)
      (actor_in : (firing queue i).actor < actors) where
    abbrev after : List (Option Firing)
    after = set cells c (Some (firing queue i))

    none : get_or cells c None ≡ None
    none = place.is_free.1

    there : get_or (set cells c (Some (firing queue i))) c None ≡ Some (firing queue i)
    there = get_or-set_same cells c (Some (firing queue i)) None (omega (arith, place.known, s.wide))

    other : (j : ℕ) → (j ≡ c → ⊥) → get_or (set cells c (Some (firing queue i))) j None ≡ get_or cells j None
    other j ne = get_or-set_other cells c j (Some (firing queue i)) None ne

    to : (m j : ℕ) → get_or cells j None ≡ Some (firing queue m) →
        get_or (set cells c (Some (firing queue i))) j None ≡ Some (firing queue m)
    to m j e = go (cases_eq j c)
      where
        go : (j ≡ c) ⊎ (j ≡ c → ⊥) → get_or (set cells c (Some (firing queue i))) j None ≡ Some (firing queue m)
        go (inl same) = absurd (none-some (firing queue m) (sym none ∙ (ap (λ j. get_or cells j None) (sym same) ∙ e)))
        go (inr ne) = other j ne ∙ e

    back : (m j : ℕ) → m < i → get_or (set cells c (Some (firing queue i))) j None ≡ Some (firing queue m) →
        get_or cells j None ≡ Some (firing queue m)
    back m j l e = go (cases_eq j c)
      where
        go : (j ≡ c) ⊎ (j ≡ c → ⊥) → get_or cells j None ≡ Some (firing queue m)
        go (inl same) =
            let is : Some (firing queue i) ≡ Some (firing queue m) =
            sym there ∙ (ap (λ j. get_or (set cells c (Some (firing queue i))) j None) (sym same) ∙ e) in
            absurd (once m i l here (sym (same_Some (firing queue i) (firing queue m) is)))
        go (inr ne) = sym (other j ne) ∙ e

    -- it stands in no other column
    only_there : (j : ℕ) → get_or (set cells c (Some (firing queue i))) j None ≡ Some (firing queue i) → j ≡ c
    only_there j e = go (cases_eq j c)
      where
        go : (j ≡ c) ⊎ (j ≡ c → ⊥) → j ≡ c
        go (inl same) = same
        go (inr ne) = absurd (fresh j (sym (other j ne) ∙ e))

    now : IsPlaced actors width weight idle before queue (set cells c (Some (firing queue i))) i
    now = record {
      home = λ a. get_or homes a None;
      home_is = λ a j l. (
        λ e. home_alike before queue cells (set cells c (Some (firing queue i))) i (λ m k h. to m k) a j
            ((s.homes_are a j l).0 e),
        λ h. (s.homes_are a j l).1 (home_alike before queue (set cells c (Some (firing queue i))) cells i back a j h),
      );
      stands = λ j. (
        λ e. subst (IsPlace width (λ m. idle m × IsLeft queue (set cells c (Some (firing queue i))) i m)
            (load actors weight (λ a. get_or homes a None)) (get_or homes (firing queue i).actor None))
            (sym (only_there j e))
            (place_alike width (λ m. idle m × IsLeft queue cells i m)
            (λ m. idle m × IsLeft queue (set cells c (Some (firing queue i))) i m)
            (load actors weight (λ a. get_or homes a None)) (get_or homes (firing queue i).actor None) c
            (λ m f. (f.0, left_alike before queue cells (set cells c (Some (firing queue i))) i back m f.1))
            (λ m f. (
              f.0,
              left_alike before queue (set cells c (Some (firing queue i))) cells i (λ x k h. to x k) m
                  f.1,
            )) (of_place c place)),
        λ pl.
            let old = place_of j (place_alike width (λ m. idle m
            × IsLeft queue (set cells c (Some (firing queue i))) i m) (λ m. idle m × IsLeft queue cells i m)
            (load actors weight (λ a. get_or homes a None)) (get_or homes (firing queue i).actor None) j
            (λ m f. (
              f.0,
              left_alike before queue (set cells c (Some (firing queue i))) cells i
                  (λ x k h. to x k) m f.1,
            ))
            (λ m f. (f.0, left_alike before queue cells (set cells c (Some (firing queue i))) i back m f.1)) pl) in
            let same = place_unique width (λ m. idle m × (get_or cells m None ≡ None))
            (load actors weight (λ a. get_or homes a None)) (get_or homes (firing queue i).actor None)
            j c old place in
            ap (λ j. get_or (set cells c (Some (firing queue i))) j None) same ∙ there,
      );
    }

    homes_then : (a j : ℕ) → a < actors → (a ≡ (firing queue i).actor) ⊎ (a ≡ (firing queue i).actor → ⊥) →
        (get_or (set homes (firing queue i).actor (Some c)) a None ≡ Some j) ↔
        IsHomeFor before queue (set cells c (Some (firing queue i))) (i + 1) a j
    homes_then a j l (inl own) = (
      λ e. inr (
        i,
        omega arith,
        ap (λ k. get_or (set cells c (Some (firing queue i))) k None)
            (sym (same_Some c j (sym set_own ∙ e))) ∙ there,
        sym own,
      ),
      λ h. set_own ∙ ap Some (sym (found h)),
    )
      where
        set_own : get_or (set homes (firing queue i).actor (Some c)) a None ≡ Some c
        set_own = ap (λ a. get_or (set homes (firing queue i).actor (Some c)) a None) own
            ∙ get_or-set_same homes (firing queue i).actor (Some c) None (omega (arith, actor_in, s.all))

        -- a home that it had is that column
        had : get_or homes a None ≡ Some j → j ≡ c
        had e = go place.chosen
          where
            e_own : get_or homes (firing queue i).actor None ≡ Some j
            e_own = ap (λ a. get_or homes a None) (sym own) ∙ e

            go : (get_or homes (firing queue i).actor None ≡ Some c)
                ⊎ ((get_or homes (firing queue i).actor None ≡ None)
                × IsLeast width (λ m. idle m × (get_or cells m None ≡ None))
                (load actors weight (λ a. get_or homes a None)) c) → j ≡ c
            go (inl g) = same_Some j c (sym e_own ∙ g)
            go (inr (n, _)) = absurd (none-some j (sym n ∙ e_own))

        found : IsHomeFor before queue (set cells c (Some (firing queue i))) (i + 1) a j → j ≡ c
        found (inl b) = had ((s.homes_are a j l).1 (inl b))
        found (inr (m, h, e, is)) = at (cases_lt m i)
          where
            at : (m < i) ⊎ (i ≤ m) → j ≡ c
            at (inl low) = had ((s.homes_are a j l).1 (inr (m, low, back m j low e, is)))
            at (inr high) = let same : m ≡ i = omega arith in
                only_there j (subst (λ m. get_or (set cells c (Some (firing queue i))) j None ≡
                Some (firing queue m)) same e)
    homes_then a j l (inr ne) = (
      λ e. more ((s.homes_are a j l).0 (sym keep ∙ e)),
      λ h. keep ∙ (s.homes_are a j l).1 (less h),
    )
      where
        keep : get_or (set homes (firing queue i).actor (Some c)) a None ≡ get_or homes a None
        keep = get_or-set_other homes (firing queue i).actor a (Some c) None ne

        more : IsHomeFor before queue cells i a j → IsHomeFor before queue
            (set cells c (Some (firing queue i))) (i + 1) a j
        more (inl b) = inl b
        more (inr (m, h, e, is)) = inr (m, omega arith, to m j e, is)

        less : IsHomeFor before queue (set cells c (Some (firing queue i))) (i + 1) a j →
            IsHomeFor before queue cells i a j
        less (inl b) = inl b
        less (inr (m, h, e, is)) = at (cases_lt m i)
          where
            at : (m < i) ⊎ (i ≤ m) → IsHomeFor before queue cells i a j
            at (inl low) = inr (m, low, back m j low e, is)
            at (inr high) = let same : m ≡ i = omega arith in
                absurd (ne (sym is ∙ ap (λ m. (firing queue m).actor) same))

    inside_then : (a j : ℕ) → (a ≡ (firing queue i).actor) ⊎ (a ≡ (firing queue i).actor → ⊥) →
        get_or (set homes (firing queue i).actor (Some c)) a None ≡ Some j → j < width
    inside_then a j (inl own) e =
        let set_own : get_or (set homes (firing queue i).actor (Some c)) a None ≡ Some c =
        ap (λ a. get_or (set homes (firing queue i).actor (Some c)) a None) own
        ∙ get_or-set_same homes (firing queue i).actor (Some c) None (omega (arith, actor_in, s.all)) in
        subst (λ j. j < width) (same_Some c j (sym set_own ∙ e)) place.known
    inside_then a j (inr ne) e = s.inside a j (sym
        (get_or-set_other homes (firing queue i).actor a (Some c) None ne) ∙ e)

    only_then : (j : ℕ) (g : Firing) → (j ≡ c) ⊎ (j ≡ c → ⊥) →
        get_or (set cells c (Some (firing queue i))) j None ≡ Some g → (p : ℕ) × (p < i + 1) × (firing queue p ≡ g)
    only_then j g (inl same) e = (
      i,
      omega arith,
      same_Some (firing queue i) g
          (sym there ∙ (ap (λ j. get_or (set cells c (Some (firing queue i))) j None) (sym same) ∙ e)),
    )
    only_then j g (inr ne) e = let w = s.only j g (sym (other j ne) ∙ e) in (w.0, omega (arith, w.1), w.2)

    each_then : (p : ℕ) → (p < i) ⊎ (i ≤ p) → p < i + 1 →
        IsPlaced actors width weight idle before queue (set cells c (Some (firing queue i))) p
    each_then p (inl low) l = placed_alike actors width weight idle before queue cells
        (set cells c (Some (firing queue i))) p (λ m j h. to m j) (λ m j h. back m j (omega arith)) (s.each p low)
    each_then p (inr high) l = subst (IsPlaced actors width weight idle before queue
        (set cells c (Some (firing queue i)))) (let e : i ≡ p = omega arith in e) now

    pub placing_stands : IsPlacing actors width weight idle before queue (i + 1) (set cells c (Some (firing queue i)))
        (set homes (firing queue i).actor (Some c))
    placing_stands = record {
      each = λ p l. each_then p (cases_lt p i) l;
      only = λ j g e. only_then j g (cases_eq j c) e;
      homes_are = λ a j l. homes_then a j l (cases_eq a (firing queue i).actor);
      inside = λ a j e. inside_then a j (cases_eq a (firing queue i).actor) e;
      wide = length-set cells c (Some (firing queue i)) ∙ s.wide;
      all = length-set homes (firing queue i).actor (Some c) ∙ s.all;
    }

-- before the first firing the row is empty
pub placing_begins : (actors width : ℕ) (weight : ℕ → ℕ) (idle : ℕ → Type 0) (queue : List Firing)
    (cells : List (Option Firing)) (homes : List (Option ℕ)) →
    ((j : ℕ) → get_or cells j None ≡ None) → length cells ≡ width → length homes ≡ actors →
    ((a j : ℕ) → get_or homes a None ≡ Some j → j < width) →
    IsPlacing actors width weight idle (λ a. get_or homes a None) queue 0 cells homes
placing_begins actors width weight idle queue cells homes none wide all inside = record {
  each = λ p l. absurd (omega arith);
  only = λ j f e. absurd (none-some f (sym (none j) ∙ e));
  homes_are = λ a j l. (λ e. inl e, λ h. go a j h);
  inside = inside;
  wide = wide;
  all = all;
}
  where
    go : (a j : ℕ) → IsHomeFor (λ a. get_or homes a None) queue cells 0 a j → get_or homes a None ≡ Some j
    go a j (inl e) = e
    go a j (inr (m, l, e, is)) = absurd (omega arith)

-- a firing that has no place waits for its home, or for any column
pub waiting_waits : (until : List ℕ) (now : ℕ) (queue : List Firing) (i : ℕ) (cells : List (Option Firing))
    (homes : List (Option ℕ)) → AreWaiting until now queue i cells homes →
    IsNowhere (length until) (IsOpen until now cells) (get_or homes (firing queue i).actor None) →
    AreWaiting until now queue (i + 1) cells homes
waiting_waits until now queue i cells homes s nowhere p l = go (cases_lt p i)
  where
    here : (o : Option ℕ) → get_or homes (firing queue i).actor None ≡ o →
        IsNowhere (length until) (IsOpen until now cells) o →
        ((j : ℕ) × (get_or cells j None ≡ Some (firing queue i))) ⊎
        (((k : ℕ) × (get_or homes (firing queue i).actor None ≡ Some k) × (k < length until)
        × (IsOpen until now cells k → ⊥)) ⊎
        ((j : ℕ) → j < length until → IsOpen until now cells j → ⊥))
    here None e none = inr (inr none)
    here (Some k) e (known, closed) = inr (inl (k, e, known, closed))

    go : (p < i) ⊎ (i ≤ p) → ((j : ℕ) × (get_or cells j None ≡ Some (firing queue p))) ⊎
        (((k : ℕ) × (get_or homes (firing queue p).actor None ≡ Some k) × (k < length until)
        × (IsOpen until now cells k → ⊥)) ⊎
        ((j : ℕ) → j < length until → IsOpen until now cells j → ⊥))
    go (inl low) = s p low
    go (inr high) =
        let same : i ≡ p = omega arith in
        subst (λ p. ((j : ℕ) × (get_or cells j None ≡ Some (firing queue p))) ⊎
        (((k : ℕ) × (get_or homes (firing queue p).actor None ≡ Some k) × (k < length until)
        × (IsOpen until now cells k → ⊥)) ⊎
        ((j : ℕ) → j < length until → IsOpen until now cells j → ⊥))) same
        (here (get_or homes (firing queue i).actor None) (λ _. get_or homes (firing queue i).actor None) nowhere)

pub waiting_stands : (until : List ℕ) (now : ℕ) (queue : List Firing) (i : ℕ) (cells : List (Option Firing))
    (homes : List (Option ℕ)) (c : ℕ) (weights : ℕ → ℕ) → AreWaiting until now queue i cells homes →
    IsPlace (length until) (IsOpen until now cells) weights (get_or homes (firing queue i).actor None) c →
    length cells ≡ length until → AreWaiting until now queue (i + 1) (set cells c (Some (firing queue i)))
    (set homes (firing queue i).actor (Some c))
waiting_stands until now queue i cells homes c weights s place wide p l = go (cases_lt p i)
  where
    there : get_or (set cells c (Some (firing queue i))) c None ≡ Some (firing queue i)
    there = get_or-set_same cells c (Some (firing queue i)) None (omega (arith, place.known))

    -- an open column was open before
    was_open : (j : ℕ) → IsOpen until now (set cells c (Some (firing queue i))) j → IsOpen until now cells j
    was_open j (low, none) = at (cases_eq j c)
      where
        at : (j ≡ c) ⊎ (j ≡ c → ⊥) → IsOpen until now cells j
        at (inl e) = absurd (none-some (firing queue i)
            (sym none ∙ (ap (λ j. get_or (set cells c (Some (firing queue i))) j None) e ∙ there)))
        at (inr ne) = (low, sym (get_or-set_other cells c j (Some (firing queue i)) None ne) ∙ none)

    -- a firing whose home is not open has another home than the column
    old_home : (k : ℕ) → get_or homes (firing queue p).actor None ≡ Some k → (IsOpen until now cells k → ⊥) →
        get_or (set homes (firing queue i).actor (Some c)) (firing queue p).actor None ≡ Some k
    old_home k e closed = at (cases_eq (firing queue p).actor (firing queue i).actor)
      where
        at : ((firing queue p).actor ≡ (firing queue i).actor) ⊎ ((firing queue p).actor ≡ (firing queue i).actor → ⊥) →
            get_or (set homes (firing queue i).actor (Some c)) (firing queue p).actor None ≡ Some k
        at (inr ne) = get_or-set_other homes (firing queue i).actor (firing queue p).actor (Some c) None ne ∙ e
        at (inl same) = absurd (chosen place.chosen)
          where
            its : get_or homes (firing queue i).actor None ≡ Some k
            its = ap (λ a. get_or homes a None) (sym same) ∙ e

            chosen : (get_or homes (firing queue i).actor None ≡ Some c)
                ⊎ ((get_or homes (firing queue i).actor None ≡ None)
                × IsLeast (length until) (IsOpen until now cells) weights c) → ⊥
            chosen (inl g) = closed (subst (IsOpen until now cells) (sym (same_Some k c (sym its ∙ g))) place.is_free)
            chosen (inr (none, _)) = none-some k (sym none ∙ its)

    kept : ((j : ℕ) × (get_or cells j None ≡ Some (firing queue p))) ⊎
        (((k : ℕ) × (get_or homes (firing queue p).actor None ≡ Some k) × (k < length until)
        × (IsOpen until now cells k → ⊥)) ⊎
        ((j : ℕ) → j < length until → IsOpen until now cells j → ⊥)) →
        ((j : ℕ) × (get_or (set cells c (Some (firing queue i))) j None ≡ Some (firing queue p))) ⊎
        (((k : ℕ) × (get_or (set homes (firing queue i).actor (Some c)) (firing queue p).actor None ≡ Some k)
        × (k < length until) × (IsOpen until now (set cells c (Some (firing queue i))) k → ⊥)) ⊎
        ((j : ℕ) → j < length until → IsOpen until now (set cells c (Some (firing queue i))) j → ⊥))
    kept (inr (inr all)) = absurd (all c place.known place.is_free)
    kept (inr (inl (k, e, known, closed))) = inr (inl (k, old_home k e closed, known, λ o. closed (was_open k o)))
    kept (inl (j, e)) = inl (
      j,
      get_or-set_other cells c j (Some (firing queue i)) None
          (λ same. none-some (firing queue p) (sym place.is_free.1
          ∙ (ap (λ j. get_or cells j None) (sym same) ∙ e))) ∙ e,
    )

    go : (p < i) ⊎ (i ≤ p) → ((j : ℕ) × (get_or (set cells c (Some (firing queue i))) j None ≡ Some (firing queue p))) ⊎
        (((k : ℕ) × (get_or (set homes (firing queue i).actor (Some c)) (firing queue p).actor None ≡ Some k)
        × (k < length until) × (IsOpen until now (set cells c (Some (firing queue i))) k → ⊥)) ⊎
        ((j : ℕ) → j < length until → IsOpen until now (set cells c (Some (firing queue i))) j → ⊥))
    go (inl low) = kept (s p low)
    go (inr high) = let same : i ≡ p = omega arith in inl (c, there ∙ ap (λ p. Some (firing queue p)) same)
