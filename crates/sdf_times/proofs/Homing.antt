-- Firings of a queue placed at home, one after the other.
use Rattle.std.proofs.Common.{◌≡◌, ℕ, zero, suc, ◌+◌, ◌≤◌, ◌<◌, ◌⊎◌, ◌↔◌, List, length, set, replicate, cond}
use Rattle.std.proofs.Common.{eqb, sym, ap, ◌∙◌, subst, inl, inr, arith, refl, Option, Some, None}
use Rattle.std.proofs.lemmas.List.{get_or-set_same, get_or-set_other, length-set, length-replicate, get_or-replicate}
use Rattle.std.proofs.lemmas.List.{get_or_past}
use Rattle.std.proofs.lemmas.Option.{none-some, same_Some}
use Rattle.std.proofs.lemmas.Bool.{cases_lt, cases_eq, eq-eqb, ne_eqb}
use Rattle.sdf_prec.specs.declared.firing.Firing.{Firing}
use Rattle.sdf_prec.specs.Tables.{firing, cell_of}
use Rattle.sdf_prec.specs.Trying.{IsLeft, IsHomeFor, IsLeast, IsPlace, IsPlaced, load}
use Rattle.sdf_times.proofs.Decided.{decided_below}

-- of the first n columns, the free one of least load
abbrev pub HasLeast : (ℕ → Type 0) → (ℕ → ℕ) → ℕ → Type 0
HasLeast free weights n = (b : ℕ) × (b < n) × free b × IsLeast n free weights b

module _ (free : ℕ → Type 0) (weights : ℕ → ℕ) (n : ℕ) where
  least_more : (b : ℕ) → ((m : ℕ) → m < n → free m → (weights b < weights m) ⊎ ((weights b ≡ weights m) × (b ≤ m))) →
      (free n → (weights b < weights n) ⊎ ((weights b ≡ weights n) × (b ≤ n))) → IsLeast (suc n) free weights b
  least_more b below last m l h = go (cases_eq m n)
    where
      go : (m ≡ n) ⊎ (m ≡ n → ⊥) → (weights b < weights m) ⊎ ((weights b ≡ weights m) × (b ≤ m))
      go (inl e) = subst (λ m. (weights b < weights m) ⊎ ((weights b ≡ weights m) × (b ≤ m))) (sym e)
          (last (subst free e h))
      go (inr ne) = below m (omega arith) h

  lighter : (b : ℕ) → b < n → free b → IsLeast n free weights b → free n →
      (weights n < weights b) ⊎ (weights b ≤ weights n) → HasLeast free weights (suc n)
  lighter b l there least here (inl less) =
      (n, omega arith, here, least_more n (λ m k h. inl (under m (least m k h))) (λ _. inr (refl, omega arith)))
    where
      under : (m : ℕ) → (weights b < weights m) ⊎ ((weights b ≡ weights m) × (b ≤ m)) → weights n < weights m
      under m (inl x) = omega arith
      under m (inr x) = omega (arith, x.0)
  lighter b l there least here (inr more) =
      (b, omega arith, there, least_more b least (λ _. which (cases_lt (weights b) (weights n))))
    where
      which : (weights b < weights n) ⊎ (weights n ≤ weights b) →
          (weights b < weights n) ⊎ ((weights b ≡ weights n) × (b ≤ n))
      which (inl x) = inl x
      which (inr x) = inr (omega arith, omega arith)

  one_more : HasLeast free weights n ⊎ ((j : ℕ) → j < n → free j → ⊥) → free n ⊎ (free n → ⊥) →
      HasLeast free weights (suc n) ⊎ ((j : ℕ) → j < suc n → free j → ⊥)
  one_more (inl (b, l, there, least)) (inl here) = inl (lighter b l there least here
      (cases_lt (weights n) (weights b)))
  one_more (inl (b, l, there, least)) (inr taken) =
      inl (b, omega arith, there, least_more b least (λ h. absurd (taken h)))
  one_more (inr none) (inl here) =
      inl (n, omega arith, here, least_more n (λ m k h. absurd (none m k h)) (λ _. inr (refl, omega arith)))
  one_more (inr none) (inr taken) = inr (λ j l h. go j l h (cases_eq j n))
    where
      go : (j : ℕ) → j < suc n → free j → (j ≡ n) ⊎ (j ≡ n → ⊥) → ⊥
      go j l h (inl e) = taken (subst free e h)
      go j l h (inr ne) = none j (omega arith) h

pub least_or_none : (free : ℕ → Type 0) (weights : ℕ → ℕ) (n : ℕ) →
    ((m : ℕ) → m < n → free m ⊎ (free m → ⊥)) → HasLeast free weights n ⊎ ((j : ℕ) → j < n → free j → ⊥)
least_or_none free weights zero decide = inr (λ j l. absurd (omega arith))
least_or_none free weights (suc n) decide = one_more free weights n
    (least_or_none free weights n (λ m l. decide m (omega arith))) (decide n (omega arith))

module _ (width : ℕ) (free : ℕ → Type 0) (weights : ℕ → ℕ) where
  -- a firing with this home has a place, or has none
  place_or_none : (home : Option ℕ) → ((m : ℕ) → m < width → free m ⊎ (free m → ⊥)) →
      ((k : ℕ) → home ≡ Some k → k < width) →
      ((c : ℕ) × IsPlace width free weights home c) ⊎ ((c : ℕ) → IsPlace width free weights home c → ⊥)
  place_or_none (Some k) decide inside = go (decide k (inside k refl))
    where
      none : (free k → ⊥) → (c : ℕ) → IsPlace width free weights (Some k) c → ⊥
      none taken c place = at place.chosen
        where
          at : (Some k ≡ Some c) ⊎ ((Some k ≡ None) × IsLeast width free weights c) → ⊥
          at (inl e) = taken (subst free (sym (same_Some k c e)) place.is_free)
          at (inr (e, _)) = none-some k (sym e)

      go : free k ⊎ (free k → ⊥) →
          ((c : ℕ) × IsPlace width free weights (Some k) c) ⊎ ((c : ℕ) → IsPlace width free weights (Some k) c → ⊥)
      go (inl here) = inl (k, record { known = inside k refl; is_free = here; chosen = inl refl })
      go (inr taken) = inr (none taken)
  place_or_none None decide inside = go (least_or_none free weights width decide)
    where
      go : HasLeast free weights width ⊎ ((j : ℕ) → j < width → free j → ⊥) →
          ((c : ℕ) × IsPlace width free weights None c) ⊎ ((c : ℕ) → IsPlace width free weights None c → ⊥)
      go (inl (b, l, here, least)) = inl (b, record { known = l; is_free = here; chosen = inr (refl, least) })
      go (inr none) = inr (λ c place. none c place.known place.is_free)

  -- only one
  place_once : (home : Option ℕ) (j k : ℕ) → IsPlace width free weights home j → IsPlace width free weights home k →
      j ≡ k
  place_once home j k p q = go p.chosen q.chosen
    where
      even : (weights j < weights k) ⊎ ((weights j ≡ weights k) × (j ≤ k)) →
          (weights k < weights j) ⊎ ((weights k ≡ weights j) × (k ≤ j)) → j ≡ k
      even (inl a) (inl b) = absurd (omega arith)
      even (inl a) (inr b) = absurd (omega (arith, b.0))
      even (inr a) (inl b) = absurd (omega (arith, a.0))
      even (inr a) (inr b) = omega (arith, a.1, b.1)

      go : (home ≡ Some j) ⊎ ((home ≡ None) × IsLeast width free weights j) →
          (home ≡ Some k) ⊎ ((home ≡ None) × IsLeast width free weights k) → j ≡ k
      go (inl e) (inl g) = same_Some j k (sym e ∙ g)
      go (inl e) (inr (none, _)) = absurd (none-some j (sym none ∙ e))
      go (inr (none, _)) (inl g) = absurd (none-some k (sym none ∙ g))
      go (inr (_, a)) (inr (_, b)) = even (a k q.known q.is_free) (b j p.known p.is_free)

place_alike : (width : ℕ) (free free' : ℕ → Type 0) (weights : ℕ → ℕ) (home : Option ℕ) (j : ℕ) →
    ((m : ℕ) → free m ↔ free' m) → IsPlace width free weights home j → IsPlace width free' weights home j
place_alike width free free' weights home j same p =
    record { known = p.known; is_free = (same j).0 p.is_free; chosen = go p.chosen }
  where
    go : (home ≡ Some j) ⊎ ((home ≡ None) × IsLeast width free weights j) →
        (home ≡ Some j) ⊎ ((home ≡ None) × IsLeast width free' weights j)
    go (inl e) = inl e
    go (inr (e, least)) = inr (e, λ m l f. least m l ((same m).1 f))

-- the first p firings of a queue stand in some cells as in others
abbrev AreAlike : List Firing → ℕ → List (Option Firing) → List (Option Firing) → Type 0
AreAlike queue p cells cells' = (m j : ℕ) → m < p →
    (cell_of cells j ≡ Some (firing queue m)) ↔ (cell_of cells' j ≡ Some (firing queue m))

module _ (queue : List Firing) (p : ℕ) (cells cells' : List (Option Firing))
    (same : AreAlike queue p cells cells') where
  home_alike : (before : ℕ → Option ℕ) (a j : ℕ) → IsHomeFor before queue cells p a j ↔
      IsHomeFor before queue cells' p a j
  home_alike before a j = (to, from)
    where
      to : IsHomeFor before queue cells p a j → IsHomeFor before queue cells' p a j
      to (inl b) = inl b
      to (inr (m, l, e, is)) = inr (m, l, (same m j l).0 e, is)

      from : IsHomeFor before queue cells' p a j → IsHomeFor before queue cells p a j
      from (inl b) = inl b
      from (inr (m, l, e, is)) = inr (m, l, (same m j l).1 e, is)

  free_alike : (idle : ℕ → Type 0) (j : ℕ) → (idle j × IsLeft queue cells p j) ↔ (idle j × IsLeft queue cells' p j)
  free_alike idle j = (
    λ h. (h.0, λ m l e. h.1 m l ((same m j l).1 e)),
    λ h. (h.0, λ m l e. h.1 m l ((same m j l).0 e)),
  )

  alike_back : AreAlike queue p cells' cells
  alike_back m j l = ((same m j l).1, (same m j l).0)

module _ (actors width : ℕ) (weight : ℕ → ℕ) (idle : ℕ → Type 0) (before : ℕ → Option ℕ) (queue : List Firing) where
  -- firing p is placed in some cells by the homes and the columns that are left in others, in which the firings before
  -- it stand as there
  placed_by : (p : ℕ) (cells cells' : List (Option Firing)) (home : ℕ → Option ℕ) → AreAlike queue p cells cells' →
      ((a j : ℕ) → a < actors → (home a ≡ Some j) ↔ IsHomeFor before queue cells p a j) →
      ((j : ℕ) → (cell_of cells' j ≡ Some (firing queue p)) ↔ IsPlace width (λ m. idle m × IsLeft queue cells p m)
      (load actors weight home) (home (firing queue p).actor) j) →
      IsPlaced actors width weight idle before queue cells' p
  placed_by p cells cells' home same home_is stands = record {
    home = home;
    home_is = λ a j l. (
      λ e. (home_alike queue p cells cells' same before a j).0 ((home_is a j l).0 e),
      λ h. (home_is a j l).1 ((home_alike queue p cells cells' same before a j).1 h),
    );
    stands = λ j. (
      λ e. place_alike width (λ m. idle m × IsLeft queue cells p m) (λ m. idle m × IsLeft queue cells' p m)
          (load actors weight home) (home (firing queue p).actor) j (free_alike queue p cells cells' same idle)
          ((stands j).0 e),
      λ place. (stands j).1 (place_alike width (λ m. idle m × IsLeft queue cells' p m)
          (λ m. idle m × IsLeft queue cells p m) (load actors weight home) (home (firing queue p).actor) j
          (free_alike queue p cells' cells (alike_back queue p cells cells' same) idle) place),
    );
  }

  -- the first i firings are placed, and these are the homes then
  pub record HasPlaced (i : ℕ) : Type 0 where
    pub cells : List (Option Firing)
    pub home : ℕ → Option ℕ
    pub each : (p : ℕ) → p < i → IsPlaced actors width weight idle before queue cells p
    pub only : (j : ℕ) (f : Firing) → cell_of cells j ≡ Some f → (p : ℕ) × (p < i) × (firing queue p ≡ f)
    pub home_is : (a j : ℕ) → a < actors → (home a ≡ Some j) ↔ IsHomeFor before queue cells i a j
    pub inside : (a j : ℕ) → a < actors → home a ≡ Some j → j < width
    pub wide : length cells ≡ width

  module _ (inside : (a j : ℕ) → a < actors → before a ≡ Some j → j < width) where
    none_placed : HasPlaced 0
    none_placed = record {
      cells = replicate width None;
      home = before;
      each = λ p l. absurd (omega arith);
      only = λ j f e. absurd (none-some f (sym (empty j (cases_lt j width)) ∙ e));
      home_is = λ a j l. (λ e. inl e, λ h. same a j h);
      inside = inside;
      wide = length-replicate {A = Option Firing} width None;
    }
      where
        empty : (j : ℕ) → (j < width) ⊎ (width ≤ j) → cell_of (replicate width None) j ≡ None
        empty j (inl l) = get_or-replicate width j None None l
        empty j (inr past) = get_or_past (replicate {A = Option Firing} width None) j None
            (omega (arith, length-replicate {A = Option Firing} width None))

        same : (a j : ℕ) → IsHomeFor before queue (replicate width None) 0 a j → before a ≡ Some j
        same a j (inl e) = e
        same a j (inr (m, l, e, is)) = absurd (omega arith)

  module _ (once : (p m : ℕ) → p < m → m < length queue → firing queue p ≡ firing queue m → ⊥) (i : ℕ)
      (here : i < length queue) (b : HasPlaced i) where
    fresh : (j : ℕ) → cell_of b.cells j ≡ Some (firing queue i) → ⊥
    fresh j e = let w = b.only j (firing queue i) e in once w.0 i w.1 here w.2

    -- one firing more, where those before it stand as they did
    each_more : (cells : List (Option Firing)) → AreAlike queue i b.cells cells →
        ((j : ℕ) → (cell_of cells j ≡ Some (firing queue i)) ↔ IsPlace width (λ m. idle m × IsLeft queue b.cells i m)
        (load actors weight b.home) (b.home (firing queue i).actor) j) →
        (p : ℕ) → p < i + 1 → IsPlaced actors width weight idle before queue cells p
    each_more cells same stands p l = go (cases_lt p i)
      where
        go : (p < i) ⊎ (i ≤ p) → IsPlaced actors width weight idle before queue cells p
        go (inr high) = subst (IsPlaced actors width weight idle before queue cells)
            (let e : i ≡ p = omega arith in e) (placed_by i b.cells cells b.home same b.home_is stands)
        go (inl low) =
            let old = b.each p low in
            placed_by p b.cells cells old.home (λ m j h. same m j (omega arith)) old.home_is (λ j. (
              λ e. (old.stands j).0 ((same p j low).1 e),
              λ place. (same p j low).0 ((old.stands j).1 place),
            ))

    home_more : (cells : List (Option Firing)) (a j : ℕ) → IsHomeFor before queue cells i a j →
        IsHomeFor before queue cells (i + 1) a j
    home_more cells a j (inl e) = inl e
    home_more cells a j (inr (m, l, e, is)) = inr (m, omega arith, e, is)

    home_less : (cells : List (Option Firing)) (a j : ℕ) →
        (cell_of cells j ≡ Some (firing queue i) → (firing queue i).actor ≡ a → ⊥) →
        IsHomeFor before queue cells (i + 1) a j → IsHomeFor before queue cells i a j
    home_less cells a j other (inl e) = inl e
    home_less cells a j other (inr (m, l, e, is)) = go (cases_lt m i)
      where
        go : (m < i) ⊎ (i ≤ m) → IsHomeFor before queue cells i a j
        go (inl low) = inr (m, low, e, is)
        go (inr high) =
            let same : m ≡ i = omega arith in
            absurd (other (subst (λ m. cell_of cells j ≡ Some (firing queue m)) same e)
            (subst (λ m. (firing queue m).actor ≡ a) same is))

    -- it has no place, and waits
    one_waits : ((j : ℕ) → IsPlace width (λ m. idle m × IsLeft queue b.cells i m) (load actors weight b.home)
        (b.home (firing queue i).actor) j → ⊥) → HasPlaced (i + 1)
    one_waits nowhere = record {
      cells = b.cells;
      home = b.home;
      each = each_more b.cells (λ m j l. (λ e. e, λ e. e))
          (λ j. (λ e. absurd (fresh j e), λ place. absurd (nowhere j place)));
      only = λ j f e. let w = b.only j f e in (w.0, omega (arith, w.1), w.2);
      home_is = λ a j l. (
        λ e. home_more b.cells a j ((b.home_is a j l).0 e),
        λ h. (b.home_is a j l).1 (home_less b.cells a j (λ e _. fresh j e) h),
      );
      inside = b.inside;
      wide = b.wide;
    }

    -- it stands in its place
    module _ (c : ℕ) (place : IsPlace width (λ m. idle m × IsLeft queue b.cells i m) (load actors weight b.home)
        (b.home (firing queue i).actor) c) where
      abbrev cells : List (Option Firing)
      cells = set b.cells c (Some (firing queue i))

      abbrev home : ℕ → Option ℕ
      home a = cond (eqb a (firing queue i).actor) (Some c) (b.home a)

      there : cell_of cells c ≡ Some (firing queue i)
      there = get_or-set_same b.cells c (Some (firing queue i)) None (omega (arith, place.known, b.wide))

      other : (j : ℕ) → (j ≡ c → ⊥) → cell_of cells j ≡ cell_of b.cells j
      other j ne = get_or-set_other b.cells c j (Some (firing queue i)) None ne

      only_there : (j : ℕ) → cell_of cells j ≡ Some (firing queue i) → j ≡ c
      only_there j e = go (cases_eq j c)
        where
          go : (j ≡ c) ⊎ (j ≡ c → ⊥) → j ≡ c
          go (inl same) = same
          go (inr ne) = absurd (fresh j (sym (other j ne) ∙ e))

      alike : AreAlike queue i b.cells cells
      alike m j l = go (cases_eq j c)
        where
          go : (j ≡ c) ⊎ (j ≡ c → ⊥) →
              (cell_of b.cells j ≡ Some (firing queue m)) ↔ (cell_of cells j ≡ Some (firing queue m))
          go (inl same) = (
            λ e. absurd (place.is_free.1 m l (ap (cell_of b.cells) (sym same) ∙ e)),
            λ e. absurd (once m i l here
                (sym (same_Some (firing queue i) (firing queue m) (sym there ∙ (ap (cell_of cells) (sym same) ∙ e))))),
          )
          go (inr ne) = (λ e. other j ne ∙ e, λ e. sym (other j ne) ∙ e)

      stands : (j : ℕ) → (cell_of cells j ≡ Some (firing queue i)) ↔ IsPlace width
          (λ m. idle m × IsLeft queue b.cells i m) (load actors weight b.home) (b.home (firing queue i).actor) j
      stands j = (
        λ e. subst (IsPlace width (λ m. idle m × IsLeft queue b.cells i m) (load actors weight b.home)
            (b.home (firing queue i).actor)) (sym (only_there j e)) place,
        λ q. ap (cell_of cells) (place_once width (λ m. idle m × IsLeft queue b.cells i m)
            (load actors weight b.home) (b.home (firing queue i).actor) j c q place) ∙ there,
      )

      own_home : (a : ℕ) → a ≡ (firing queue i).actor → home a ≡ Some c
      own_home a e = rw (eq-eqb a (firing queue i).actor e)

      other_home : (a : ℕ) → (a ≡ (firing queue i).actor → ⊥) → home a ≡ b.home a
      other_home a ne = rw (ne_eqb a (firing queue i).actor ne)

      -- a home that the firing's actor had is that column
      had : (j : ℕ) → b.home (firing queue i).actor ≡ Some j → j ≡ c
      had j e = go place.chosen
        where
          go : (b.home (firing queue i).actor ≡ Some c) ⊎ ((b.home (firing queue i).actor ≡ None)
              × IsLeast width (λ m. idle m × IsLeft queue b.cells i m) (load actors weight b.home) c) → j ≡ c
          go (inl g) = same_Some j c (sym e ∙ g)
          go (inr (n, _)) = absurd (none-some j (sym n ∙ e))

      home_then : (a j : ℕ) → a < actors → (a ≡ (firing queue i).actor) ⊎ (a ≡ (firing queue i).actor → ⊥) →
          (home a ≡ Some j) ↔ IsHomeFor before queue cells (i + 1) a j
      home_then a j l (inr ne) = (
        λ e. home_more cells a j ((home_alike queue i b.cells cells alike before a j).0
            ((b.home_is a j l).0 (sym (other_home a ne) ∙ e))),
        λ h. other_home a ne ∙ (b.home_is a j l).1 ((home_alike queue i b.cells cells alike before a j).1
            (home_less cells a j (λ _ is. ne (sym is)) h)),
      )
      home_then a j l (inl own) = (
        λ e. inr (
          i,
          omega arith,
          ap (cell_of cells) (sym (same_Some c j (sym (own_home a own) ∙ e))) ∙ there,
          sym own,
        ),
        λ h. own_home a own ∙ ap Some (sym (found (cases_eq j c) h)),
      )
        where
          found : (j ≡ c) ⊎ (j ≡ c → ⊥) → IsHomeFor before queue cells (i + 1) a j → j ≡ c
          found (inl same) h = same
          found (inr ne) h = had j (ap b.home (sym own) ∙ (b.home_is a j l).1
              ((home_alike queue i b.cells cells alike before a j).1
              (home_less cells a j (λ e _. ne (only_there j e)) h)))

      inside_then : (a j : ℕ) → a < actors → (a ≡ (firing queue i).actor) ⊎ (a ≡ (firing queue i).actor → ⊥) →
          home a ≡ Some j → j < width
      inside_then a j l (inl own) e =
          subst (λ j. j < width) (same_Some c j (sym (own_home a own) ∙ e)) place.known
      inside_then a j l (inr ne) e = b.inside a j l (sym (other_home a ne) ∙ e)

      only_then : (j : ℕ) (f : Firing) → (j ≡ c) ⊎ (j ≡ c → ⊥) → cell_of cells j ≡ Some f →
          (p : ℕ) × (p < i + 1) × (firing queue p ≡ f)
      only_then j f (inl same) e =
          (i, omega arith, same_Some (firing queue i) f (sym there ∙ (ap (cell_of cells) (sym same) ∙ e)))
      only_then j f (inr ne) e = let w = b.only j f (sym (other j ne) ∙ e) in (w.0, omega (arith, w.1), w.2)

      one_stands : HasPlaced (i + 1)
      one_stands = record {
        cells = cells;
        home = home;
        each = each_more cells alike stands;
        only = λ j f e. only_then j f (cases_eq j c) e;
        home_is = λ a j l. home_then a j l (cases_eq a (firing queue i).actor);
        inside = λ a j l e. inside_then a j l (cases_eq a (firing queue i).actor) e;
        wide = length-set b.cells c (Some (firing queue i)) ∙ b.wide;
      }

    one_placed : ((c : ℕ) × IsPlace width (λ m. idle m × IsLeft queue b.cells i m) (load actors weight b.home)
        (b.home (firing queue i).actor) c) ⊎ ((c : ℕ) → IsPlace width (λ m. idle m × IsLeft queue b.cells i m)
        (load actors weight b.home) (b.home (firing queue i).actor) c → ⊥) → HasPlaced (i + 1)
    one_placed (inl (c, place)) = one_stands c place
    one_placed (inr nowhere) = one_waits nowhere

    more_placed : (firing queue i).actor < actors → (HasPlaced (i + 1) → ⊥) → ⊥
    more_placed known none = decided_below (λ m. idle m × IsLeft queue b.cells i m) width (λ decide. none (one_placed
        (place_or_none width (λ m. idle m × IsLeft queue b.cells i m) (load actors weight b.home)
        (b.home (firing queue i).actor) decide (λ k e. b.inside (firing queue i).actor k known e))))

  module _ (once : (p m : ℕ) → p < m → m < length queue → firing queue p ≡ firing queue m → ⊥)
      (known : (p : ℕ) → p < length queue → (firing queue p).actor < actors)
      (inside : (a j : ℕ) → a < actors → before a ≡ Some j → j < width) where
    placed_to : (i : ℕ) → i ≤ length queue → (HasPlaced i → ⊥) → ⊥
    placed_to zero h none = none (none_placed inside)
    placed_to (suc i) h none = placed_to i (omega arith) (λ b. more_placed once i (omega arith) b
        (known i (omega arith)) (λ more. none (subst HasPlaced (let e : i + 1 ≡ suc i = omega arith in e) more)))

    pub has_placed : (HasPlaced (length queue) → ⊥) → ⊥
    has_placed none = placed_to (length queue) (omega arith) none
