-- What can be run has self-timed starts: firing by firing in the order of ranks, of each the latest that holds it back.
use Rattle.std.proofs.Common.{◌≡◌, ℕ, zero, suc, ◌+◌, ◌/◌, ◌%◌, ◌≤◌, ◌<◌, ◌⊎◌, ◌-◌, length, inl, inr, sym, ap, ◌∙◌}
use Rattle.std.proofs.Common.{subst, arith, refl}
use Rattle.std.proofs.lemmas.Nat.{div-mul-add, mod-mul-add, mod_below}
use Rattle.std.proofs.lemmas.Bool.{cases_lt, cases_eq}
use Rattle.sdf_prec.specs.declared.firing.Firing.{Firing}
use Rattle.sdf_prec.specs.Precedence.{WaitsFor}
use Rattle.sdf_prec.specs.Tables.{firing, order, IsOfBlock}
use Rattle.sdf_times.specs.Times.{IsGreatest, end_of}
use Rattle.sdf_times.specs.SelfTimed.{Plan, later, IsAt, IsSooner, IsAheadOf, WaitsForRoom, HoldsBack, AreSelfTimed}
use Rattle.sdf_times.specs.SelfTimed.{IsPlan}
use Rattle.sdf_times.specs.Periods.{SelfTimedExist, BlocksEnd}
use Rattle.sdf_times.proofs.Cells.{place, at_place}
use Rattle.sdf_times.proofs.Greatest.{greatest_same, greatest_none}
use Rattle.sdf_times.proofs.Exists.{find, both_greatest, below_greatest, waits_test}
use Rattle.sdf_times.proofs.Ranks.{IsRank, size, at, at_once, rank_of, rank_once, place_in_block, earlier}
use Rattle.sdf_times.proofs.Certified.{of_graph}

-- of a number, if something holds
one_greatest : (A : Type 0) (x : ℕ) → A ⊎ (A → ⊥) → (t : ℕ) × IsGreatest (λ u. A × (x ≡ u)) t
one_greatest A x (inl a) = (x, record { above = λ u w. omega (arith, w.1); reached = inr (a, refl) })
one_greatest A x (inr none) = (0, greatest_none (λ u. A × (x ≡ u)) 0 refl (λ u w. none w.0))

module _ (p : Plan) where
  -- whether a channel makes one firing wait for another's room
  abbrev Lacks : Firing → Firing → ℕ → Type 0
  Lacks f g c = (p.rates.source c ≡ f.actor) × (p.rates.target c ≡ g.actor)
      × (p.rates.source c ≡ p.rates.target c → ⊥)
      × (p.caps c + p.rates.consumed c g.number < p.rates.initial c + p.rates.produced c (f.number + 1))

  lacks_pick : (f g : Firing) (c : ℕ) → (p.rates.source c ≡ f.actor) ⊎ (p.rates.source c ≡ f.actor → ⊥) →
      (p.rates.target c ≡ g.actor) ⊎ (p.rates.target c ≡ g.actor → ⊥) →
      (p.rates.source c ≡ p.rates.target c) ⊎ (p.rates.source c ≡ p.rates.target c → ⊥) →
      (p.caps c + p.rates.consumed c g.number < p.rates.initial c + p.rates.produced c (f.number + 1))
      ⊎ (p.rates.initial c + p.rates.produced c (f.number + 1) ≤ p.caps c + p.rates.consumed c g.number) →
      Lacks f g c ⊎ (Lacks f g c → ⊥)
  lacks_pick f g c (inl a) (inl b) (inr ne) (inl low) = inl (a, b, ne, low)
  lacks_pick f g c (inl a) (inl b) (inr ne) (inr high) = inr (λ w. omega (arith, w.3))
  lacks_pick f g c (inl a) (inl b) (inl same) x = inr (λ w. w.2 same)
  lacks_pick f g c (inl a) (inr nb) x y = inr (λ w. nb w.1)
  lacks_pick f g c (inr na) x y z = inr (λ w. na w.0)

  room_pick : (f g : Firing) → ((c : ℕ) × (c < p.rates.channels) × Lacks f g c)
      ⊎ ((c : ℕ) → c < p.rates.channels → Lacks f g c → ⊥) → WaitsForRoom p f g ⊎ (WaitsForRoom p f g → ⊥)
  room_pick f g (inl x) = inl (x.0, x.1, x.2.0, x.2.1, x.2.2, x.2.3)
  room_pick f g (inr none) = inr (λ w. none w.0 w.1 (w.2, w.3, w.4, w.5))

  room_test : (f g : Firing) → WaitsForRoom p f g ⊎ (WaitsForRoom p f g → ⊥)
  room_test f g = room_pick f g (find (Lacks f g) (λ c. lacks_pick f g c (cases_eq (p.rates.source c) f.actor)
      (cases_eq (p.rates.target c) g.actor) (cases_eq (p.rates.source c) (p.rates.target c))
      (cases_lt (p.caps c + p.rates.consumed c g.number) (p.rates.initial c + p.rates.produced c (f.number + 1))))
      p.rates.channels)

sooner_pick : (d k b i : ℕ) → (d < b) ⊎ (b ≤ d) → (d ≡ b) ⊎ (d ≡ b → ⊥) → (k < i) ⊎ (i ≤ k) →
    IsSooner d k b i ⊎ (IsSooner d k b i → ⊥)
sooner_pick d k b i (inl low) x y = inl (inl low)
sooner_pick d k b i (inr high) (inl same) (inl low) = inl (inr (same, low))
sooner_pick d k b i (inr high) (inl same) (inr up) = inr not
  where
    not : IsSooner d k b i → ⊥
    not (inl l) = omega arith
    not (inr (e, l)) = omega arith
sooner_pick d k b i (inr high) (inr ne) y = inr not
  where
    not : IsSooner d k b i → ⊥
    not (inl l) = omega arith
    not (inr (e, l)) = ne e

module _ (p : Plan) (ok : IsPlan p) where
  -- the firing of a rank
  abbrev nth : ℕ → Firing
  nth m = later p (m / size p ok) (firing (order p.rows) (m % size p ok))

  nth_is : (m : ℕ) (f : Firing) → IsRank p ok m f → nth m ≡ f
  nth_is m f (b, i, j, (g, e, is), rank) =
      let a = at_place p.rows i j g e in
      let block_is : m / size p ok ≡ b = ap (λ m. m / size p ok) rank
      ∙ div-mul-add b (size p ok) (place p.rows i j) a.0 in
      let place_is : m % size p ok ≡ place p.rows i j =
      ap (λ m. m % size p ok) rank ∙ mod-mul-add b (size p ok) (place p.rows i j) a.0 in
      let here : firing (order p.rows) (m % size p ok) ≡ g = ap (firing (order p.rows)) place_is ∙ a.1 in
      (λ x. later p (block_is x) (here x)) ∙ is

  nth_known : (m : ℕ) → 0 < size p ok → (nth m).actor < p.rates.actors
  nth_known m some = (ok.valid.known (m % size p ok) (mod_below m (size p ok) some)).0

  -- whether the end of one firing is waited for
  abbrev Awaits : Firing → Firing → Type 0
  Awaits g f = WaitsFor p.rates f g ⊎ IsAheadOf p g f

  ahead_pick : (g f : Firing) (d k y b i j : ℕ) → IsAt p d k y g → IsAt p b i j f → (y ≡ j) ⊎ (y ≡ j → ⊥) →
      IsSooner d k b i ⊎ (IsSooner d k b i → ⊥) → IsAheadOf p g f ⊎ (IsAheadOf p g f → ⊥)
  ahead_pick g f d k y b i j one two (inl same) (inl sooner) =
      inl (d, k, b, i, j, sooner, subst (λ y. IsAt p d k y g) same one, two)
  ahead_pick g f d k y b i j one two (inl same) (inr not) = inr out
    where
      out : IsAheadOf p g f → ⊥
      out (d', k', b', i', j', sooner, one', two') =
          let first = at_once p ok d' k' j' d k y g one' one in
          let last = at_once p ok b' i' j' b i j f two' two in
          not (as_same sooner first.0 first.1 last.0 last.1)
        where
          as_same : IsSooner d' k' b' i' → d' ≡ d → k' ≡ k → b' ≡ b → i' ≡ i → IsSooner d k b i
          as_same (inl low) ed ek eb ei = inl (omega arith)
          as_same (inr (e, low)) ed ek eb ei = inr (omega arith, omega arith)
  ahead_pick g f d k y b i j one two (inr ne) x = inr out
    where
      out : IsAheadOf p g f → ⊥
      out (d', k', b', i', j', sooner, one', two') =
          let first = at_once p ok d' k' j' d k y g one' one in
          let last = at_once p ok b' i' j' b i j f two' two in
          ne (sym first.2 ∙ last.2)

  awaits_pick : (g f : Firing) → WaitsFor p.rates f g ⊎ (WaitsFor p.rates f g → ⊥) →
      IsAheadOf p g f ⊎ (IsAheadOf p g f → ⊥) → Awaits g f ⊎ (Awaits g f → ⊥)
  awaits_pick g f (inl waits) x = inl (inl waits)
  awaits_pick g f (inr none) (inl ahead) = inl (inr ahead)
  awaits_pick g f (inr none) (inr not) = inr out
    where
      out : Awaits g f → ⊥
      out (inl waits) = none waits
      out (inr ahead) = not ahead

  awaits_test : (g f : Firing) → g.actor < p.rates.actors → f.actor < p.rates.actors → Awaits g f ⊎ (Awaits g f → ⊥)
  awaits_test g f kg kf =
      let x = at p ok g kg in
      let y = at p ok f kf in
      awaits_pick g f (waits_test p.rates f g) (ahead_pick g f x.0 x.1 x.2 y.0 y.1 y.2 x.3 y.3 (cases_eq x.2 y.2)
      (sooner_pick x.0 x.1 y.0 y.1 (cases_lt x.0 y.0) (cases_eq x.0 y.0) (cases_lt x.1 y.1)))

  abbrev Ends : (Firing → ℕ) → Firing → ℕ → Type 0
  Ends start f t = (g : Firing) × (w : ℕ) × HoldsBack p g f w × (start g + w ≡ t)

  -- of one firing
  abbrev EndsOf : (Firing → ℕ) → Firing → Firing → ℕ → Type 0
  EndsOf start g f t = (w : ℕ) × HoldsBack p g f w × (start g + w ≡ t)

  one_ends : (start : Firing → ℕ) (g f : Firing) → g.actor < p.rates.actors → f.actor < p.rates.actors →
      (t : ℕ) × IsGreatest (EndsOf start g f) t
  one_ends start g f kg kf =
      both_greatest (λ u. Awaits g f × (start g + p.cost g.actor ≡ u)) (λ u. WaitsForRoom p f g × (start g + 0 ≡ u))
      (EndsOf start g f) (one_greatest (Awaits g f) (start g + p.cost g.actor) (awaits_test g f kg kf))
      (one_greatest (WaitsForRoom p f g) (start g + 0) (room_test p f g))
      (λ u x. (p.cost g.actor, inl (refl, x.0), x.1)) (λ u x. (0, inr (refl, x.0), x.1))
      (λ u x. back u x.0 x.1 x.2)
    where
      back : (u w : ℕ) → HoldsBack p g f w → start g + w ≡ u → (Awaits g f × (start g + p.cost g.actor ≡ u))
          ⊎ (WaitsForRoom p f g × (start g + 0 ≡ u))
      back u w (inl (is, awaits)) e = inl (awaits, omega arith)
      back u w (inr (is, room)) e = inr (room, omega arith)

  some_place : (m : ℕ) (f : Firing) → IsRank p ok m f → 0 < size p ok
  some_place m f (b, i, j, x, rank) = omega (arith, place_in_block p ok b i j f x)

  latest : (start : Firing → ℕ) (f : Firing) → f.actor < p.rates.actors → (t : ℕ) × IsGreatest (Ends start f) t
  latest start f known =
      let r = rank_of p ok f known in
      let some = some_place r.0 f r.1 in
      let all = below_greatest (λ k. EndsOf start (nth k) f) (λ k. one_ends start (nth k) f (nth_known k some) known)
      r.0 in (
        all.0,
        greatest_same (λ u. (k : ℕ) × (k < r.0) × EndsOf start (nth k) f u) (Ends start f) all.0
            (λ u x. (nth x.0, x.2.0, x.2.1, x.2.2)) (λ u x. from u x.0 x.1 x.2 x.3) all.1,
      )
    where
      from : (u : ℕ) (g : Firing) (w : ℕ) → HoldsBack p g f w → start g + w ≡ u →
          (k : ℕ) × (k < (rank_of p ok f known).0) × EndsOf start (nth k) f u
      from u g w holds is =
          let r = rank_of p ok f known in
          let e = earlier p ok g f w (of_graph p ok g f w known holds) holds r.0 r.1 in
          (e.0, e.2, subst (λ g. EndsOf start g f u) (sym (nth_is e.0 g e.1)) (w, holds, is))

  -- the rank of each firing of the graph
  abbrev rank_by : (f : Firing) → (f.actor < p.rates.actors) ⊎ (p.rates.actors ≤ f.actor) → ℕ
  rank_by f (inl known) = (rank_of p ok f known).0
  rank_by f (inr other) = 0

  abbrev rank : Firing → ℕ
  rank f = rank_by f (cases_lt f.actor p.rates.actors)

  rank_by_is : (f : Firing) → f.actor < p.rates.actors →
      (x : (f.actor < p.rates.actors) ⊎ (p.rates.actors ≤ f.actor)) → IsRank p ok (rank_by f x) f
  rank_by_is f known (inl k) = (rank_of p ok f k).1
  rank_by_is f known (inr other) = absurd (omega arith)

  rank_is : (f : Firing) → f.actor < p.rates.actors → IsRank p ok (rank f) f
  rank_is f known = rank_by_is f known (cases_lt f.actor p.rates.actors)

  -- what holds a firing back has a lower rank
  rank_less : (g f : Firing) (w : ℕ) → f.actor < p.rates.actors → HoldsBack p g f w → rank g < rank f
  rank_less g f w known holds =
      let in_graph = of_graph p ok g f w known holds in
      let e = earlier p ok g f w in_graph holds (rank f) (rank_is f known) in
      let same = rank_once p ok (rank g) e.0 g (rank_is g in_graph) e.1 in
      omega (arith, e.2)

  -- the starts with that of the firing of rank m
  abbrev next_by : (Firing → ℕ) → (m : ℕ) (f : Firing) → (rank f ≡ m) ⊎ (rank f ≡ m → ⊥) →
      (f.actor < p.rates.actors) ⊎ (p.rates.actors ≤ f.actor) → ℕ
  next_by start m f (inl is) (inl known) = (latest start f known).0
  next_by start m f (inl is) (inr other) = start f
  next_by start m f (inr ne) x = start f

  abbrev next : (Firing → ℕ) → ℕ → Firing → ℕ
  next start m f = next_by start m f (cases_eq (rank f) m) (cases_lt f.actor p.rates.actors)

  next_other : (start : Firing → ℕ) (m : ℕ) (f : Firing) → (rank f ≡ m → ⊥) →
      (x : (rank f ≡ m) ⊎ (rank f ≡ m → ⊥)) (y : (f.actor < p.rates.actors) ⊎ (p.rates.actors ≤ f.actor)) →
      next_by start m f x y ≡ start f
  next_other start m f ne (inl is) y = absurd (ne is)
  next_other start m f ne (inr not) y = refl

  next_here : (start : Firing → ℕ) (m : ℕ) (f : Firing) → rank f ≡ m → f.actor < p.rates.actors →
      (x : (rank f ≡ m) ⊎ (rank f ≡ m → ⊥)) (y : (f.actor < p.rates.actors) ⊎ (p.rates.actors ≤ f.actor)) →
      IsGreatest (Ends start f) (next_by start m f x y)
  next_here start m f is known (inl e) (inl k) = (latest start f k).1
  next_here start m f is known (inl e) (inr other) = absurd (omega arith)
  next_here start m f is known (inr ne) y = absurd (ne is)

  -- starts that are the same for lower ranks
  again : (start other : Firing → ℕ) (f : Firing) → f.actor < p.rates.actors →
      ((g : Firing) → rank g < rank f → other g ≡ start g) → (t : ℕ) → IsGreatest (Ends start f) t →
      IsGreatest (Ends other f) t
  again start other f known same t g =
      greatest_same (Ends start f) (Ends other f) t
      (λ u x. (x.0, x.1, x.2, ap (λ s. s + x.1) (same x.0 (rank_less x.0 f x.1 known x.2)) ∙ x.3))
      (λ u x. (x.0, x.1, x.2, ap (λ s. s + x.1) (sym (same x.0 (rank_less x.0 f x.1 known x.2))) ∙ x.3)) g

  abbrev AreFor : ℕ → (Firing → ℕ) → Type 0
  AreFor m start = (f : Firing) → f.actor < p.rates.actors → rank f < m → IsGreatest (Ends start f) (start f)

  starts_to : ℕ → Firing → ℕ
  starts_to zero f = 0
  starts_to (suc m) f = next (starts_to m) m f

  next_same : (m : ℕ) (f : Firing) → rank f < m → starts_to (suc m) f ≡ starts_to m f
  unfolding starts_to
  next_same m f l = next_other (starts_to m) m f (λ e. omega arith) (cases_eq (rank f) m)
      (cases_lt f.actor p.rates.actors)

  are_step : (m : ℕ) → AreFor m (starts_to m) → (f : Firing) → f.actor < p.rates.actors → rank f < suc m →
      (rank f ≡ m) ⊎ (rank f ≡ m → ⊥) → IsGreatest (Ends (starts_to (suc m)) f) (starts_to (suc m) f)
  unfolding starts_to
  are_step m before f known l (inl is) =
      again (starts_to m) (starts_to (suc m)) f known (λ g low. next_same m g (omega arith)) (starts_to (suc m) f)
      (next_here (starts_to m) m f is known (cases_eq (rank f) m) (cases_lt f.actor p.rates.actors))
  are_step m before f known l (inr ne) =
      subst (IsGreatest (Ends (starts_to (suc m)) f)) (sym (next_same m f (omega arith)))
      (again (starts_to m) (starts_to (suc m)) f known (λ g low. next_same m g (omega arith)) (starts_to m f)
      (before f known (omega arith)))

  are_to : (m : ℕ) → AreFor m (starts_to m)
  are_to zero f known l = absurd (omega arith)
  are_to (suc m) f known l = are_step m (are_to m) f known l (cases_eq (rank f) m)

  stays : (e m : ℕ) (f : Firing) → rank f < m → starts_to (e + m) f ≡ starts_to m f
  stays zero m f l = let e : zero + m ≡ m = omega arith in ap (λ m. starts_to m f) e
  stays (suc e) m f l =
      let n : suc e + m ≡ suc (e + m) = omega arith in
      ap (λ m. starts_to m f) n ∙ (next_same (e + m) f (omega arith) ∙ stays e m f l)

  starts : Firing → ℕ
  starts f = starts_to (suc (rank f)) f

  settled : (m : ℕ) (f : Firing) → rank f < m → starts_to m f ≡ starts f
  unfolding starts
  settled m f l =
      let whole : m ≡ (m - suc (rank f)) + suc (rank f) = omega arith in
      ap (λ m. starts_to m f) whole ∙ stays (m - suc (rank f)) (suc (rank f)) f (omega arith)

  pub exist : (start : Firing → ℕ) × AreSelfTimed p start
  unfolding starts
  exist = (
    starts,
    λ f known. again (starts_to (suc (rank f))) starts f known
        (λ g low. sym (settled (suc (rank f)) g (omega arith))) (starts f)
        (are_to (suc (rank f)) f known (omega arith)),
  )

pub self_timed_exist : SelfTimedExist
self_timed_exist p ok = exist p ok

pub blocks_end : BlocksEnd
blocks_end p start b ok =
    let all = below_greatest (λ m u. end_of p.cost start (later p b (firing (order p.rows) m)) ≡ u)
    (λ m. (
      end_of p.cost start (later p b (firing (order p.rows) m)),
      record { above = λ u e. omega (arith, e); reached = inr refl },
    )) (length (order p.rows)) in (
      all.0,
      greatest_same (λ u. (m : ℕ) × (m < length (order p.rows))
          × (end_of p.cost start (later p b (firing (order p.rows) m)) ≡ u))
          (λ u. (f : Firing) × IsOfBlock p.rates p.firings f × (end_of p.cost start (later p b f) ≡ u)) all.0
          (λ u x. (firing (order p.rows) x.0, ok.valid.known x.0 x.1, x.2))
          (λ u x. let s = ok.valid.all x.0 x.1 in
          (s.0, s.1, ap (λ f. end_of p.cost start (later p b f)) s.2 ∙ x.2)) all.1,
    )
