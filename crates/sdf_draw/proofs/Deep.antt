-- The depths of the actors that have fired so far.
use Rattle.std.proofs.Common.{◌≡◌, ◌≢◌, ℕ, ◌+◌, ◌-◌, ◌≤◌, ◌<◌, ◌⊎◌, List, length, get_or, inl, inr, subst, sym, ap, ◌∙◌}
use Rattle.std.proofs.Common.{arith}
use Rattle.std.specs.List.{Contains}
use Rattle.std.proofs.lemmas.Bool.{cases_lt, cases_eq}
use Rattle.std.proofs.lemmas.List.{get_or_default}
use Rattle.sdf_graph.specs.Rates.{Rates}
use Rattle.sdf_times.specs.Times.{IsGreatest}
use Rattle.sdf_draw.specs.Depths.{IsSooner, LeadsOn, IsDepth, AreDepths}
use Rattle.sdf_draw.specs.Feeds.{IsInDepth}
use Rattle.sdf_draw.proofs.Greatest.{greatest_same, greatest_least}

-- depths after the first i firings: an actor has one, above 0, where it is among these
pub record IsDeepSoFar (r : Rates) (order : List ℕ) (i : ℕ) (depths : List ℕ) : Type 0 where
  pub all : length depths ≡ r.actors
  pub unseen : (a : ℕ) → get_or depths a 0 ≡ 0 → (j : ℕ) → j < i → get_or order j 0 ≡ a → ⊥
  pub seen : (a : ℕ) → 0 < get_or depths a 0 → (j : ℕ) × (j < i) × (get_or order j 0 ≡ a)
  pub each : (a : ℕ) → 0 < get_or depths a 0 → IsDepth r order (λ b. get_or depths b 0) a
  pub small : (a : ℕ) → get_or depths a 0 ≤ i

pub at_zero : (xs : List ℕ) (x : ℕ) → Contains xs x → (k : ℕ) × (k < length xs) × (get_or xs k 0 ≡ x)
at_zero xs x w = (w.0, w.1, get_or_default xs w.0 0 x w.1 ∙ w.2)

-- an actor that fires sooner than one which is seen is seen
sooner_seen : (r : Rates) (order depths : List ℕ) (i a b : ℕ) → IsDeepSoFar r order i depths →
    0 < get_or depths b 0 → IsSooner order a b → get_or depths a 0 ≡ 0 → ⊥
sooner_seen r order depths i a b so has s none = at (so.seen b has)
  where
    place : (j : ℕ) → j < i → get_or order j 0 ≡ b → (s.place < j) ⊎ (j ≤ s.place) → ⊥
    place j low is (inl before) = so.unseen a none s.place (omega arith) s.fires
    place j low is (inr past) = s.not_yet j past is

    at : (j : ℕ) × (j < i) × (get_or order j 0 ≡ b) → ⊥
    at w = place w.0 w.1 w.2 (cases_lt s.place w.0)

-- no actor fires sooner than itself
not_sooner : (order : List ℕ) (a b : ℕ) → IsSooner order a b → a ≡ b → ⊥
not_sooner order a b s e = s.not_yet s.place (omega arith) (s.fires ∙ e)

-- depths that are the same where it matters
depth_same : (r : Rates) (order : List ℕ) (f g : ℕ → ℕ) (a : ℕ) → IsDepth r order f a →
    ((c : ℕ) → LeadsOn r order c a → f (r.source c) ≡ g (r.source c)) → f a ≡ g a → IsDepth r order g a
depth_same r order f g a w same here = record {
  before = w.before;
  greatest = greatest_same (λ u. (c : ℕ) × LeadsOn r order c a × (f (r.source c) ≡ u))
      (λ u. (c : ℕ) × LeadsOn r order c a × (g (r.source c) ≡ u)) w.before
      (λ u _ p. (p.0, p.1, sym (same p.0 p.1) ∙ p.2)) (λ u _ q. (q.0, q.1, same q.0 q.1 ∙ q.2)) w.greatest;
  is = sym here ∙ w.is;
}

module _ (r : Rates) (order old new : List ℕ) (i a : ℕ) (so : IsDeepSoFar r order i old) (low : i < length order)
    (at : get_or order i 0 ≡ a) (all : length new ≡ length old)
    (others : (b : ℕ) → b ≢ a → get_or new b 0 ≡ get_or old b 0) (some : 0 < get_or new a 0)
    (kept : 0 < get_or old a 0 → get_or new a 0 ≡ get_or old a 0)
    (first : get_or old a 0 ≡ 0 → (w : ℕ) → get_or new a 0 ≡ w + 1 → IsGreatest (IsInDepth r old a) w) where
  -- each one that had a depth keeps it
  stays : (b : ℕ) → 0 < get_or old b 0 → get_or new b 0 ≡ get_or old b 0
  stays b has = go (cases_eq b a)
    where
      go : (b ≡ a) ⊎ (b ≢ a) → get_or new b 0 ≡ get_or old b 0
      go (inl e) = subst (λ k. get_or new k 0 ≡ get_or old k 0) (sym e) (kept (subst (λ k. 0 < get_or old k 0) e has))
      go (inr n) = others b n

  -- what has none now had none
  none_before : (b : ℕ) → get_or new b 0 ≡ 0 → get_or old b 0 ≡ 0
  none_before b none = go (cases_lt 0 (get_or old b 0))
    where
      go : (0 < get_or old b 0) ⊎ (get_or old b 0 ≤ 0) → get_or old b 0 ≡ 0
      go (inl has) = let e = stays b has in omega (arith, e)
      go (inr low) = omega arith

  unseen_more : (b : ℕ) → get_or new b 0 ≡ 0 → (j : ℕ) → j < i + 1 → get_or order j 0 ≡ b → ⊥
  unseen_more b none j l is = go (cases_lt j i)
    where
      go : (j < i) ⊎ (i ≤ j) → ⊥
      go (inl before) = so.unseen b (none_before b none) j before is
      go (inr past) =
          let here : j ≡ i = omega arith in
          let same : b ≡ a = sym is ∙ (ap (λ k. get_or order k 0) here ∙ at) in
          let now : get_or new a 0 ≡ 0 = subst (λ k. get_or new k 0 ≡ 0) same none in
          omega arith

  seen_more : (b : ℕ) → 0 < get_or new b 0 → (j : ℕ) × (j < i + 1) × (get_or order j 0 ≡ b)
  seen_more b has = go (cases_eq b a)
    where
      go : (b ≡ a) ⊎ (b ≢ a) → (j : ℕ) × (j < i + 1) × (get_or order j 0 ≡ b)
      go (inl e) = (i, omega arith, at ∙ sym e)
      go (inr n) = let w = so.seen b (subst (λ k. 0 < k) (others b n) has) in (w.0, omega (arith, w.1), w.2)

  -- the depth of one that had it
  each_old : (b : ℕ) → 0 < get_or old b 0 → IsDepth r order (λ k. get_or new k 0) b
  each_old b has =
      depth_same r order (λ k. get_or old k 0) (λ k. get_or new k 0) b (so.each b has)
      (λ c leads. sym (same c leads (cases_lt 0 (get_or old (r.source c) 0)))) (sym (stays b has))
    where
      same : (c : ℕ) → LeadsOn r order c b → (0 < get_or old (r.source c) 0) ⊎ (get_or old (r.source c) 0 ≤ 0) →
          get_or new (r.source c) 0 ≡ get_or old (r.source c) 0
      same c leads (inl there) = stays (r.source c) there
      same c leads (inr none) =
          absurd (sooner_seen r order old i (r.source c) b so has leads.sooner (omega arith))

  -- the depth of the actor that fires first now
  each_new : get_or old a 0 ≡ 0 → IsDepth r order (λ k. get_or new k 0) a
  each_new none = record {
    before = get_or new a 0 - 1;
    greatest = greatest_same (IsInDepth r old a)
        (λ u. (c : ℕ) × LeadsOn r order c a × (get_or new (r.source c) 0 ≡ u)) (get_or new a 0 - 1)
        (λ u pos p. to u pos p.0 p.1 p.2 p.3) (λ u pos q. from u q.0 q.1 q.2)
        (first none (get_or new a 0 - 1) (omega arith));
    is = omega arith;
  }
    where
      to : (u : ℕ) → 0 < u → (c : ℕ) → c < r.channels → r.target c ≡ a → get_or old (r.source c) 0 ≡ u →
          (c : ℕ) × LeadsOn r order c a × (get_or new (r.source c) 0 ≡ u)
      to u pos c known into e =
          let there : 0 < get_or old (r.source c) 0 = omega (arith, e) in
          let w = so.seen (r.source c) there in (
            c,
            record {
              known = known;
              into = into;
              sooner = record {
                place = w.0;
                within = omega (arith, w.1);
                fires = w.2;
                not_yet = λ k l f. so.unseen a none k (omega (arith, w.1)) f;
              };
            },
            stays (r.source c) there ∙ e,
          )

      from : (u c : ℕ) → LeadsOn r order c a → get_or new (r.source c) 0 ≡ u → IsInDepth r old a u
      from u c leads e = (
        c,
        leads.known,
        leads.into,
        sym (others (r.source c) (λ same. not_sooner order (r.source c) a leads.sooner same)) ∙ e,
      )

  each_more : (b : ℕ) → 0 < get_or new b 0 → IsDepth r order (λ k. get_or new k 0) b
  each_more b has = go (cases_lt 0 (get_or old b 0)) (cases_eq b a)
    where
      go : (0 < get_or old b 0) ⊎ (get_or old b 0 ≤ 0) → (b ≡ a) ⊎ (b ≢ a) → IsDepth r order (λ k. get_or new k 0) b
      go (inl there) e = each_old b there
      go (inr none) (inl e) =
          let before : get_or old a 0 ≡ 0 = subst (λ k. get_or old k 0 ≡ 0) e (omega arith) in
          subst (IsDepth r order (λ k. get_or new k 0)) (sym e) (each_new before)
      go (inr none) (inr n) = let e = others b n in absurd (omega (arith, e))

  small_more : (b : ℕ) → get_or new b 0 ≤ i + 1
  small_more b = go (cases_lt 0 (get_or old b 0)) (cases_eq b a)
    where
      next : get_or old a 0 ≡ 0 → get_or new a 0 ≤ i + 1
      next none =
          let g = first none (get_or new a 0 - 1) (omega arith) in
          let l : get_or new a 0 - 1 ≤ i = greatest_least (IsInDepth r old a) (get_or new a 0 - 1) i g
          (λ u p. subst (λ k. k ≤ i) p.3 (so.small (r.source p.0))) in
          omega arith

      go : (0 < get_or old b 0) ⊎ (get_or old b 0 ≤ 0) → (b ≡ a) ⊎ (b ≢ a) → get_or new b 0 ≤ i + 1
      go (inl there) e = let s = stays b there in let l = so.small b in omega (arith, s, l)
      go (inr none) (inl e) =
          let before : get_or old a 0 ≡ 0 = subst (λ k. get_or old k 0 ≡ 0) e (omega arith) in
          subst (λ k. get_or new k 0 ≤ i + 1) (sym e) (next before)
      go (inr none) (inr n) = let s = others b n in omega (arith, s)

  pub deep_more : IsDeepSoFar r order (i + 1) new
  deep_more = record {
    all = all ∙ so.all;
    unseen = unseen_more;
    seen = seen_more;
    each = each_more;
    small = small_more;
  }

pub deep_all : (r : Rates) (order depths : List ℕ) (i : ℕ) → IsDeepSoFar r order i depths → i ≡ length order →
    AreDepths r order depths
deep_all r order depths i so end = record {
  all = so.all;
  each = λ a known has. go a (at_zero order a has) (cases_lt 0 (get_or depths a 0));
}
  where
    go : (a : ℕ) → (k : ℕ) × (k < length order) × (get_or order k 0 ≡ a) →
        (0 < get_or depths a 0) ⊎ (get_or depths a 0 ≤ 0) → IsDepth r order (λ b. get_or depths b 0) a
    go a w (inl there) = so.each a there
    go a w (inr none) = absurd (so.unseen a (omega arith) w.0 (omega (arith, w.1)) w.2)
