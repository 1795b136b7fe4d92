-- How the list of runnable actors goes on over a firing.
use Rattle.std.proofs.Common.{◌≡◌, ℕ, ◌+◌, ◌≤◌, ◌<◌, List, [], length, get_or, slice_index, set, refl, sym}
use Rattle.std.proofs.Common.{ap, ◌∙◌, subst, inl, inr, ◌⊎◌, arith}
use Rattle.std.specs.List.{Contains}
use Rattle.std.specs.List.Sorted.{IsStrictlyIncreasing}
use Rattle.std.proofs.lemmas.List.{get_or-set_same, get_or-set_other}
use Rattle.std.proofs.lemmas.Bool.{cases_eq}
use Rattle.sdf_graph.specs.Rates.{Rates, IsSound, GraphValue, rates, channel}
use Rattle.std.specs.Prelude.{Option, Some, None}
use Rattle.sdf_graph.specs.Sequences.{IsReady, IsRunnable}
use Rattle.sdf_sched.specs.ClassS.{HasStatus, listed, over, waits, IsTested, AreCandidates}
use Rattle.sdf_sched.proofs.Greedy.{IsEnabled_rises}
use Rattle.sdf_sched.proofs.Updates.{place_of}

-- xs lists runnable actors alone, and all of them but for some that wait for channels of `later`
pub record IsCaughtUp (r : Rates) (q k : ℕ → ℕ) (later : ℕ → Type 0) (xs : List ℕ) (ws : List (Option ℕ)) : Type 0 where
  pub rising : IsStrictlyIncreasing xs
  pub each : (b : ℕ) → Contains xs b → IsRunnable r q k b
  pub all : length ws ≡ r.actors
  pub placed : (b : ℕ) → b < r.actors → HasStatus r q k later xs ws b

module _ (r : Rates) (q k : ℕ → ℕ) where
  wider : (later : ℕ → Type 0) (xs : List ℕ) (ws : List (Option ℕ)) (a : ℕ) → HasStatus r q k (λ _. ⊥) xs ws a →
      HasStatus r q k later xs ws a
  wider later xs ws a (listed h) = listed h
  wider later xs ws a (over h) = over h
  wider later xs ws a (waits c e l t (inl x)) = absurd x
  wider later xs ws a (waits c e l t (inr short)) = waits c e l t (inr short)

  -- where an actor stands beside one that is tested
  module _ (xs ys : List ℕ) (ws vs : List (Option ℕ)) (a : ℕ) (up : IsTested r q k a xs ws ys vs) where
    beside : (later then : ℕ → Type 0) (b : ℕ) → (b ≡ a → ⊥) → ((c : ℕ) → r.target c ≡ b → later c → then c) →
        HasStatus r q k later xs ws b → HasStatus r q k then ys vs b
    beside later then b ne move (listed h) = listed ((up.list.others b ne).1 h)
    beside later then b ne move (over h) = over h
    beside later then b ne move (waits c e l t (inl x)) = waits c (up.others b ne ∙ e) l t (inl (move c t x))
    beside later then b ne move (waits c e l t (inr short)) = waits c (up.others b ne ∙ e) l t (inr short)

module _ (r : Rates) (sound : IsSound r) (q k m : ℕ → ℕ) (a : ℕ) (own : m a ≡ k a + 1)
    (other : (b : ℕ) → (b ≡ a → ⊥) → m b ≡ k b) where
  rises : (b : ℕ) → k b ≤ m b
  rises b = go (cases_eq b a)
    where
      go : (b ≡ a) ⊎ (b ≡ a → ⊥) → k b ≤ m b
      go (inl e) = subst (λ b. k b ≤ m b) (sym e) (omega arith)
      go (inr ne) = omega (arith, other b ne)

  -- another actor stays runnable
  stays_runnable : (b : ℕ) → (b ≡ a → ⊥) → IsRunnable r q k b → IsRunnable r q m b
  stays_runnable b ne on = (
    on.0,
    omega (arith, on.1, other b ne),
    IsEnabled_rises r sound k m b (sym (other b ne)) (λ d l. rises d) on.2,
  )

  -- a channel that holds too little does so still, where a does not feed it
  still_short : (c b : ℕ) → r.target c ≡ b → (b ≡ a → ⊥) → (r.source c ≡ a → ⊥) → (IsReady r k c → ⊥) →
      IsReady r m c → ⊥
  still_short c b t ne apart short ready =
      let put : m (r.source c) ≡ k (r.source c) = other (r.source c) apart in
      let taken : m (r.target c) ≡ k (r.target c) = ap m t ∙ (other b ne ∙ ap k (sym t)) in
      short (subst (λ n. r.consumed c (n + 1) ≤ r.initial c + r.produced c (k (r.source c))) taken
      (subst (λ n. r.consumed c (m (r.target c) + 1) ≤ r.initial c + r.produced c n) put ready))

  -- with a itself tested again, only what it feeds may be missing
  pub fired : (xs ys : List ℕ) (ws vs : List (Option ℕ)) → AreCandidates r q k xs ws →
      IsTested r q m a xs ws ys vs →
      (later : ℕ → Type 0) → ((c : ℕ) → c < r.channels → r.source c ≡ a → later c) → IsCaughtUp r q m later ys vs
  fired xs ys ws vs was up later all = record {
    rising = up.list.rising;
    each = λ b h. each b h (cases_eq b a);
    all = up.all ∙ was.all;
    placed = λ b l. place b (cases_eq b a) (was.placed b l);
  }
    where
      each : (b : ℕ) → Contains ys b → (b ≡ a) ⊎ (b ≡ a → ⊥) → IsRunnable r q m b
      each b h (inl e) = subst (IsRunnable r q m) (sym e) (up.list.here.0 (subst (Contains ys) e h))
      each b h (inr ne) = stays_runnable b ne ((was.list.each b).0 ((up.list.others b ne).0 h))

      waiting : (b c : ℕ) → (b ≡ a → ⊥) → get_or ws b None ≡ Some c → c < r.channels → r.target c ≡ b →
          (IsReady r k c → ⊥) → (r.source c ≡ a) ⊎ (r.source c ≡ a → ⊥) → HasStatus r q m later ys vs b
      waiting b c ne e l t short (inl fed) = waits c (up.others b ne ∙ e) l t (inl (all c l fed))
      waiting b c ne e l t short (inr apart) =
          waits c (up.others b ne ∙ e) l t (inr (still_short c b t ne apart short))

      place : (b : ℕ) → (b ≡ a) ⊎ (b ≡ a → ⊥) → HasStatus r q k (λ _. ⊥) xs ws b → HasStatus r q m later ys vs b
      place b (inl e) z = subst (HasStatus r q m later ys vs) (sym e) (wider r q m later ys vs a up.here)
      place b (inr ne) (listed h) = listed ((up.list.others b ne).1 h)
      place b (inr ne) (over h) = over (omega (arith, other b ne))
      place b (inr ne) (waits c e l t (inl x)) = absurd x
      place b (inr ne) (waits c e l t (inr short)) = waiting b c ne e l t short (cases_eq (r.source c) a)

module _ (r : Rates) (q k : ℕ → ℕ) (d : ℕ) (later then : ℕ → Type 0)
    (rest : (c : ℕ) → (c ≡ d → ⊥) → later c → then c) (xs : List ℕ) (ws : List (Option ℕ))
    (was : IsCaughtUp r q k later xs ws) where
  -- with the target of channel d tested again, d is not among the later ones any more
  pub tested : (ys : List ℕ) (vs : List (Option ℕ)) → IsTested r q k (r.target d) xs ws ys vs →
      IsCaughtUp r q k then ys vs
  tested ys vs up = record {
    rising = up.list.rising;
    each = λ b h. each b h (cases_eq b (r.target d));
    all = up.all ∙ was.all;
    placed = λ b l. place b l (cases_eq b (r.target d));
  }
    where
      each : (b : ℕ) → Contains ys b → (b ≡ r.target d) ⊎ (b ≡ r.target d → ⊥) → IsRunnable r q k b
      each b h (inl e) = subst (IsRunnable r q k) (sym e) (up.list.here.0 (subst (Contains ys) e h))
      each b h (inr ne) = was.each b ((up.list.others b ne).0 h)

      place : (b : ℕ) → b < r.actors → (b ≡ r.target d) ⊎ (b ≡ r.target d → ⊥) → HasStatus r q k then ys vs b
      place b l (inl e) = subst (HasStatus r q k then ys vs) (sym e) (wider r q k then ys vs (r.target d) up.here)
      place b l (inr ne) = beside r q k xs ys ws vs (r.target d) up later then b ne
          (λ c t x. rest c (λ is. ne (sym t ∙ ap r.target is)) x) (was.placed b l)

  -- nor is it where its target does not wait for it
  pub passed : (get_or ws (r.target d) None ≡ Some d → ⊥) → IsCaughtUp r q k then xs ws
  passed other = record {
    rising = was.rising;
    each = was.each;
    all = was.all;
    placed = λ b l. place b (was.placed b l);
  }
    where
      place : (b : ℕ) → HasStatus r q k later xs ws b → HasStatus r q k then xs ws b
      place b (listed h) = listed h
      place b (over h) = over h
      place b (waits c e l t (inl x)) = waits c e l t (inl (rest c (λ is. other
          (ap (λ b. get_or ws b None) (sym (ap r.target is) ∙ t) ∙ (e ∙ ap (λ c. Some c) is))) x))
      place b (waits c e l t (inr short)) = waits c e l t (inr short)

-- with none left, the list is whole
pub all_caught_up : (r : Rates) (q k : ℕ → ℕ) (later : ℕ → Type 0) → ((c : ℕ) → later c → ⊥) → (xs : List ℕ)
    (ws : List (Option ℕ)) → IsCaughtUp r q k later xs ws → AreCandidates r q k xs ws
all_caught_up r q k later none xs ws was = record {
  list = record {
    rising = was.rising;
    each = λ b. (was.each b, λ on. listed_of b on (was.placed b on.0));
  };
  all = was.all;
  placed = λ b l. place b (was.placed b l);
}
  where
    listed_of : (b : ℕ) → IsRunnable r q k b → HasStatus r q k later xs ws b → Contains xs b
    listed_of b on (listed h) = h
    listed_of b on (over h) = absurd (omega (arith, on.1))
    listed_of b on (waits c e l t (inl x)) = absurd (none c x)
    listed_of b on (waits c e l t (inr short)) = absurd (short (on.2 c l t))

    place : (b : ℕ) → HasStatus r q k later xs ws b → HasStatus r q k (λ _. ⊥) xs ws b
    place b (listed h) = listed h
    place b (over h) = over h
    place b (waits c e l t (inl x)) = absurd (none c x)
    place b (waits c e l t (inr short)) = waits c e l t (inr short)

-- the runnable ones of the first n actors
pub record IsCollected (r : Rates) (q k : ℕ → ℕ) (n : ℕ) (xs : List ℕ) (ws : List (Option ℕ)) : Type 0 where
  pub rising : IsStrictlyIncreasing xs
  pub early : (a : ℕ) → Contains xs a → a < n
  pub each : (a : ℕ) → Contains xs a → IsRunnable r q k a
  pub all : length ws ≡ r.actors
  pub placed : (a : ℕ) → a < n → HasStatus r q k (λ _. ⊥) xs ws a

pub collected_none : (r : Rates) (q k : ℕ → ℕ) (xs : List ℕ) (ws : List (Option ℕ)) → xs ≡ [] →
    length ws ≡ r.actors → IsCollected r q k 0 xs ws
collected_none r q k xs ws none long = record {
  rising = λ i h. absurd (omega (arith, ap length none));
  early = λ a h. absurd (omega (arith, ap length none, h.1));
  each = λ a h. absurd (omega (arith, ap length none, h.1));
  all = long;
  placed = λ a h. absurd (omega arith);
}

pub collected_more : (r : Rates) (q k : ℕ → ℕ) (n : ℕ) (xs ys : List ℕ) (ws vs : List (Option ℕ)) →
    IsCollected r q k n xs ws → IsTested r q k n xs ws ys vs → IsCollected r q k (n + 1) ys vs
collected_more r q k n xs ys ws vs was up = record {
  rising = up.list.rising;
  early = λ a h. early a h (cases_eq a n);
  each = λ a h. each a h (cases_eq a n);
  all = up.all ∙ was.all;
  placed = λ a h. place a h (cases_eq a n);
}
  where
    early : (a : ℕ) → Contains ys a → (a ≡ n) ⊎ (a ≡ n → ⊥) → a < n + 1
    early a h (inl e) = omega arith
    early a h (inr ne) = omega (arith, was.early a ((up.list.others a ne).0 h))

    each : (a : ℕ) → Contains ys a → (a ≡ n) ⊎ (a ≡ n → ⊥) → IsRunnable r q k a
    each a h (inl e) = subst (IsRunnable r q k) (sym e) (up.list.here.0 (subst (Contains ys) e h))
    each a h (inr ne) = was.each a ((up.list.others a ne).0 h)

    place : (a : ℕ) → a < n + 1 → (a ≡ n) ⊎ (a ≡ n → ⊥) → HasStatus r q k (λ _. ⊥) ys vs a
    place a h (inl e) = subst (HasStatus r q k (λ _. ⊥) ys vs) (sym e) up.here
    place a h (inr ne) = beside r q k xs ys ws vs n up (λ _. ⊥) (λ _. ⊥) a ne
        (λ c t x. x) (was.placed a (omega arith))

pub collected_all : (r : Rates) (q k : ℕ → ℕ) (n : ℕ) (xs : List ℕ) (ws : List (Option ℕ)) → r.actors ≤ n →
    IsCollected r q k n xs ws → AreCandidates r q k xs ws
collected_all r q k n xs ws whole was = all_caught_up r q k (λ _. ⊥) (λ c x. x) xs ws (record {
  rising = was.rising;
  each = was.each;
  all = was.all;
  placed = λ a h. was.placed a (omega arith);
})

-- `fired`, of counts that are kept in a list
pub after_firing : (g h : GraphValue) → h ≡ g → IsSound (rates g) → (q : ℕ → ℕ) (before now : List ℕ) (a : ℕ) →
    a < length before → now ≡ set before a (get_or before a 0 + 1) →
    (xs ys : List ℕ) (ws vs : List (Option ℕ)) → AreCandidates (rates g) q (slice_index before) xs ws →
    IsTested (rates h) q (slice_index now) a xs ws ys vs →
    (later : ℕ → Type 0) → ((c : ℕ) → c < length g.channels → (channel g c).from ≡ a → later c) →
    IsCaughtUp (rates g) q (slice_index now) later ys vs
after_firing g h same sound q before now a known is xs ys ws vs was up later all =
    fired (rates g) sound q (slice_index before) (slice_index now) a
    (ap (λ (n : List ℕ). get_or n a 0) is ∙ get_or-set_same before a (get_or before a 0 + 1) 0 known)
    (λ b ne. ap (λ (n : List ℕ). get_or n b 0) is ∙ get_or-set_other before a b (get_or before a 0 + 1) 0 ne)
    xs ys ws vs was (subst (λ (s : GraphValue). IsTested (rates s) q (slice_index now) a xs ws ys vs) same up) later all

-- c stands in xs at i or behind
abbrev pub IsFrom : List ℕ → ℕ → ℕ → Type 0
IsFrom xs i c = (j : ℕ) × ((i ≤ j) × ((j < length xs) × (get_or xs j 0 ≡ c)))

pub from_next : (xs : List ℕ) (i d c : ℕ) → get_or xs i 0 ≡ d → (c ≡ d → ⊥) → IsFrom xs i c → IsFrom xs (i + 1) c
from_next xs i d c is ne (j, (h, (l, e))) = (j, (go (cases_eq i j), (l, e)))
  where
    go : (i ≡ j) ⊎ (i ≡ j → ⊥) → i + 1 ≤ j
    go (inl same) = absurd (ne (sym e ∙ (ap (λ j. get_or xs j 0) (sym same) ∙ is)))
    go (inr other) = omega arith

pub from_none : (xs : List ℕ) (i c : ℕ) → length xs ≤ i → IsFrom xs i c → ⊥
from_none xs i c past (j, (h, (l, e))) = omega arith

pub from_start : (xs : List ℕ) (c : ℕ) → Contains xs c → IsFrom xs 0 c
from_start xs c h = let i = place_of xs c h in (i.0, (omega arith, i.1))

module _ (g : GraphValue) (q k : ℕ → ℕ) (outs : List ℕ) (i t : ℕ) (is : t ≡ (channel g (get_or outs i 0)).to)
    (xs : List ℕ) (ws : List (Option ℕ)) (was : IsCaughtUp (rates g) q k (IsFrom outs i) xs ws) where
  rest : (c : ℕ) → (c ≡ get_or outs i 0 → ⊥) → IsFrom outs i c → IsFrom outs (i + 1) c
  rest c ne l = from_next outs i (get_or outs i 0) c refl ne l

  -- `tested`, as a loop's step tells it
  pub next_tested : (h : GraphValue) → h ≡ g → (ys : List ℕ) (vs : List (Option ℕ)) →
      IsTested (rates h) q k t xs ws ys vs → IsCaughtUp (rates g) q k (IsFrom outs (i + 1)) ys vs
  next_tested h same ys vs up =
      tested (rates g) q k (get_or outs i 0) (IsFrom outs i) (IsFrom outs (i + 1)) rest xs ws was ys vs
      (subst (λ t. IsTested (rates g) q k t xs ws ys vs) is
      (subst (λ (s : GraphValue). IsTested (rates s) q k t xs ws ys vs) same up))

  -- `passed`, as a loop's step tells it
  pub next_passed : (get_or ws t None ≡ Some (get_or outs i 0) → ⊥) →
      IsCaughtUp (rates g) q k (IsFrom outs (i + 1)) xs ws
  next_passed other = passed (rates g) q k (get_or outs i 0) (IsFrom outs i) (IsFrom outs (i + 1)) rest xs ws was
      (λ e. other (ap (λ t. get_or ws t None) is ∙ e))
