-- When all have ended that a firing waits for, channel by channel.
use Rattle.std.proofs.Common.{◌≡◌, ℕ, zero, suc, ◌+◌, ◌-◌, ◌^◌, ◌≤◌, ◌<◌, ◌⊎◌, List, [], length, get_or, max, inl, inr}
use Rattle.std.proofs.Common.{sym, ap, ◌∙◌, subst, arith, refl}
use Rattle.std.proofs.lemmas.List.{get_or_default}
use Rattle.std.proofs.lemmas.Bool.{cases_lt, cases_eq}
use Rattle.sdf_graph.specs.Rates.{Rates, IsSound}
use Rattle.sdf_graph.specs.Adjacency.{ListsExactly, AreIncoming}
use Rattle.sdf_prec.specs.declared.firing.Firing.{Firing}
use Rattle.sdf_prec.specs.Precedence.{WaitsFor, IsNeeded}
use Rattle.sdf_times.specs.Times.{IsGreatest, end_of, start_in}
use Rattle.sdf_times.specs.Walks.{IsNeedEnd, IsNeedAmong, IsAmongEnd, IsPrepared}
use Rattle.sdf_times.proofs.Greatest.{greatest_more, greatest_same}

-- where no number is greater than the next one, none is greater than a later one
line_step : (line : List ℕ) (m k : ℕ) → k ≤ suc m → suc m < length line →
    ((k : ℕ) → k + 1 < length line → get_or line k 0 ≤ get_or line (k + 1) 0) →
    (k ≤ m → get_or line k 0 ≤ get_or line m 0) → (k ≡ suc m) ⊎ (k ≡ suc m → ⊥) →
    get_or line k 0 ≤ get_or line (suc m) 0
line_step line m k h l up before (inl e) = omega (arith, ap (λ k. get_or line k 0) e)
line_step line m k h l up before (inr ne) =
    let low : get_or line k 0 ≤ get_or line m 0 = before (omega arith) in
    let more : get_or line m 0 ≤ get_or line (m + 1) 0 = up m (omega arith) in
    let e : m + 1 ≡ suc m = omega arith in
    omega (arith, ap (λ k. get_or line k 0) e)

line_rises : (line : List ℕ) → ((k : ℕ) → k + 1 < length line → get_or line k 0 ≤ get_or line (k + 1) 0) → (m k : ℕ) →
    k ≤ m → m < length line → get_or line k 0 ≤ get_or line m 0
line_rises line up zero k h l = let e : k ≡ 0 = omega arith in omega (arith, ap (λ k. get_or line k 0) e)
line_rises line up (suc m) k h l = line_step line m k h l up (λ low. line_rises line up m k low (omega arith))
    (cases_eq k (suc m))

-- a firing is given by its actor and its number
same_firing : (f : Firing) (a k : ℕ) → f.actor ≡ a → f.number ≡ k → f ≡ record { actor = a; number = k }
same_firing f a k e d = λ i. record { actor = e i; number = d i }

-- a list of all numbers with a property has each of them at some place
listed_at : (P : ℕ → Type 0) (n : ℕ) (xs : List ℕ) → ListsExactly P n xs → (x : ℕ) → x < n → P x →
    (i : ℕ) × (i < length xs) × (get_or xs i 0 ≡ x)
listed_at P n xs exact x l h = let at = exact.all x l h in (at.0, at.1, get_or_default xs at.0 0 x at.1 ∙ at.2)

module _ (r : Rates) (cost : ℕ → ℕ) (starts : List (List ℕ)) (f : Firing) (p : IsPrepared r cost starts f) where
  abbrev line : ℕ → List ℕ
  line a = get_or starts a []

  pub own_started : (count : ℕ) → count ≡ f.number → count ≤ length (line f.actor)
  own_started count is = go (cases_lt 0 count)
    where
      go : (0 < count) ⊎ (count ≤ 0) → count ≤ length (line f.actor)
      go (inl some) = let h = p.started (record { actor = f.actor; number = count - 1 }) (inl (refl, omega arith)) in
          omega (arith, h)
      go (inr none) = omega arith

  pub own_small : (count : ℕ) → count ≡ f.number → 0 < count →
      get_or (line f.actor) (count - 1) 0 + cost f.actor < 2 ^ 40
  own_small count is some = p.small (record { actor = f.actor; number = count - 1 }) (inl (refl, omega arith))

  -- the last that it waits for on a channel
  pub last_waits : (d count : ℕ) → d < r.channels → r.target d ≡ f.actor → IsNeeded r d f.number count → 0 < count →
      r.initial d + r.produced d (count - 1) < r.consumed d (f.number + 1)
  last_waits d count known into is some = go (cases_lt (r.initial d + r.produced d (count - 1))
      (r.consumed d (f.number + 1)))
    where
      go : (r.initial d + r.produced d (count - 1) < r.consumed d (f.number + 1))
          ⊎ (r.consumed d (f.number + 1) ≤ r.initial d + r.produced d (count - 1)) →
          r.initial d + r.produced d (count - 1) < r.consumed d (f.number + 1)
      go (inl low) = low
      go (inr high) = absurd (omega (arith, is.least (count - 1) high))

  pub on_waits : (d count s : ℕ) → d < r.channels → r.target d ≡ f.actor → IsNeeded r d f.number count → 0 < count →
      s ≡ r.source d → WaitsFor r f (record { actor = s; number = count - 1 })
  on_waits d count s known into is some e = inr (d, known, into, sym e, last_waits d count known into is some)

  pub on_started : (d count s : ℕ) → d < r.channels → r.target d ≡ f.actor → IsNeeded r d f.number count →
      s ≡ r.source d → count ≤ length (line s)
  on_started d count s known into is e = go (cases_lt 0 count)
    where
      go : (0 < count) ⊎ (count ≤ 0) → count ≤ length (line s)
      go (inl some) = let h = p.started (record { actor = s; number = count - 1 })
          (on_waits d count s known into is some e) in omega (arith, h)
      go (inr none) = omega arith

  pub on_small : (d count s : ℕ) → d < r.channels → r.target d ≡ f.actor → IsNeeded r d f.number count →
      s ≡ r.source d → 0 < count → get_or (line s) (count - 1) 0 + cost s < 2 ^ 40
  on_small d count s known into is e some = p.small (record { actor = s; number = count - 1 })
      (on_waits d count s known into is some e)

  module _ (channels : List ℕ) where
    -- before the first channel
    pub need_first : (count x : ℕ) → count ≡ f.number → (count ≡ 0 → x ≡ 0) →
        (0 < count → x ≡ get_or (line f.actor) (count - 1) 0 + cost f.actor) →
        IsGreatest (IsAmongEnd r cost (start_in starts) f channels 0) x
    need_first count x is none last = record { above = λ u w. above u w.0 w.1 w.2; reached = go (cases_lt 0 count) }
      where
        above : (u : ℕ) (g : Firing) → IsNeedAmong r f channels 0 g → end_of cost (start_in starts) g ≡ u → u ≤ x
        above u g (inl (own, before)) e =
            let its : g ≡ record { actor = f.actor; number = count - 1 } =
            same_firing g f.actor (count - 1) own (omega arith) in
            let x_is = last (omega arith) in
            omega (arith, x_is, e, ap (end_of cost (start_in starts)) its)
        above u g (inr (k, low, src, waits)) e = absurd (omega arith)

        go : (0 < count) ⊎ (count ≤ 0) → (x ≡ 0) ⊎ IsAmongEnd r cost (start_in starts) f channels 0 x
        go (inl some) = inr (record { actor = f.actor; number = count - 1 }, inl (refl, omega arith), sym (last some))
        go (inr z) = inl (none (omega arith))

    -- one channel more
    pub need_more : IsSound r → (i t d count s x : ℕ) → d ≡ get_or channels i 0 → d < r.channels →
        r.target d ≡ f.actor → IsNeeded r d f.number count → s ≡ r.source d →
        (count ≡ 0 → x ≡ 0) → (0 < count → x ≡ get_or (line s) (count - 1) 0 + cost s) →
        IsGreatest (IsAmongEnd r cost (start_in starts) f channels i) t →
        IsGreatest (IsAmongEnd r cost (start_in starts) f channels (i + 1)) (max t x)
    need_more sound i t d count s x here known into is src none last g =
        greatest_more (IsAmongEnd r cost (start_in starts) f channels i)
        (IsAmongEnd r cost (start_in starts) f channels (i + 1)) t x g
        (λ u w. (w.0, wider w.0 w.1, w.2)) (new (cases_lt 0 count)) (λ u w. back u w.0 w.1 w.2)
      where
        wider : (h : Firing) → IsNeedAmong r f channels i h → IsNeedAmong r f channels (i + 1) h
        wider h (inl own) = inl own
        wider h (inr (k, low, from, waits)) = inr (k, omega arith, from, waits)

        new : (0 < count) ⊎ (count ≤ 0) → (x ≡ 0) ⊎ IsAmongEnd r cost (start_in starts) f channels (i + 1) x
        new (inr z) = inl (none (omega arith))
        new (inl some) =
            let waits = last_waits d count known into is some in
            inr (
              record { actor = s; number = count - 1 },
              inr (
                i,
                omega arith,
                ap r.source (sym here) ∙ sym src,
                subst (λ d. r.initial d + r.produced d (count - 1) < r.consumed d (f.number + 1)) here waits,
              ),
              sym (last some),
            )

        -- what f waits for on this channel ends no later than the last of it
        low_end : (u : ℕ) (h : Firing) → r.source d ≡ h.actor →
            r.initial d + r.produced d h.number < r.consumed d (f.number + 1) → end_of cost (start_in starts) h ≡ u →
            u ≤ x
        low_end u h from waits e = go (cases_lt h.number count)
          where
            go : (h.number < count) ⊎ (count ≤ h.number) → u ≤ x
            go (inr high) = absurd (omega (arith, is.suffice, sound.produced_rises d count h.number high))
            go (inl low) =
                let its : h ≡ record { actor = s; number = h.number } =
                same_firing h s h.number (sym from ∙ sym src) refl in
                let long = p.started (record { actor = s; number = count - 1 })
                (on_waits d count s known into is (omega arith) src) in
                let rise = line_rises (line s) (p.rise s) (count - 1) h.number (omega arith) long in
                omega (arith, rise, last (omega arith), e, ap (end_of cost (start_in starts)) its)

        back : (u : ℕ) (h : Firing) → IsNeedAmong r f channels (i + 1) h → end_of cost (start_in starts) h ≡ u →
            IsAmongEnd r cost (start_in starts) f channels i u ⊎ (u ≤ x)
        back u h (inl own) e = inl (h, inl own, e)
        back u h (inr (k, low, from, waits)) e = go (cases_lt k i)
          where
            go : (k < i) ⊎ (i ≤ k) → IsAmongEnd r cost (start_in starts) f channels i u ⊎ (u ≤ x)
            go (inl below) = inl (h, inr (k, below, from, waits), e)
            go (inr last) =
                let same : get_or channels k 0 ≡ d = ap (λ k. get_or channels k 0)
                (let it : k ≡ i = omega arith in it) ∙ sym here in
                inr (low_end u h (ap r.source (sym same) ∙ from)
                (subst (λ d. r.initial d + r.produced d h.number < r.consumed d (f.number + 1)) same waits) e)

    -- after the last one
    pub need_all : AreIncoming r f.actor channels → (i t : ℕ) → length channels ≡ i →
        IsGreatest (IsAmongEnd r cost (start_in starts) f channels i) t →
        IsGreatest (IsNeedEnd r cost (start_in starts) f) t
    need_all exact i t all g =
        greatest_same (IsAmongEnd r cost (start_in starts) f channels i) (IsNeedEnd r cost (start_in starts) f) t
        (λ u w. (w.0, to w.0 w.1, w.2)) (λ u w. (w.0, from w.0 w.1, w.2)) g
      where
        to : (h : Firing) → IsNeedAmong r f channels i h → WaitsFor r f h
        to h (inl own) = inl own
        to h (inr (k, low, src, waits)) = let at = exact.each k (omega arith) in
            inr (get_or channels k 0, at.0, at.1, src, waits)

        from : (h : Firing) → WaitsFor r f h → IsNeedAmong r f channels i h
        from h (inl own) = inl own
        from h (inr (d, known, into, src, waits)) =
            let at = listed_at (λ c. r.target c ≡ f.actor) r.channels channels exact d known into in
            inr (
              at.0,
              omega (arith, at.1),
              ap r.source at.2 ∙ src,
              subst (λ d. r.initial d + r.produced d h.number < r.consumed d (f.number + 1)) (sym at.2) waits,
            )
