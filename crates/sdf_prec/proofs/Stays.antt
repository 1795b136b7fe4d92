-- What stands in one stretch is at home with one worker.
use Rattle.std.proofs.Common.{◌≡◌, ℕ, ◌+◌, ◌≤◌, ◌<◌, ◌⊎◌, inl, inr, List, get_or, Option, Some, None, arith, sym, ap}
use Rattle.std.proofs.Common.{subst, ◌∙◌}
use Rattle.std.proofs.lemmas.Bool.{cases_lt, cases_order}
use Rattle.sdf_graph.specs.Rates.{Rates}
use Rattle.sdf_prec.specs.Spread.{IsFedByLast, MayPart, IsStretchStart, IsStretchEnd, share, AreSpread}
use Rattle.sdf_prec.specs.Stays.{LoopsStay, FedStay}

module _ (r : Rates) (low high : ℕ) (order : low ≤ high)
    (whole : (k : ℕ) → low < k → k ≤ high → MayPart r k → ⊥) where
  first_same : (f g : ℕ) → IsStretchStart r low f → IsStretchStart r high g → f ≡ g
  first_same f g here there = go (cases_order f g)
    where
      within : g ≤ low
      within = case (cases_lt low g)
        where
          case : (low < g) ⊎ (g ≤ low) → g ≤ low
          case (inl over) = absurd (whole g over there.within there.parts)
          case (inr is) = is

      go : (f ≡ g) ⊎ ((f < g) ⊎ (g < f)) → f ≡ g
      go (inl same) = same
      go (inr (inl l)) = absurd (here.last g l within there.parts)
      go (inr (inr l)) = absurd (there.last f l (omega (arith, here.within)) here.parts)

  past_same : (p q : ℕ) → IsStretchEnd r low p → IsStretchEnd r high q → p ≡ q
  past_same p q here there = go (cases_order p q)
    where
      over : high < p
      over = case (cases_lt high p)
        where
          case : (high < p) ⊎ (p ≤ high) → high < p
          case (inl is) = is
          case (inr under) = absurd (whole p here.behind under here.parts)

      go : (p ≡ q) ⊎ ((p < q) ⊎ (q < p)) → p ≡ q
      go (inl same) = same
      go (inr (inl l)) = absurd (there.first p over l here.parts)
      go (inr (inr l)) = absurd (here.first q (omega (arith, there.behind)) l there.parts)

  one_home : (weights : List ℕ) (m : ℕ) (homes : List (Option ℕ)) → AreSpread r weights m homes → high < r.actors →
      get_or homes low None ≡ get_or homes high None
  one_home weights m homes spread known =
      let a = spread.each low (omega arith) in
      let b = spread.each high known in
      let first = first_same a.0 b.0 a.2 b.2 in
      let past = past_same a.1 b.1 a.3 b.3 in
      let same : share weights m a.0 a.1 ≡ share weights m b.0 b.1 = λ k. share weights m (first k) (past k) in
      a.4 ∙ (ap (λ j. Some j) same ∙ sym b.4)

pub loops_stay : LoopsStay
loops_stay r weights m homes c a spread known back behind within =
    one_home r a (r.source c) behind (λ k over under parts. parts.ahead (c, known, omega arith, under)) weights m homes
    spread within

pub fed_stay : FedStay
fed_stay r weights m homes a spread known fed =
    one_home r a (a + 1) (omega arith) (λ k over under parts.
    let same : k ≡ a + 1 = omega arith in
    parts.fed (subst (IsFedByLast r) (sym same) fed)) weights m homes spread known
