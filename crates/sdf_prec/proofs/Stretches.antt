-- The middle of a stretch falls before the end of all weight, so its worker is one of m.
use Rattle.std.proofs.Common.{◌≡◌, ℕ, ◌+◌, ◌*◌, ◌/◌, ◌≤◌, ◌<◌, ◌++◌, ◌∷◌, [], ◌⊎◌, inl, inr, List, Option, Some, None}
use Rattle.std.proofs.Common.{mul-le-mul_left, length, get_or, arith, add-one, refl, subst, sym, ap, ◌∙◌}
use Rattle.std.proofs.lemmas.Nat.{div_below}
use Rattle.std.proofs.lemmas.Bool.{cases_lt}
use Rattle.std.proofs.lemmas.List.{get_or_push, get_or_append_left, length_push}
use Rattle.sdf_graph.specs.Rates.{Rates, IsSound, sum_to}
use Rattle.sdf_graph.proofs.Theorems.{sums_rise}
use Rattle.sdf_prec.specs.ByHomes.{HasHome}
use Rattle.sdf_prec.specs.Spread.{AreLoads, MayPart, IsStretchStart, IsStretchEnd, share, AreSpread}

-- stretches may part before the first actor and behind the last
pub parts_first : (r : Rates) → MayPart r 0
parts_first r = record {
  ahead = λ h. let low = h.2 in omega arith;
  fed = λ h. omega (arith, h.all h.some.0 h.some.1 h.some.2);
}

pub parts_last : (r : Rates) → IsSound r → MayPart r r.actors
parts_last r s = record {
  ahead = λ h. omega (arith, s.source_in h.0 h.1, h.3);
  fed = λ h. omega (arith, s.target_in h.some.0 h.some.1, h.some.2);
}

middle_below : (f : ℕ → ℕ) (first past all : ℕ) → first < past → past ≤ all → 0 < f first →
    sum_to f first + sum_to f past < 2 * sum_to f all
middle_below f first past all order known some =
    let step : sum_to f (first + 1) ≡ sum_to f first + f first = rw add-one refl in
    let one = sums_rise f (first + 1) all (omega arith) in
    let two = sums_rise f past all known in
    omega arith

share_below : (m middle all : ℕ) → 0 < m → middle < 2 * all → m * middle / (2 * all) < m
share_below m middle all some below =
    let most : m * (middle + 1) ≤ m * (2 * all) = mul-le-mul_left m (omega arith) in
    div_below (m * middle) (2 * all) m (omega arith) (omega arith)

-- the worker of a stretch is one of m
pub share_within : (weights : List ℕ) → AreLoads (length weights) weights → (m first past : ℕ) → 0 < m →
    first < past → past ≤ length weights → share weights m first past < m
share_within weights loads m first past some order known =
    let f : ℕ → ℕ = λ a. get_or weights a 0 in
    share_below m (sum_to f first + sum_to f past) (sum_to f (length weights)) some
    (middle_below f first past (length weights) order known (loads.some first (omega arith)))

-- so each actor has a home
pub spread_homed : (r : Rates) (weights : List ℕ) (m : ℕ) (homes : List (Option ℕ)) →
    AreLoads r.actors weights → 0 < m → AreSpread r weights m homes → (a : ℕ) → a < r.actors → HasHome homes m a
spread_homed r weights m homes loads some spread a l =
    let e = spread.each a l in
    let all = loads.all in (
      share weights m e.0 e.1,
      e.4,
      share_within weights (subst (λ n. AreLoads n weights) (sym all) loads) m e.0 e.1 some
          (omega (arith, e.2.within, e.3.behind)) (omega (arith, e.3.within, all)),
    )

-- the home of one actor more
pub one_home_more : (r : Rates) (weights : List ℕ) (m : ℕ) (homes : List (Option ℕ)) (i : ℕ) → length homes ≡ i →
    ((a : ℕ) → a < i → (first : ℕ) × (past : ℕ) × IsStretchStart r a first × IsStretchEnd r a past
    × (get_or homes a None ≡ Some (share weights m first past))) →
    (first past j : ℕ) → IsStretchStart r i first → IsStretchEnd r i past → j ≡ share weights m first past →
    record {
      all : length (homes ++ Some j ∷ []) ≡ i + 1;
      each : (a : ℕ) → a < i + 1 → (first : ℕ) × (past : ℕ) × IsStretchStart r a first × IsStretchEnd r a past
          × (get_or (homes ++ Some j ∷ []) a None ≡ Some (share weights m first past));
    }
one_home_more r weights m homes i long each first past j begins ends is = record {
  all = omega (arith, length_push homes (Some j), long);
  each = λ a l. go a l (cases_lt a i);
}
  where
    go : (a : ℕ) → a < i + 1 → (a < i) ⊎ (i ≤ a) →
        (first : ℕ) × (past : ℕ) × IsStretchStart r a first × IsStretchEnd r a past
        × (get_or (homes ++ Some j ∷ []) a None ≡ Some (share weights m first past))
    go a l (inl low) = let old = each a low in
        (old.0, old.1, old.2, old.3, get_or_append_left homes (Some j ∷ []) None a (omega arith) ∙ old.4)
    go a l (inr high) =
        let same : i ≡ a = omega arith in (
          first,
          past,
          subst (λ k. IsStretchStart r k first) same begins,
          subst (λ k. IsStretchEnd r k past) same ends,
          get_or_push homes (Some j) None a (long ∙ same) ∙ ap (λ k. Some k) is,
        )
