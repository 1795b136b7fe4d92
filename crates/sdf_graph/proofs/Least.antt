-- There is one least period vector.
use Rattle.std.proofs.Common.{◌≡◌, ℕ, zero, suc, ◌≤◌, ◌<◌, List, length, get_or, sym, ◌∙◌, arith}
use Rattle.std.proofs.lemmas.List.{ext_get_or}
use Rattle.sdf_graph.specs.Rates.{Rates}
use Rattle.sdf_graph.specs.Periods.{IsLeastPeriod, IsMultiple}

multiple_le : (p q : List ℕ) (a : ℕ) → IsMultiple p q → 0 < get_or p a 0 → get_or q a 0 ≤ get_or p a 0
multiple_le p q a (zero, is) some = absurd (omega (arith, is a))
multiple_le p q a (suc k, is) some = omega (arith, is a)

pub one_least_period : (r : Rates) (p q : List ℕ) → IsLeastPeriod r p → IsLeastPeriod r q → p ≡ q
one_least_period r p q lp lq = ext_get_or 0 p q (lp.is.all ∙ sym lq.is.all) each
  where
    each : (a : ℕ) → a < length p → get_or p a 0 ≡ get_or q a 0
    each a l =
        let known : a < r.actors = omega (arith, lp.is.all) in
        let down : get_or q a 0 ≤ get_or p a 0 = multiple_le p q a (lq.divides p lp.is) (lp.is.positive a known) in
        let up : get_or p a 0 ≤ get_or q a 0 = multiple_le q p a (lp.divides q lq.is) (lq.is.positive a known) in
        omega arith
