-- A table by homes has a home for each actor.
use Rattle.std.proofs.Common.{◌≡◌, ℕ, zero, suc, ◌*◌, ◌≤◌, ◌<◌, ◌⊎◌, inl, inr, List, length, get_or, set, take}
use Rattle.std.proofs.Common.{replicate, ap, sym, ◌∙◌, arith, refl, Option, Some, None, mul-le-mul_left}
use Rattle.std.proofs.lemmas.Bool.{cases_eq}
use Rattle.std.proofs.lemmas.List.{get_or-set_same, get_or-set_other, length-replicate, take_all}
use Rattle.std.proofs.lemmas.Option.{none-some}
use Rattle.sdf_graph.specs.Rates.{Rates}
use Rattle.sdf_graph.specs.Sequences.{times, IsPass}
use Rattle.sdf_prec.specs.declared.firing.Firing.{Firing}
use Rattle.sdf_prec.specs.Blocks.{block}
use Rattle.sdf_prec.specs.Tables.{cell, cell_of, TableValue, home_in, IsHome, IsExact, IsHomed}
use Rattle.sdf_prec.specs.ByHomes.{HasHome, AreByHomes, firing_at}
use Rattle.sdf_prec.proofs.Next.{place_of}
use Rattle.sdf_prec.proofs.Periods.{block_at}
use Rattle.sdf_prec.proofs.Standings.{some_is, row_within}

empty_cell : (m k : ℕ) → get_or (replicate {A = Option Firing} m None) k None ≡ None
empty_cell zero k = refl
empty_cell (suc m) zero = refl
empty_cell (suc m) (suc k) = empty_cell m k

-- in a row with one firing nothing else stands
single : (m j k : ℕ) (g f : Firing) → j < m → get_or (set (replicate m None) j (Some g)) k None ≡ Some f →
    (k ≡ j) × (g ≡ f)
single m j k g f l e = go (cases_eq k j)
  where
    cells : List (Option Firing)
    cells = set (replicate m None) j (Some g)

    there : get_or cells j None ≡ Some g
    there = get_or-set_same (replicate m None) j (Some g) None
        (omega (arith, length-replicate {A = Option Firing} m None))

    go : (k ≡ j) ⊎ (k ≡ j → ⊥) → (k ≡ j) × (g ≡ f)
    go (inl same) = (
      same,
      some_is (sym there ∙ (ap (λ x. get_or cells x None) (sym same) ∙ e)),
    )
    go (inr ne) = absurd (none-some f
        (sym (empty_cell m k) ∙ (sym (get_or-set_other (replicate m None) j k (Some g) None ne) ∙ e)))

-- where each actor fires
pub block_fires : (j : ℕ) (q : List ℕ) (a : ℕ) → 1 ≤ j → 0 < get_or q a 0 → 0 < get_or (block j q) a 0
block_fires j q a some fires =
    let least : j * 1 ≤ j * get_or q a 0 = mul-le-mul_left j (omega arith) in
    omega (arith, block_at j q a, least)

module _ (r : Rates) (n : ℕ → ℕ) (w : List ℕ) (pass : IsPass r n w) (homes : List (Option ℕ))
    (m : ℕ) (homed : (a : ℕ) → a < r.actors → HasHome homes m a) (t : TableValue)
    (by : AreByHomes homes m w t.rows) where
  -- a firing stands in its actor's home
  at_home : (i k : ℕ) (f : Firing) → cell t.rows i k ≡ Some f → get_or homes f.actor None ≡ Some k
  at_home i k f is =
      let l : i < length w = omega (arith, row_within t.rows i k f is, by.all) in
      let home = homed (get_or w i 0) (pass.0 i l).0 in
      let its = single m home.0 k (firing_at w i) f home.2
      (ap (λ cells. cell_of cells k) (sym (by.each i home.0 l home.1)) ∙ is) in
      ap (λ (g : Firing). get_or homes g.actor None) (sym its.1) ∙ (home.1 ∙ ap (λ x. Some x) (sym its.0))

  is_home : (a : ℕ) → (l : a < r.actors) → 0 < n a → IsHome t.rows a (homed a l).0
  is_home a l fires = record { some = some; all = all }
    where
      some : (i : ℕ) × (f : Firing) × (i < length t.rows) × (cell t.rows i (homed a l).0 ≡ Some f) × (f.actor ≡ a)
      some =
          let home = homed a l in
          let counts : times (take (length w) w) a ≡ n a =
          ap (λ v. times v a) (take_all (length w) w (omega arith)) ∙ pass.1 a l in
          let at = place_of w a 0 (length w) (omega arith) (omega (arith, counts)) in (
            at.0,
            firing_at w at.0,
            omega (arith, by.all, at.1),
            ap (λ cells. cell_of cells home.0)
                (by.each at.0 home.0 at.1 (ap (λ b. get_or homes b None) at.2 ∙ home.1))
                ∙ get_or-set_same (replicate m None) home.0 (Some (firing_at w at.0)) None
                (omega (arith, home.2, length-replicate {A = Option Firing} m None)),
            at.2,
          )

      all : (i k : ℕ) (f : Firing) → cell t.rows i k ≡ Some f → f.actor ≡ a → k ≡ (homed a l).0
      all i k f is its = some_is (sym (at_home i k f is) ∙ (ap (λ b. get_or homes b None) its ∙ (homed a l).1))

  pub are_homed : IsExact r t → ((a : ℕ) → a < r.actors → 0 < n a) → IsHomed t
  are_homed exact fires a l none =
      let k : a < r.actors = omega (arith, l, exact.homes_all) in
      let is : home_in t a ≡ Some (homed a k).0 =
      (exact.homes_each a (homed a k).0 k).1 (is_home a k (fires a k)) in
      none-some (homed a k).0 (sym none ∙ is)
