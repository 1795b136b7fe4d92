-- Times are the least, and no table ends before the bound.
use Rattle.std.proofs.Common.{◌≡◌, ℕ, zero, suc, ◌+◌, ◌≤◌, ◌<◌, ◌⊎◌, List, [], ◌∷◌, length, inl, inr, ap, arith}
use Rattle.std.proofs.Common.{refl, Option, Some, None}
use Rattle.sdf_graph.specs.Rates.{Rates, sum_to}
use Rattle.sdf_graph.proofs.Theorems.{sums_are_small}
use Rattle.sdf_prec.specs.declared.firing.Firing.{Firing}
use Rattle.sdf_prec.specs.Levels.{IsChain, total, IsLevel}
use Rattle.sdf_prec.specs.Tables.{cell, IsOfBlock}
use Rattle.sdf_times.specs.Times.{IsInTable, ComesBefore, end_of, AreStarts, IsMakespan, IsSpan, cost_in, load_of}
use Rattle.sdf_times.specs.Laws.{StartsAreLeast, StartsAreOne, BoundsHold}
use Rattle.sdf_times.proofs.Greatest.{greatest_least}
use Rattle.sdf_times.proofs.Cells.{AreCells, are_cells}
use Rattle.sdf_times.proofs.Walks.{before_earlier}
use Rattle.sdf_times.proofs.Sums.{columns_do_work}

module _ (r : Rates) (n cost : ℕ → ℕ) (rows : List (List (Option Firing))) (start other : Firing → ℕ)
    (cells : AreCells r n rows) (starts : AreStarts r cost rows start)
    (later : (f g : Firing) → IsInTable rows f → ComesBefore r rows g f → end_of cost other g ≤ other f) where
  -- where it holds of the rows before
  least_at : (k m : ℕ) (f : Firing) → cell rows k m ≡ Some f →
      ((x y : ℕ) (g : Firing) → x < k → cell rows x y ≡ Some g → start g ≤ other g) → start f ≤ other f
  least_at k m f e before =
      greatest_least (λ t. (g : Firing) × ComesBefore r rows g f × (end_of cost start g ≡ t)) (start f) (other f)
      (starts f (k, m, e)) (λ u w. low u w.0 w.1 w.2)
    where
      low : (u : ℕ) (g : Firing) → ComesBefore r rows g f → end_of cost start g ≡ u → u ≤ other f
      low u g b is =
          let at = before_earlier r n rows cells k m f g e b in
          omega (arith, before at.0 at.1 g at.2 at.3, later f g (k, m, e) b, is)

  least_to : (i k m : ℕ) (f : Firing) → k < i → cell rows k m ≡ Some f → start f ≤ other f
  least_to zero k m f l e = absurd (omega arith)
  least_to (suc i) k m f l e = least_at k m f e (λ x y g low at. least_to i x y g (omega arith) at)

  pub least : (f : Firing) → IsInTable rows f → start f ≤ other f
  least f (k, m, e) = least_to (k + 1) k m f (omega arith) e

pub starts_are_least : StartsAreLeast
starts_are_least r n cost rows start other v starts later =
    least r n cost rows start other (are_cells r n rows v) starts later

pub starts_are_one : StartsAreOne
starts_are_one r n cost rows start other v starts others f at =
    let cells = are_cells r n rows v in
    let low = least r n cost rows start other cells starts
    (λ f g in_table b. (others f in_table).above (end_of cost other g) (g, b, refl)) f at in
    let high = least r n cost rows other start cells others
    (λ f g in_table b. (starts f in_table).above (end_of cost start g) (g, b, refl)) f at in
    omega (arith, low, high)

module _ (r : Rates) (n cost : ℕ → ℕ) (rows : List (List (Option Firing))) (start : Firing → ℕ) (makespan : ℕ)
    (cells : AreCells r n rows) (starts : AreStarts r cost rows start)
    (last : IsMakespan cost rows start makespan) where
  chain_first : (f : Firing) (gs : List Firing) → IsChain r n f gs → IsOfBlock r n f
  chain_first f [] c = c
  chain_first f (g ∷ gs) c = c.0

  chain_ends : (f : Firing) (gs : List Firing) → IsChain r n f gs → start f + total cost f gs ≤ makespan
  chain_ends f [] c = last.above (end_of cost start f) (f, cells.all f c, refl)
  chain_ends f (g ∷ gs) c =
      let low : end_of cost start f ≤ start g = (starts g (cells.all g (chain_first g gs c.2))).above
      (end_of cost start f) (f, inl c.1, refl) in
      let rest : start g + total cost g gs ≤ makespan = chain_ends g gs c.2 in
      omega arith

  pub span_within : (span : ℕ) → IsSpan r n cost span → span ≤ makespan
  span_within span s = greatest_least (λ u. (f : Firing) × IsOfBlock r n f × IsLevel r n cost f u) span makespan s
      (λ u w. low u w.0 w.2)
    where
      low : (u : ℕ) (f : Firing) → IsLevel r n cost f u → u ≤ makespan
      low u f level =
          let chain = level.reached in
          omega (arith, chain_ends f chain.0 chain.1, chain.2)

  -- the first i firings of a column have no greater load than the end of the last
  abbrev load_to : ℕ → ℕ → ℕ
  load_to j i = sum_to (λ i. cost_in cost (cell rows i j)) i

  load_step : (j i : ℕ) (o : Option Firing) → cell rows i j ≡ o →
      (load_to j i ≡ 0) ⊎ ((k : ℕ) × (g : Firing) × (k < i) × (cell rows k j ≡ Some g)
      × (load_to j i ≤ end_of cost start g)) →
      (load_to j (suc i) ≡ 0) ⊎ ((k : ℕ) × (g : Firing) × (k < suc i) × (cell rows k j ≡ Some g)
      × (load_to j (suc i) ≤ end_of cost start g))
  load_step j i None e (inl z) = inl (omega (arith, z, ap (cost_in cost) e))
  load_step j i None e (inr (k, g, l, at, low)) = inr (k, g, omega arith, at, omega (arith, low, ap (cost_in cost) e))
  load_step j i (Some f) e (inl z) = inr (i, f, omega arith, e, omega (arith, z, ap (cost_in cost) e))
  load_step j i (Some f) e (inr (k, g, l, at, low)) =
      let after : end_of cost start g ≤ start f = (starts f (i, j, e)).above (end_of cost start g)
      (g, inr (k, i, j, l, at, e), refl) in
      inr (i, f, omega arith, e, omega (arith, low, after, ap (cost_in cost) e))

  load_ends : (j i : ℕ) → (load_to j i ≡ 0) ⊎ ((k : ℕ) × (g : Firing) × (k < i) × (cell rows k j ≡ Some g)
      × (load_to j i ≤ end_of cost start g))
  load_ends j zero = inl refl
  load_ends j (suc i) = load_step j i (cell rows i j) refl (load_ends j i)

  pub load_within : (j : ℕ) → load_of cost rows j ≤ makespan
  load_within j = go (load_ends j (length rows))
    where
      go : (load_to j (length rows) ≡ 0) ⊎ ((k : ℕ) × (g : Firing) × (k < length rows) × (cell rows k j ≡ Some g)
          × (load_to j (length rows) ≤ end_of cost start g)) → load_of cost rows j ≤ makespan
      go (inl z) = omega arith
      go (inr (k, g, l, at, low)) =
          let high : end_of cost start g ≤ makespan = last.above (end_of cost start g) (g, (k, j, at), refl) in
          omega arith

pub bounds_hold : BoundsHold
bounds_hold r n cost width rows start makespan span bound v wide starts last chains is =
    let cells = are_cells r n rows v in
    let loads = sums_are_small (load_of cost rows) makespan
    (load_within r n cost rows start makespan cells starts last) width in
    let work = columns_do_work cost r n rows width v wide in
    is.least makespan (span_within r n cost rows start makespan cells starts last span chains)
    (omega (arith, loads, work))
