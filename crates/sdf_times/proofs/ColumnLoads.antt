-- A column's firings come one after another, so its load is done in each block.
use Rattle.std.proofs.Common.{◌≡◌, ℕ, zero, suc, ◌+◌, ◌-◌, ◌*◌, ◌≤◌, ◌<◌, ◌⊎◌, length, inl, inr, sym, ap, ◌∙◌, arith}
use Rattle.std.proofs.Common.{refl}
use Rattle.std.proofs.Common.{Option, Some, None}
use Rattle.std.proofs.Math.Nat.{mul-le-mul_left}
use Rattle.sdf_graph.specs.Rates.{sum_to}
use Rattle.sdf_prec.specs.declared.firing.Firing.{Firing}
use Rattle.sdf_prec.specs.Tables.{cell}
use Rattle.sdf_times.specs.Times.{cost_in, load_of, end_of}
use Rattle.sdf_times.specs.SelfTimed.{Plan, later, IsAt, IsSooner, AreSelfTimed, IsBlockEnd, IsPlan}
use Rattle.sdf_times.specs.Periods.{LoadsAreWithin}
use Rattle.sdf_times.proofs.Laters.{later_more, later_same}
use Rattle.sdf_times.proofs.Ranks.{cells}
use Rattle.sdf_times.proofs.Certified.{later_rises}
use Rattle.sdf_times.proofs.OnePeriod.{rises_within}

module _ (p : Plan) (ok : IsPlan p) (start : Firing → ℕ) (run : AreSelfTimed p start) (j : ℕ) where
  abbrev load_to : ℕ → ℕ
  load_to i = sum_to (λ i. cost_in p.cost (cell p.rows i j)) i

  -- what the column does before row i of block b is done by the end of some firing in it
  abbrev Done : ℕ → ℕ → Type 0
  Done b i = (b * load_of p.cost p.rows j + load_to i ≡ 0) ⊎ ((d : ℕ) × (k : ℕ) × (g : Firing) × IsSooner d k b i
      × IsAt p d k j g × (b * load_of p.cost p.rows j + load_to i ≤ start g + p.cost g.actor))

  sooner_still : (d k b i : ℕ) → IsSooner d k b i → IsSooner d k b (suc i)
  sooner_still d k b i (inl low) = inl low
  sooner_still d k b i (inr (same, low)) = inr (same, omega arith)

  row_step : (b i : ℕ) (o : Option Firing) → cell p.rows i j ≡ o → Done b i → Done b (suc i)
  row_step b i None e (inl z) = inl (omega (arith, z, ap (cost_in p.cost) e))
  row_step b i None e (inr (d, k, g, sooner, at, low)) =
      inr (d, k, g, sooner_still d k b i sooner, at, omega (arith, low, ap (cost_in p.cost) e))
  row_step b i (Some f) e (inl z) =
      inr (b, i, later p b f, inr (refl, omega arith), (f, e, refl), omega (arith, z, ap (cost_in p.cost) e))
  row_step b i (Some f) e (inr (d, k, g, sooner, at, low)) =
      let after = (run (later p b f) ((cells p ok).known i j f e).0).above (start g + p.cost g.actor)
      (g, p.cost g.actor, inl (refl, inr (d, k, b, i, j, sooner, at, (f, e, refl))), refl) in
      inr (b, i, later p b f, inr (refl, omega arith), (f, e, refl), omega (arith, low, after, ap (cost_in p.cost) e))

  rows_step : (b : ℕ) → Done b 0 → (i : ℕ) → Done b i
  rows_step b first zero = first
  rows_step b first (suc i) = row_step b i (cell p.rows i j) refl (rows_step b first i)

  block_step : (b : ℕ) → Done b (length p.rows) → Done (suc b) 0
  block_step b (inl z) = inl (omega (arith, z))
  block_step b (inr (d, k, g, sooner, at, low)) = inr (d, k, g, go sooner, at, omega (arith, low))
    where
      go : IsSooner d k b (length p.rows) → IsSooner d k (suc b) 0
      go (inl less) = inl (omega arith)
      go (inr (same, less)) = inl (omega arith)

  blocks : (b : ℕ) → Done b 0
  blocks zero = inl (omega arith)
  blocks (suc b) = block_step b (rows_step b (blocks b) (length p.rows))

  pub load_in : (end : ℕ) (b : ℕ) → IsBlockEnd p start b end → suc b * load_of p.cost p.rows j ≤ end
  load_in end b ends = go (blocks (suc b))
    where
      at_end : (d k : ℕ) (g : Firing) → d < suc b → (x : IsAt p d k j g) → start g + p.cost g.actor ≤ end
      at_end d k g l (h, e, is) =
          let of = (cells p ok).known k j h e in
          let its : later p (b - d) g ≡ later p b h =
          ap (later p (b - d)) (sym is) ∙ (later_more p (b - d) d h ∙ later_same p (d + (b - d)) b h (omega arith)) in
          let high = ends.above (end_of p.cost start (later p b h)) (h, of, refl) in
          let rise = later_rises p ok start run (b - d) g (omega (arith, of.0, ap (λ (f : Firing). f.actor) is)) in
          let cost_is : p.cost h.actor ≡ p.cost g.actor = ap (λ (f : Firing). p.cost f.actor) is in
          omega (arith, high, rise, ap start its, cost_is)

      go : Done (suc b) 0 → suc b * load_of p.cost p.rows j ≤ end
      go (inl z) = omega arith
      go (inr (d, k, g, inl low, x, within)) = omega (arith, within, at_end d k g low x)
      go (inr (d, k, g, inr (same, low), x, within)) = absurd (omega arith)

pub loads_are_within : LoadsAreWithin
loads_are_within p end t q j ok ends period =
    rises_within (q * load_of p.cost p.rows j) t period.bound (λ n. at n)
  where
    at : (n : ℕ) → (q * load_of p.cost p.rows j) * n ≤ t * n + period.bound
    at n =
        let done = load_in p ok ends.start ends.run j (end n) n (ends.ends n) in
        let much : q * (suc n * load_of p.cost p.rows j) ≤ q * end n = mul-le-mul_left q done in
        omega (arith, much, period.late n)
