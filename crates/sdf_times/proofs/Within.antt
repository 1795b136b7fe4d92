-- No period is longer than what a block takes row by row, nor than its work.
use Rattle.std.proofs.Common.{◌≡◌, ℕ, zero, suc, ◌+◌, ◌*◌, ◌≤◌, ◌<◌, ◌⊎◌, length, inl, inr, ap, ◌∙◌, arith}
use Rattle.std.proofs.Common.{refl}
use Rattle.std.proofs.Math.Nat.{mul-le-mul_left, mul-le-mul_right}
use Rattle.std.proofs.lemmas.Bool.{cases_lt}
use Rattle.sdf_graph.specs.Rates.{sum_to}
use Rattle.sdf_graph.proofs.Theorems.{sums_rise}
use Rattle.sdf_prec.specs.declared.firing.Firing.{Firing}
use Rattle.sdf_prec.specs.Tables.{firing, order, IsOfBlock}
use Rattle.sdf_times.specs.Times.{end_of, load_of, work_of}
use Rattle.sdf_times.specs.ByRows.{row_time, time_by_rows}
use Rattle.sdf_times.specs.SelfTimed.{Plan, later, IsAt, IsSooner, HoldsBack, AreSelfTimed}
use Rattle.sdf_times.specs.SelfTimed.{IsBlockEnd, IsIterationPeriod, IsPlan}
use Rattle.sdf_times.specs.Periods.{PeriodIsWithinRows, PeriodIsWithinWork, OneColumnWorks, WorkIsShared}
use Rattle.sdf_times.proofs.ByRows.{cost_within, until_rises}
use Rattle.sdf_times.proofs.Cells.{place, at_place, row_in}
use Rattle.sdf_times.proofs.Sums.{work_is, places_worth, columns_do_work}
use Rattle.sdf_times.proofs.Ranks.{cells, size, place_in_block, earlier, row_earlier, rank_parts}
use Rattle.sdf_times.proofs.Ranks.{at_once, place_less}
use Rattle.sdf_times.proofs.Certified.{of_graph}
use Rattle.sdf_times.proofs.OnePeriod.{rises_within}
use Rattle.sdf_times.proofs.ColumnLoads.{load_in, loads_are_within}

-- ends that rise by no more than `most` a block are no bound for a longer period
pub period_within : (end : ℕ → ℕ) (t q most : ℕ) → IsIterationPeriod end t q → ((b : ℕ) → end b ≤ suc b * most) →
    t ≤ q * most
period_within end t q most period within = rises_within t (q * most) (q * most + period.bound) (λ n. go n)
  where
    go : (n : ℕ) → t * n ≤ (q * most) * n + (q * most + period.bound)
    go n = let much : q * end n ≤ q * (suc n * most) = mul-le-mul_left q (within n) in
        omega (arith, much, period.soon n)

module _ (p : Plan) (ok : IsPlan p) (start : Firing → ℕ) (run : AreSelfTimed p start) where
  -- by induction over ranks: what holds of all firings that hold one back, and so of this one, holds of all
  module _ (x : (b i j : ℕ) (f : Firing) → IsAt p b i j f → ℕ)
      (step : (g f : Firing) (w : ℕ) → g.actor < p.rates.actors → HoldsBack p g f w → (d k m b i j : ℕ) →
      (y : IsAt p d k m g) (z : IsAt p b i j f) →
      d * size p ok + place p.rows k m < b * size p ok + place p.rows i j → x d k m g y + w ≤ x b i j f z) where
    within_at : (f : Firing) (b i j : ℕ) → f.actor < p.rates.actors → (z : IsAt p b i j f) →
        ((g : Firing) (d k m : ℕ) → d * size p ok + place p.rows k m < b * size p ok + place p.rows i j →
        g.actor < p.rates.actors → (y : IsAt p d k m g) → start g ≤ x d k m g y) → start f ≤ x b i j f z
    within_at f b i j known z before = go (run f known).reached
      where
        go : (start f ≡ 0) ⊎ ((g : Firing) × (w : ℕ) × HoldsBack p g f w × (start g + w ≡ start f)) →
            start f ≤ x b i j f z
        go (inl none) = omega arith
        go (inr (g, w, holds, is)) =
            let in_graph : g.actor < p.rates.actors = of_graph p ok g f w known holds in
            let low = earlier p ok g f w in_graph holds (b * size p ok + place p.rows i j) (b, i, j, z, refl) in
            let y = low.1 in
            let less : y.0 * size p ok + place p.rows y.1 y.2 < b * size p ok + place p.rows i j =
            omega (arith, low.2, y.4) in
            omega (
              arith,
              is,
              before g y.0 y.1 y.2 less in_graph y.3,
              step g f w in_graph holds y.0 y.1 y.2 b i j y.3 z less,
            )

    within_to : (n : ℕ) (f : Firing) (b i j : ℕ) → b * size p ok + place p.rows i j < n → f.actor < p.rates.actors →
        (z : IsAt p b i j f) → start f ≤ x b i j f z
    within_to zero f b i j l known z = absurd (omega arith)
    within_to (suc n) f b i j l known z =
        within_at f b i j known z (λ g d k m less in_graph y. within_to n g d k m (omega arith) in_graph y)

    pub within : (f : Firing) (b i j : ℕ) → f.actor < p.rates.actors → (z : IsAt p b i j f) → start f ≤ x b i j f z
    within f b i j known z = within_to (suc (b * size p ok + place p.rows i j)) f b i j (omega arith) known z

  -- row by row
  abbrev until : ℕ → ℕ
  until i = sum_to (row_time p.cost p.rows) i

  abbrev whole : ℕ
  whole = time_by_rows p.cost p.rows

  until_whole : (d b i k : ℕ) → d < b → k ≤ length p.rows → d * whole + until k ≤ b * whole + until i
  until_whole d b i k l m =
      let up : suc d * whole ≤ b * whole = mul-le-mul_right whole l in
      let rise = until_rises p.rates p.firings p.cost p.rows (cells p ok) k (length p.rows) m in
      omega arith

  ends_sooner : (d k m b i : ℕ) (g : Firing) → IsAt p d k m g → IsSooner d k b i →
      d * whole + until k + p.cost g.actor ≤ b * whole + until i
  ends_sooner d k m b i g (h, e, is) sooner = go sooner
    where
      cost_is : p.cost h.actor ≡ p.cost g.actor
      cost_is = ap (λ (f : Firing). p.cost f.actor) is

      one : until k + p.cost h.actor ≤ until (suc k)
      one = cost_within p.rates p.firings p.cost p.rows (cells p ok) k m h e

      go : IsSooner d k b i → d * whole + until k + p.cost g.actor ≤ b * whole + until i
      go (inl low) =
          let up = until_whole d b i (suc k) low (row_in p.rows k m h e) in
          omega (arith, up, one, cost_is)
      go (inr (same, low)) =
          let rise = until_rises p.rates p.firings p.cost p.rows (cells p ok) (suc k) i low in
          let block_is : d * whole ≡ b * whole = ap (λ b. b * whole) same in
          omega (arith, rise, one, cost_is, block_is)

  rows_step : (g f : Firing) (w : ℕ) → g.actor < p.rates.actors → HoldsBack p g f w → (d k m b i j : ℕ) →
      (y : IsAt p d k m g) (z : IsAt p b i j f) →
      d * size p ok + place p.rows k m < b * size p ok + place p.rows i j →
      d * whole + until k + w ≤ b * whole + until i
  rows_step g f w known (inl (is, waits)) d k m b i j y z less =
      let s = row_earlier p ok g f known waits b i j z in
      let same = at_once p ok s.0 s.1 s.2 d k m g s.3 y in
      let sooner : IsSooner d k b i = as_same s.0 d s.1 k b i same.0 same.1 s.4 in
      omega (arith, is, ends_sooner d k m b i g y sooner)
    where
      as_same : (d' d k' k b i : ℕ) → d' ≡ d → k' ≡ k → IsSooner d' k' b i → IsSooner d k b i
      as_same d' d k' k b i ed ek (inl low) = inl (omega arith)
      as_same d' d k' k b i ed ek (inr (same, low)) = inr (omega arith, omega arith)
  rows_step g f w known (inr (is, room)) d k m b i j (h, e, its) (h', e', its') less =
      go (rank_parts p ok d b (place p.rows k m) (place p.rows i j) (place_in_block p ok d k m g (h, e, its))
      (place_in_block p ok b i j f (h', e', its')) less) (cases_lt i k)
    where
      go : (d < b) ⊎ ((d ≡ b) × (place p.rows k m < place p.rows i j)) → (i < k) ⊎ (k ≤ i) →
          d * whole + until k + w ≤ b * whole + until i
      go (inl low) x =
          let in_rows : k < length p.rows = row_in p.rows k m h e in
          omega (arith, is, until_whole d b i k low (omega arith))
      go (inr (same, low)) (inl after) = absurd (omega (arith, place_less p.rows i j k m h' h e' e after))
      go (inr (same, low)) (inr before) =
          let block_is : d * whole ≡ b * whole = ap (λ b. b * whole) same in
          omega (arith, is, block_is, until_rises p.rates p.firings p.cost p.rows (cells p ok) k i before)

  pub ends_by_rows : (end : ℕ) (b : ℕ) → IsBlockEnd p start b end → end ≤ suc b * whole
  ends_by_rows end b ends = go ends.reached
    where
      go : (end ≡ 0) ⊎ ((f : Firing) × IsOfBlock p.rates p.firings f × (end_of p.cost start (later p b f) ≡ end)) →
          end ≤ suc b * whole
      go (inl z) = omega arith
      go (inr (f, of, is)) =
          let c = (cells p ok).all f of in
          let low = within (λ b i j f z. b * whole + until i) rows_step (later p b f) b c.0 c.1 of.0 (f, c.2, refl) in
          let last = ends_sooner b c.0 c.1 (suc b) 0 (later p b f) (f, c.2, refl) (inl (omega arith)) in
          omega (arith, is, low, last)

  -- one firing after another
  abbrev upto : ℕ → ℕ
  upto m = sum_to (λ m. p.cost (firing (order p.rows) m).actor) m

  abbrev work : ℕ
  work = upto (length (order p.rows))

  upto_rises : (i k : ℕ) → i ≤ k → upto i ≤ upto k
  upto_rises i k l = sums_rise (λ m. p.cost (firing (order p.rows) m).actor) i k l

  ends_before : (d k m b i j : ℕ) (g f : Firing) → IsAt p d k m g → IsAt p b i j f →
      d * size p ok + place p.rows k m < b * size p ok + place p.rows i j →
      d * work + upto (place p.rows k m) + p.cost g.actor ≤ b * work + upto (place p.rows i j)
  ends_before d k m b i j g f (h, e, its) (h', e', its') less =
      go (rank_parts p ok d b (place p.rows k m) (place p.rows i j) (at_place p.rows k m h e).0
      (at_place p.rows i j h' e').0 less)
    where
      cost_is : p.cost (firing (order p.rows) (place p.rows k m)).actor ≡ p.cost g.actor
      cost_is = ap (λ (f : Firing). p.cost f.actor) ((at_place p.rows k m h e).1)
          ∙ ap (λ (f : Firing). p.cost f.actor) its

      go : (d < b) ⊎ ((d ≡ b) × (place p.rows k m < place p.rows i j)) →
          d * work + upto (place p.rows k m) + p.cost g.actor ≤ b * work + upto (place p.rows i j)
      go (inl low) =
          let up : suc d * work ≤ b * work = mul-le-mul_right work low in
          omega (
            arith,
            cost_is,
            up,
            upto_rises (suc (place p.rows k m)) (length (order p.rows))
                (at_place p.rows k m h e).0,
          )
      go (inr (same, low)) =
          let block_is : d * work ≡ b * work = ap (λ b. b * work) same in
          omega (arith, cost_is, block_is, upto_rises (suc (place p.rows k m)) (place p.rows i j) low)

  work_step : (g f : Firing) (w : ℕ) → g.actor < p.rates.actors → HoldsBack p g f w → (d k m b i j : ℕ) →
      (y : IsAt p d k m g) (z : IsAt p b i j f) →
      d * size p ok + place p.rows k m < b * size p ok + place p.rows i j →
      d * work + upto (place p.rows k m) + w ≤ b * work + upto (place p.rows i j)
  work_step g f w known (inl (is, _)) d k m b i j y z less = omega (arith, is, ends_before d k m b i j g f y z less)
  work_step g f w known (inr (is, _)) d k m b i j y z less = omega (arith, is, ends_before d k m b i j g f y z less)

  pub ends_by_work : (end : ℕ) (b : ℕ) → IsBlockEnd p start b end →
      end ≤ suc b * work_of p.rates.actors p.firings p.cost
  ends_by_work end b ends = go ends.reached
    where
      total : work ≡ work_of p.rates.actors p.firings p.cost
      total = places_worth p.cost (order p.rows) ∙ work_is p.cost p.rates p.firings p.rows ok.valid

      go : (end ≡ 0) ⊎ ((f : Firing) × IsOfBlock p.rates p.firings f × (end_of p.cost start (later p b f) ≡ end)) →
          end ≤ suc b * work_of p.rates.actors p.firings p.cost
      go (inl z) = omega arith
      go (inr (f, of, is)) =
          let c = (cells p ok).all f of in
          let at = at_place p.rows c.0 c.1 f c.2 in
          let low = within (λ b i j f z. b * work + upto (place p.rows i j)) work_step (later p b f) b c.0 c.1 of.0
          (f, c.2, refl) in
          let cost_is : p.cost (firing (order p.rows) (place p.rows c.0 c.1)).actor ≡ p.cost f.actor =
          ap (λ (f : Firing). p.cost f.actor) at.1 in
          let rise = upto_rises (suc (place p.rows c.0 c.1)) (length (order p.rows)) at.0 in
          let all : suc b * work ≡ suc b * work_of p.rates.actors p.firings p.cost = ap (λ w. suc b * w) total in
          omega (arith, is, low, rise, cost_is, all)

pub period_is_within_rows : PeriodIsWithinRows
period_is_within_rows p end t q ok ends period =
    period_within end t q (time_by_rows p.cost p.rows) period
    (λ b. ends_by_rows p ok ends.start ends.run (end b) b (ends.ends b))

pub period_is_within_work : PeriodIsWithinWork
period_is_within_work p end t q ok ends period =
    period_within end t q (work_of p.rates.actors p.firings p.cost) period
    (λ b. ends_by_work p ok ends.start ends.run (end b) b (ends.ends b))

sum_within : (f : ℕ → ℕ) (q t m : ℕ) → ((j : ℕ) → q * f j ≤ t) → q * sum_to f m ≤ t * m
sum_within f q t zero low = omega arith
sum_within f q t (suc m) low = let ih = sum_within f q t m low in omega (arith, ih, low m)

pub work_is_shared : WorkIsShared
work_is_shared p end t q m ok wide ends period =
    let all : sum_to (load_of p.cost p.rows) m ≡ work_of p.rates.actors p.firings p.cost =
    columns_do_work p.cost p.rates p.firings p.rows m ok.valid wide in
    let low = sum_within (load_of p.cost p.rows) q t m (λ j. loads_are_within p end t q j ok ends period) in
    omega (arith, low, ap (λ k. q * k) all)

pub one_column_works : OneColumnWorks
one_column_works p end ok narrow ends =
    let work : ℕ = work_of p.rates.actors p.firings p.cost in
    let all : 0 + load_of p.cost p.rows 0 ≡ work_of p.rates.actors p.firings p.cost =
    columns_do_work p.cost p.rates p.firings p.rows 1 ok.valid narrow in
    record {
      some = omega arith;
      bound = work_of p.rates.actors p.firings p.cost;
      late = λ b. omega (arith, ends_by_work p ok ends.start ends.run (end b) b (ends.ends b));
      soon = λ b. let done = load_in p ok ends.start ends.run 0 (end b) b (ends.ends b) in
          let same : suc b * load_of p.cost p.rows 0 ≡ suc b * work_of p.rates.actors p.firings p.cost =
          ap (λ w. suc b * w) (let e : load_of p.cost p.rows 0 ≡ work_of p.rates.actors p.firings p.cost =
          omega arith in e) in
          omega arith;
    }
