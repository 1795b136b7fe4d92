-- What a firing of a later block takes or puts with all before it.
use Rattle.std.proofs.Common.{◌≡◌, ℕ, ◌+◌, ◌*◌, ◌^◌, ◌<◌, List, length, get_or, ap, ◌∙◌, arith, ◌↔◌, IsTrue, ltb}
use Rattle.std.proofs.Common.{ltb-true, lt-ltb}
use Rattle.sdf_graph.specs.Rates.{GraphValue, IsShape, rate_at, channel, sum_to}
use Rattle.sdf_prec.specs.Blocks.{block}
use Rattle.sdf_prec.specs.Tables.{TableValue}
use Rattle.sdf_prec.specs.declared.firing.Firing.{Firing}
use Rattle.sdf_times.specs.declared.step.Hold.TheVariants.{Samples, Room}
use Rattle.sdf_times.specs.Rounds.{IsHeld}
use Rattle.sdf_times.specs.SelfTimed.{IsPlan}
use Rattle.sdf_times.specs.Checks.{plan_of, IsBlockRun}
use Rattle.sdf_times.proofs.Laters.{taken_next, put_next}
use Rattle.sdf_times.proofs.Settings.{is_plan, few}

module _ (g : GraphValue) (shape : IsShape g) (reps : List ℕ) (j width : ℕ) (t : TableValue) (costs : List ℕ)
    (run : IsBlockRun g reps j width t costs) (c : ℕ) (l : c < length g.channels) where
  ok : IsPlan (plan_of g (block j reps) t costs)
  ok = is_plan g shape reps j width t costs run

  pub taken_at : (b i a : ℕ) → (channel g c).to ≡ a →
      sum_to (rate_at (channel g c).take) (b * get_or (block j reps) a 0 + i + 1) ≡
      b * sum_to (rate_at (channel g c).take) (get_or (block j reps) (channel g c).to 0)
      + sum_to (rate_at (channel g c).take) (i + 1)
  taken_at b i a into =
      taken_next (plan_of g (block j reps) t costs) ok c b i a l into
      ∙ ap (λ m. b * m + sum_to (rate_at (channel g c).take) (i + 1)) (ok.period.balanced c l)

  pub put_at : (b i a : ℕ) → (channel g c).from ≡ a →
      sum_to (rate_at (channel g c).put) (b * get_or (block j reps) a 0 + i + 1) ≡
      b * sum_to (rate_at (channel g c).put) (get_or (block j reps) (channel g c).from 0)
      + sum_to (rate_at (channel g c).put) (i + 1)
  put_at b i a from = put_next (plan_of g (block j reps) t costs) ok c b i a l from

  pub samples_exactly : (before firing : Firing) (blocks x y : ℕ) → (channel g c).to ≡ firing.actor →
      (channel g c).from ≡ before.actor →
      x ≡ (channel g c).initial + sum_to (rate_at (channel g c).put) before.number →
      y ≡ blocks * sum_to (rate_at (channel g c).take) (get_or (block j reps) (channel g c).to 0)
      + sum_to (rate_at (channel g c).take) (firing.number + 1) →
      IsTrue (ltb x y) ↔ IsHeld (plan_of g (block j reps) t costs) before firing blocks (Samples c)
  samples_exactly before firing blocks x y into from xs ys =
      let all = taken_at blocks firing.number firing.actor into in (
        λ h. (l, into, from, omega (arith, ltb-true x y h, xs, ys, all)),
        λ w. lt-ltb x y (omega (arith, w.3, xs, ys, all)),
      )

  pub room_exactly : (before firing : Firing) (blocks x y : ℕ) → (channel g c).from ≡ firing.actor →
      (channel g c).to ≡ before.actor → ((channel g c).from ≡ (channel g c).to → ⊥) →
      x ≡ get_or t.caps c 0 + sum_to (rate_at (channel g c).take) before.number →
      y ≡ (channel g c).initial + (blocks * sum_to (rate_at (channel g c).put)
      (get_or (block j reps) (channel g c).from 0)
      + sum_to (rate_at (channel g c).put) (firing.number + 1)) →
      IsTrue (ltb x y) ↔ IsHeld (plan_of g (block j reps) t costs) before firing blocks (Room c)
  room_exactly before firing blocks x y from into apart xs ys =
      let all = put_at blocks firing.number firing.actor from in (
        λ h. (l, from, into, apart, omega (arith, ltb-true x y h, xs, ys, all)),
        λ w. lt-ltb x y (omega (arith, w.4, xs, ys, all)),
      )

  pub few_at : (a many : ℕ) → many ≡ get_or (block j reps) a 0 → many < 2 ^ 20
  few_at a many is = omega (arith, is, few g shape reps j width t costs run a)
