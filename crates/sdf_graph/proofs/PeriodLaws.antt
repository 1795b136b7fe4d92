-- Whole cycles and their firings: the period vectors of a graph are the vectors that balance what cycles move, by the
-- lengths of the cycles.
use Rattle.std.proofs.Common.{◌≡◌, ℕ, ◌*◌, ◌/◌, ◌≤◌, ◌<◌, Bool, List, length, get_or, map, sum, sym, ap, ◌∙◌, subst}
use Rattle.std.proofs.Common.{inl, inr, set}
use Rattle.std.proofs.Common.{◌⊎◌, arith, zero-add}
use Rattle.std.specs.List.{range_with_len}
use Rattle.std.proofs.Math.Nat.{mul-div_cancel, mul-le-mul_left}
use Rattle.std.proofs.lemmas.List.{get_or_past}
use Rattle.std.proofs.lemmas.List.FromFn.{length-map-range_with_len, get_or-map-range_with_len}
use Rattle.std.proofs.lemmas.Bool.{cases_lt}
use Rattle.sdf_graph.specs.Rates.{GraphValue, IsShape, rates, channel, cycle}
use Rattle.sdf_graph.specs.Periods.{IsPeriodVector, IsLeastPeriod, IsMultiple}
use Rattle.sdf_graph.specs.Faults.{IsPeriodFault, IsTooLong}
use Rattle.sdf_graph.specs.declared.fault.GraphFault.{GraphFault}
use Rattle.sdf_graph.specs.declared.fault.GraphFault.TheVariants.{OutOfMemory, PeriodTooLong}
use Rattle.sdf_graph.specs.declared.repetitions.Ratio.{Ratio}
use Rattle.sdf_graph.specs.RelativeRates.{IsCycleVector, AreRatios, IsCommon, IsBalanced, IsScaleFault, ratio, firings}
use Rattle.sdf_graph.specs.RelativeRates.{turns}
use Rattle.sdf_graph.specs.RelativeRates.{totals, IsRatio, IsWalk, IsBalancedAt}
use Rattle.sdf_graph.specs.Marks.{IsBorder}
use Rattle.sdf_limits.specs.declared.TheConstants.{MAX_PERIOD}
use Rattle.sdf_graph.proofs.Marks.{border_in}
use Rattle.sdf_graph.proofs.Cycles.{sum_within}
use Rattle.sdf_graph.proofs.Shapes.{whole_cycles}
use Rattle.sdf_graph.proofs.Faultless.{cycle_some}
use Rattle.sdf_graph.proofs.RatioLaws.{some_scale, some_product, no_greater, is_period, multiple, entry, too_long}

module _ (g : GraphValue) (shape : IsShape g) where
  -- how often each actor goes through its cycle, where it fires so often
  pub cycles_in : List ℕ → List ℕ
  cycles_in p = map (λ a. get_or p a 0 / cycle g a) (range_with_len 0 g.actors)

  cycles_all : (p : List ℕ) → length (cycles_in p) ≡ g.actors
  unfolding cycles_in
  cycles_all p = length-map-range_with_len (λ a. get_or p a 0 / cycle g a) 0 g.actors

  whole_in : (p : List ℕ) → IsPeriodVector (rates g) p → (a : ℕ) → a < g.actors →
      get_or p a 0 ≡ get_or (cycles_in p) a 0 * cycle g a
  unfolding cycles_in
  whole_in p period a l =
      let d = period.whole a l in
      let is : get_or p a 0 / cycle g a ≡ d.0 = ap (λ n. n / cycle g a) d.1
      ∙ mul-div_cancel d.0 (cycle_some g shape a) in
      d.1 ∙ ap (λ k. k * cycle g a) (sym (get_or-map-range_with_len (λ a. get_or p a 0 / cycle g a) 0 g.actors a a 0 l
      (zero-add a) ∙ is))

  pub in_cycles : (p : List ℕ) → IsPeriodVector (rates g) p → IsCycleVector g (cycles_in p)
  in_cycles p period = record {
    all = cycles_all p;
    positive = λ a l. some_scale (get_or (cycles_in p) a 0) (cycle g a) (get_or p a 0) (period.positive a l)
        (whole_in p period a l);
    balanced = λ c l.
        let from = (channel g c).from in
        let to = (channel g c).to in
        omega (
          arith,
          whole_cycles _ _ (shape.put c l) (get_or (cycles_in p) from 0) (get_or p from 0)
              (whole_in p period from (shape.from_in c l)),
          whole_cycles _ _ (shape.take c l) (get_or (cycles_in p) to 0) (get_or p to 0)
              (whole_in p period to (shape.to_in c l)),
          period.balanced c l,
        );
  }

  -- an actor fires no less often than it goes through its cycle
  pub sum_in : (p : List ℕ) → IsPeriodVector (rates g) p → sum (cycles_in p) ≤ sum p
  sum_in p period = sum_within (cycles_in p) p (cycles_all p ∙ sym period.all) (λ a. go a (cases_lt a g.actors))
    where
      go : (a : ℕ) → (a < g.actors) ⊎ (g.actors ≤ a) → get_or (cycles_in p) a 0 ≤ get_or p a 0
      go a (inl l) = omega (
        arith,
        whole_in p period a l,
        mul-le-mul_left (get_or (cycles_in p) a 0) (let h : 1 ≤ cycle g a =
            omega (arith, cycle_some g shape a) in h),
      )
      go a (inr past) = let none : get_or (cycles_in p) a 0 ≡ 0 =
          get_or_past (cycles_in p) a 0 (omega (arith, cycles_all p)) in omega arith

  -- where no cycles balance, no firings do
  pub none_long : ((p : List ℕ) → IsCycleVector g p → 65536 < sum p) → (p : List ℕ) → IsPeriodVector (rates g) p →
      65536 < sum p
  none_long long p period = omega (arith, long (cycles_in p) (in_cycles p period), sum_in p period)

  module _ (cycles : List ℕ) (same : (a : ℕ) → a < g.actors → get_or cycles a 0 ≡ cycle g a) (ratios : List Ratio)
      (walk : AreRatios g ratios)
      (m : ℕ) (common_denominator : IsCommon ratios (length ratios) m)
      (is_balanced : (c : ℕ) → c < length g.channels → IsBalanced ratios (totals (channel g c))) where
    fired : List ℕ
    fired = map (firings cycles ratios m) (range_with_len 0 (length ratios))

    turned : List ℕ
    turned = map (turns m) ratios

    turned_are : IsCycleVector g turned
    unfolding turned
    turned_are = is_period g ratios walk m common_denominator shape is_balanced

    fired_all : length fired ≡ g.actors
    unfolding fired
    fired_all = length-map-range_with_len (firings cycles ratios m) 0 (length ratios) ∙ walk.all

    fired_at : (a : ℕ) → a < g.actors → get_or fired a 0 ≡ get_or turned a 0 * cycle g a
    unfolding fired turned
    fired_at a l =
        get_or-map-range_with_len (firings cycles ratios m) 0 (length ratios) a a 0
        (omega (arith, walk.all)) (zero-add a) ∙
        omega (
          arith,
          ap (λ n. n * turns m (ratio ratios a)) (same a l),
          ap (λ n. n * cycle g a) (entry g ratios walk m common_denominator a l),
        )

    are_period : IsPeriodVector (rates g) fired
    are_period = record {
      all = fired_all;
      positive = λ a l. subst (λ n. 0 < n) (sym (fired_at a l))
          (some_product (get_or turned a 0) (cycle g a) (turned_are.positive a l) (cycle_some g shape a));
      whole = λ a l. (get_or turned a 0, fired_at a l);
      balanced = λ c l.
          let from = (channel g c).from in
          let to = (channel g c).to in
          omega (
            arith,
            whole_cycles _ _ (shape.put c l) (get_or turned from 0) (get_or fired from 0)
                (fired_at from (shape.from_in c l)),
            whole_cycles _ _ (shape.take c l) (get_or turned to 0) (get_or fired to 0) (fired_at to (shape.to_in c l)),
            turned_are.balanced c l,
          );
    }

    multiple_of : (p : List ℕ) → IsPeriodVector (rates g) p → IsMultiple p fired
    unfolding turned
    multiple_of p period = (k.0, λ a. go a (cases_lt a g.actors))
      where
        k : IsMultiple (cycles_in p) turned
        k = multiple g ratios walk m common_denominator (cycles_in p) (in_cycles p period) shape.some

        go : (a : ℕ) → (a < g.actors) ⊎ (g.actors ≤ a) → get_or p a 0 ≡ k.0 * get_or fired a 0
        go a (inl l) = omega (
          arith,
          whole_in p period a l,
          ap (λ n. n * cycle g a) (k.1 a),
          ap (λ n. k.0 * n) (fired_at a l),
        )
        go a (inr past) =
            let none : get_or p a 0 ≡ 0 = get_or_past p a 0 (omega (arith, period.all)) in
            let none' : get_or fired a 0 ≡ 0 = get_or_past fired a 0 (omega (arith, fired_all)) in
            none ∙ sym (ap (λ n. k.0 * n) none' ∙ omega arith)

    least : IsLeastPeriod (rates g) fired
    least = record {
      is = are_period;
      least = λ p period. sum_within fired p (fired_all ∙ sym period.all)
          (λ a. no_less p period a (cases_lt a g.actors));
      divides = multiple_of;
    }
      where
        no_less : (p : List ℕ) → IsPeriodVector (rates g) p → (a : ℕ) → (a < g.actors) ⊎ (g.actors ≤ a) →
            get_or fired a 0 ≤ get_or p a 0
        no_less p period a (inl l) = let k = multiple_of p period in
            no_greater (get_or fired a 0) (get_or p a 0) (period.positive a l) (k.0, k.1 a)
        no_less p period a (inr past) = let none : get_or fired a 0 ≡ 0 =
            get_or_past fired a 0 (omega (arith, fired_all)) in omega arith

    pub least_period : IsLeastPeriod (rates g) (map (firings cycles ratios m) (range_with_len 0 (length ratios)))
    unfolding fired
    least_period = least

    -- no period where the least is over the limit
    pub fault_of : (e : GraphFault) → IsScaleFault cycles ratios m e → IsPeriodFault g e
    fault_of OutOfMemory f = tt
    fault_of PeriodTooLong f = record {
      long = λ p period. omega (arith, least_period.least p period, f);
      why = inr (record { ratios = ratios; shares = walk; even = is_balanced });
    }
    fault_of _ f = absurd f

-- no period where the relative rate of the actor beyond a border is too great
pub share_long : (g : GraphValue) → IsShape g → (ratios : List Ratio) (marked : List Bool) → IsWalk g ratios marked →
    (c a : ℕ) → IsBorder g.channels marked c a → (f : Ratio) → IsRatio g a f → IsBalancedAt g (set ratios a f) c →
    (MAX_PERIOD < f.num) ⊎ (MAX_PERIOD < f.den) → IsTooLong g
share_long g shape ratios marked walk c a border f share even far = record {
  long = none_long g shape (too_long g a f (border_in g shape marked c a border) shape.some share far);
  why = inl (record {
    ratios = ratios;
    marked = marked;
    walk = walk;
    over = c;
    actor = a;
    border = border;
    rate = f;
    share = share;
    even = even;
    far = far;
  });
}
