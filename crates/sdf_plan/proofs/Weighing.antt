-- What the actors of a design weigh is within the limits of loads.
use Rattle.std.proofs.Common.{◌≡◌, ◌⊎◌, inl, inr, ℕ, ◌+◌, ◌*◌, ◌<◌, ◌≤◌, Bool, true, false, length, map, slice_index}
use Rattle.std.proofs.Common.{if◌then◌else◌, List, [], ◌∷◌, ◌++◌, arith, ap, sym, subst, ◌∙◌}
use Rattle.std.specs.List.{range_with_len}
use Rattle.std.proofs.Math.Nat.{mul-le-mul}
use Rattle.std.proofs.lemmas.Bool.{cases_lt}
use Rattle.std.proofs.lemmas.List.{get_or_past}
use Rattle.std.proofs.lemmas.List.FromFn.{get_or-map-range_with_len, length-map-range_with_len}
use Rattle.std.proofs.lemmas.List.FromFn.{map-range_with_len_more}
use Rattle.std.proofs.lemmas.List.Sums.{get_or-le-sum_by}
use Rattle.sdf_limits.specs.declared.TheConstants.{MAX_ACTORS, MAX_BLOCK, MAX_COST}
use Rattle.sdf_actor.specs.Nets.{node}
use Rattle.sdf_actor.specs.declared.node.Node.{Node}
use Rattle.sdf_actor.specs.declared.node.Node.TheVariants.{Source, Sink, Inner}
use Rattle.sdf_kit.specs.declared.kit.Kit.{Kit}
use Rattle.sdf_sched.specs.Period.{Schedule, IsPeriodOf}
use Rattle.sdf_file.specs.Designs.{DesignValue, IsDesign}
use Rattle.sdf_prec.specs.Costs.{IsCost}
use Rattle.sdf_plan.specs.Placements.{rates_of}
use Rattle.sdf_prec.specs.Spread.{AreLoads}
use Rattle.sdf_plan.specs.Weights.{clamp_cost, node_load, firing_weight, weights_by}

-- one more weight
pub one_more : (f : ℕ → ℕ) (n : ℕ) (xs : List ℕ) (x : ℕ) → xs ≡ map f (range_with_len 0 n) → x ≡ f n →
    xs ++ x ∷ [] ≡ map f (range_with_len 0 (n + 1))
one_more f n xs x all one =
    ap (λ ys. ys ++ x ∷ []) all
    ∙ (ap (λ y. map f (range_with_len 0 n) ++ y ∷ []) one ∙ sym (map-range_with_len_more f 0 n n (omega arith)))

is_cost : (weight : ℕ) → IsCost (clamp_cost weight)
is_cost weight = (omega arith, omega arith)

load_is_cost : (x : Node Kit) → IsCost (node_load x)
load_is_cost (Source channel block) = is_cost _
load_is_cost (Sink channel block) = is_cost _
load_is_cost (Inner kit) = is_cost _

chosen : (free : Bool) (x y : ℕ) → IsCost x → IsCost y → IsCost (if free then x else y)
chosen true x y one other = one
chosen false x y one other = other

weight_is_cost : (d : DesignValue) (by_kind : Bool) (a : ℕ) → IsDesign d → a < length d.net.nodes →
    IsCost (firing_weight d by_kind a)
weight_is_cost d by_kind a is known =
    chosen by_kind (node_load (node d.net a)) (slice_index d.costs a) (load_is_cost (node d.net a))
    (is.priced.each a known)

-- some firings of some weight, both within their limits
weighed : (q w : ℕ) → 0 < q → q ≤ MAX_BLOCK → IsCost w → (0 < q * w) × (q * w ≤ MAX_BLOCK * MAX_COST)
weighed q w some few cost =
    let one : 1 ≤ q = omega (arith, some) in
    let least : 1 * 1 ≤ q * w = mul-le-mul one cost.0 in
    (omega (arith, least), mul-le-mul few cost.1)

module _ (d : DesignValue) (by_kind : Bool) (s : Schedule) (is : IsDesign d) (period : IsPeriodOf (rates_of d) s)
    (few : length d.net.nodes ≤ MAX_ACTORS) where
  abbrev weight : ℕ → ℕ
  weight a = slice_index s.repetitions a * firing_weight d by_kind a

  at : (a : ℕ) → a < length d.net.nodes → slice_index (weights_by d by_kind s.repetitions) a ≡ weight a
  at a known = get_or-map-range_with_len weight 0 (length d.net.nodes) a a 0 known (omega arith)

  within : (a : ℕ) → a < length d.net.nodes → (0 < weight a) × (weight a ≤ MAX_BLOCK * MAX_COST)
  within a known =
      let firings : slice_index s.repetitions a ≤ MAX_BLOCK = omega (
        arith,
        period.all,
        period.within,
        get_or-le-sum_by (λ q. q) s.repetitions a 0 (omega (arith, period.least.is.all, known)),
      ) in
      weighed (slice_index s.repetitions a) (firing_weight d by_kind a) (period.least.is.positive a known) firings
      (weight_is_cost d by_kind a is known)

  small : (a : ℕ) → (a < length d.net.nodes) ⊎ (length d.net.nodes ≤ a) →
      slice_index (weights_by d by_kind s.repetitions) a ≤ MAX_BLOCK * MAX_COST
  small a (inl known) = subst (λ w. w ≤ MAX_BLOCK * MAX_COST) (sym (at a known)) (within a known).1
  small a (inr past) =
      let none : slice_index (weights_by d by_kind s.repetitions) a ≡ 0 =
      get_or_past (weights_by d by_kind s.repetitions) a 0
      (subst (λ n. n ≤ a) (sym (length-map-range_with_len weight 0 (length d.net.nodes))) past) in
      omega (arith, none)

  pub are_loads : AreLoads (length d.net.nodes) (weights_by d by_kind s.repetitions)
  are_loads = record {
    all = length-map-range_with_len weight 0 (length d.net.nodes);
    few = few;
    some = λ a known. subst (λ w. 0 < w) (sym (at a known)) (within a known).0;
    small = λ a. small a (cases_lt a (length d.net.nodes));
  }
