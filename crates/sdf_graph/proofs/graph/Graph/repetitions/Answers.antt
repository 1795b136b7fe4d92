use Rattle.std.proofs.Common.{arith, inr, ◌≡◌, ◌<◌, ◌≤◌, ℕ, List, get_or, length, sum, map, sym, ap, ◌∙◌, subst}
use Rattle.std.proofs.lemmas.Result.{MatchResult-weaker}
use Rattle.sdf_graph.specs.declared.channel.Totals.{Totals}
use Rattle.sdf_graph.specs.declared.repetitions.Ratio.{Ratio}
use Rattle.sdf_graph.specs.Rates.{GraphValue, IsShape, rates, channel, cycle}
use Rattle.sdf_graph.specs.Periods.{Divides, IsLeastPeriod}
use Rattle.sdf_graph.specs.RelativeRates.{IsBalanced, IsBalancedAt, IsCommon, IsScaleFault, firings, ratio, totals}
use Rattle.sdf_graph.specs.RelativeRates.{no_totals}
use Rattle.std.proofs.Common.{MatchResult}
use Rattle.std.specs.List.{range_with_len}
use Rattle.std.proofs.lemmas.List.{length-map}
use Rattle.sdf_graph.proofs.RatioLaws.{must_even, no_common, totals_read, each_totals, all_totals}
use Rattle.sdf_graph.proofs.Shapes.{cycle_small}
use Rattle.sdf_graph.proofs.Faultless.{cycles_few}
use Rattle.sdf_graph.proofs.PeriodLaws.{cycles_in, in_cycles, none_long, fault_of, least_period}
use Rattle.sdf_graph.proofs.graph.Graph.repetitions.Goals as goal

-- a graph keeps what its channels move in a cycle
kept_are : {g value : GraphValue} {read kept : List Totals} → read ≡ kept → kept ≡ map totals g.channels → g ≡ value →
    read ≡ map totals value.channels
kept_are is sums view = is ∙ (sums ∙ ap (λ (s : GraphValue). map totals s.channels) view)

-- what holds of each channel holds of each entry that the graph keeps
each_kept : (value : GraphValue) {read : List Totals} (P : Totals → Type 0) → read ≡ map totals value.channels →
    ((d : ℕ) → d < length value.channels → P (totals (channel value d))) →
    (d : ℕ) → d < length read → P (get_or read d no_totals)
each_kept value P are each = subst (λ (xs : List Totals). (d : ℕ) → d < length xs → P (get_or xs d no_totals))
    (sym are) (all_totals P value.channels each)

pub returns-in-Some : goal.returns-in-Some
returns-in-Some c =
    let shape = subst IsShape c.self.view_is c.self.invariant.shape in
    let walk = c.in_ok-ratios.ensures in
    let sums = kept_are c.deref.ensures.value c.self.invariant.sums c.self.view_is in
    let unbalanced_channel = subst (λ (xs : List Totals). (c.in-Some.channel < length xs)
    × (IsBalanced c.in_ok-ratios.ratios.items (get_or xs c.in-Some.channel no_totals) → ⊥)
    × ((d : ℕ) → d < c.in-Some.channel → IsBalanced c.in_ok-ratios.ratios.items (get_or xs d no_totals))) sums
    (subst (λ (ps : List Ratio). (c.in-Some.channel < length c.deref.result.now)
    × (IsBalanced ps (get_or c.deref.result.now c.in-Some.channel no_totals) → ⊥)
    × ((d : ℕ) → d < c.in-Some.channel → IsBalanced ps (get_or c.deref.result.now d no_totals))) c.deref-2.ensures.value
    c.in-Some.ensures) in
    let within : c.in-Some.channel < length c.args.self.now.channels =
    omega (arith, unbalanced_channel.0, length-map c.args.self.now.channels totals) in
    let odd : IsBalancedAt c.args.self.now c.in_ok-ratios.ratios.items c.in-Some.channel → ⊥ = λ even.
    unbalanced_channel.1 (subst (IsBalanced c.in_ok-ratios.ratios.items)
    (sym (totals_read c.args.self.now.channels c.in-Some.channel within)) even) in
    record {
      none = λ p period. odd (must_even c.args.self.now c.in_ok-ratios.ratios.items walk
          (cycles_in c.args.self.now shape p) (in_cycles c.args.self.now shape p period) shape c.in-Some.channel
          within);
      meets = c.balance_of-balance.ensures.balance.0;
      differs = λ same. odd (subst (λ (ps : List Ratio). IsBalancedAt c.args.self.now ps c.in-Some.channel)
          c.deref-in-Some.ensures.value (c.balance_of-balance.ensures.even same));
      lowest = λ d l. subst (λ (ps : List Ratio). IsBalancedAt c.args.self.now ps d)
          (sym (c.balance_of-balance.ensures.balance.1 ∙ c.deref-in-Some.ensures.value))
          (subst (IsBalanced c.in_ok-ratios.ratios.items)
          (totals_read c.args.self.now.channels d (omega (arith, l, within))) (unbalanced_channel.2 d l));
    }

pub returns-in_default-common_denominator : goal.returns-in_default-common_denominator
returns-in_default-common_denominator c =
    let walk = c.in_ok-ratios.ensures in
    let shape = subst IsShape c.self.view_is c.self.invariant.shape in
    let sums = kept_are c.deref.ensures.value c.self.invariant.sums c.self.view_is in
    let is_balanced = subst (λ (xs : List Totals). (i : ℕ) → i < length xs →
    IsBalanced c.in_ok-ratios.ratios.items (get_or xs i no_totals)) sums
    (subst (λ (ps : List Ratio). (i : ℕ) → i < length c.deref.result.now →
    IsBalanced ps (get_or c.deref.result.now i no_totals)) c.deref-2.ensures.value (c.in_default.ensures)) in
    record {
      long = none_long c.args.self.now shape (no_common c.args.self.now shape c.in_ok-ratios.ratios.items walk
          (subst (λ (ps : List Ratio). (n : ℕ) → 0 < n → ((a : ℕ) → a < length ps → Divides (ratio ps a).den n) →
          65536 < n) c.deref-3.ensures.value (c.in_default-common_denominator.ensures)));
      why = inr (record {
        ratios = c.in_ok-ratios.ratios.items;
        shares = walk;
        even = each_totals (IsBalanced c.in_ok-ratios.ratios.items) c.args.self.now.channels is_balanced;
      });
    }

pub unbalanced_channel-requires-clause-from_in : goal.unbalanced_channel-requires-clause-from_in
unbalanced_channel-requires-clause-from_in c =
    let shape = subst IsShape c.self.view_is c.self.invariant.shape in
    each_kept c.args.self.now (λ t. t.from < length c.deref-2.result.now)
    (kept_are c.deref.ensures.value c.self.invariant.sums c.self.view_is)
    (λ d l. omega (arith, shape.from_in d l, c.in_ok-ratios.ensures.all, ap length c.deref-2.ensures.value))

pub unbalanced_channel-requires-clause-to_in : goal.unbalanced_channel-requires-clause-to_in
unbalanced_channel-requires-clause-to_in c =
    let shape = subst IsShape c.self.view_is c.self.invariant.shape in
    each_kept c.args.self.now (λ t. t.to < length c.deref-2.result.now)
    (kept_are c.deref.ensures.value c.self.invariant.sums c.self.view_is)
    (λ d l. omega (arith, shape.to_in d l, c.in_ok-ratios.ensures.all, ap length c.deref-2.ensures.value))

pub unbalanced_channel-requires-clause-put_small : goal.unbalanced_channel-requires-clause-put_small
unbalanced_channel-requires-clause-put_small c =
    let shape = subst IsShape c.self.view_is c.self.invariant.shape in
    each_kept c.args.self.now (λ t. t.put ≤ 65536)
    (kept_are c.deref.ensures.value c.self.invariant.sums c.self.view_is) (λ d l. cycle_small _ _ (shape.put d l))

pub unbalanced_channel-requires-clause-take_small : goal.unbalanced_channel-requires-clause-take_small
unbalanced_channel-requires-clause-take_small c =
    let shape = subst IsShape c.self.view_is c.self.invariant.shape in
    each_kept c.args.self.now (λ t. t.take ≤ 65536)
    (kept_are c.deref.ensures.value c.self.invariant.sums c.self.view_is) (λ d l. cycle_small _ _ (shape.take d l))

pub repetitions_in-requires-clause-short : goal.repetitions_in-requires-clause-short
repetitions_in-requires-clause-short c =
    subst (λ (xs : List ℕ). (a : ℕ) → get_or xs a 0 ≤ 64) (sym c.deref-4.ensures.value)
    (cycles_few _ c.self.invariant.shape c.self.inside.cycles.items c.self.invariant.cycles_all
    c.self.invariant.cycles_each)

pub returns : goal.returns
returns c =
    let shape = subst IsShape c.self.view_is c.self.invariant.shape in
    let walk = c.in_ok-ratios.ensures in
    let sums = kept_are c.deref.ensures.value c.self.invariant.sums c.self.view_is in
    let is_balanced = subst (λ (xs : List Totals). (i : ℕ) → i < length xs →
    IsBalanced c.in_ok-ratios.ratios.items (get_or xs i no_totals)) sums
    (subst (λ (ps : List Ratio). (i : ℕ) → i < length c.deref.result.now →
    IsBalanced ps (get_or c.deref.result.now i no_totals)) c.deref-2.ensures.value (c.in_default.ensures)) in
    let even = each_totals (IsBalanced c.in_ok-ratios.ratios.items) c.args.self.now.channels is_balanced in
    let common_denominator = subst (λ (ps : List Ratio). IsCommon ps (length ps) c.in-Some-common_denominator.all)
    c.deref-3.ensures.value
    c.in-Some-common_denominator.ensures.1 in
    let same : (a : ℕ) → a < c.args.self.now.actors → get_or c.self.inside.cycles.items a 0 ≡ cycle c.args.self.now a =
    subst (λ (s : GraphValue). (a : ℕ) → a < s.actors →
    get_or c.self.inside.cycles.items a 0 ≡ cycle s a) c.self.view_is
    c.self.invariant.cycles_each in
    let made = subst (λ (cs : List ℕ). MatchResult c.repetitions_in.result
    (λ q. (q ≡ map (firings cs c.in_ok-ratios.ratios.items c.in-Some-common_denominator.all)
    (range_with_len 0 (length c.in_ok-ratios.ratios.items))) × (sum q ≤ 65536))
    (IsScaleFault cs c.in_ok-ratios.ratios.items c.in-Some-common_denominator.all)) c.deref-4.ensures.value
    (subst (λ (ps : List Ratio). MatchResult c.repetitions_in.result
    (λ q. (q ≡ map (firings c.deref-4.result.now ps c.in-Some-common_denominator.all) (range_with_len 0 (length ps)))
    × (sum q ≤ 65536)) (IsScaleFault c.deref-4.result.now ps c.in-Some-common_denominator.all)) c.deref-5.ensures.value
    c.repetitions_in.ensures) in
    MatchResult-weaker c.repetitions_in.result made
    (λ q (e, small). (
      subst (IsLeastPeriod (rates c.args.self.now)) (sym e)
          (least_period c.args.self.now shape c.self.inside.cycles.items same c.in_ok-ratios.ratios.items walk
          c.in-Some-common_denominator.all common_denominator even),
      small,
    ))
    (fault_of c.args.self.now shape c.self.inside.cycles.items same c.in_ok-ratios.ratios.items walk
    c.in-Some-common_denominator.all common_denominator even)
