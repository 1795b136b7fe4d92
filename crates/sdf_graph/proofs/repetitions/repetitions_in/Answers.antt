use Rattle.std.proofs.Common.{rules, ◌≡◌, ℕ, ◌+◌, ◌*◌, ◌≤◌, ◌/◌, List, [], ◌∷◌, ◌++◌, length, map, sum, sym, ap, ◌∙◌}
use Rattle.std.proofs.Common.{subst, arith, zero-add}
use Rattle.std.specs.List.{range_with_len}
use Rattle.std.proofs.Math.Nat.{mul-le-mul}
use Rattle.std.proofs.lemmas.List.FromFn.{map-range_with_len_more, take-map-range_with_len}
use Rattle.std.proofs.lemmas.List.FromFn.{sum_by-map-range_with_len_more}
use Rattle.std.proofs.lemmas.List.Sums.{sum_by-take-le, sum_by-append, sum_by-cons}
use Rattle.sdf_graph.specs.RelativeRates.{firings, turns, ratio}
use Rattle.sdf_graph.proofs.repetitions.repetitions_in.Goals as goal

turns_small : (m d n : ℕ) → m ≤ 65536 → n ≤ 65536 → m / d * n ≤ 4294967296
turns_small m d n few small = mul-le-mul (let q : m / d ≤ 65536 = omega arith in q) small

firings_small : (k m d n : ℕ) → k ≤ 64 → m ≤ 65536 → n ≤ 65536 → k * (m / d * n) ≤ 274877906944
firings_small k m d n short few small = mul-le-mul short (turns_small m d n few small)

pub loop-actor-init : goal.loop-actor-init
loop-actor-init c = record {
  made = c.in_ok-of.ensures.items;
  sum = ap sum c.in_ok-of.ensures.items;
  small = omega arith;
  room = c.in_ok-of.ensures.capacity;
  at = c.in_ok-of.ensures.len;
}

pub nonzero_div-turns : goal.nonzero_div-turns
nonzero_div-turns c = (c.requires.each c.loop-actor.actor c.loop-actor-test.true).0

pub overflow_mul-turns : goal.overflow_mul-turns
overflow_mul-turns c =
    let part = ratio c.args.ratios.now c.loop-actor.actor in
    omega (
      arith,
      turns_small c.args.all part.den part.num c.requires.limit
          (c.requires.each c.loop-actor.actor c.loop-actor-test.true).1.top,
    )

pub overflow_mul-firings : goal.overflow_mul-firings
overflow_mul-firings c =
    let part = ratio c.args.ratios.now c.loop-actor.actor in
    let short : c.from.result ≤ 64 = omega (arith, c.from.ensures, c.requires.short c.loop-actor.actor) in
    omega (
      arith,
      firings_small c.from.result c.args.all part.den part.num short c.requires.limit
          (c.requires.each c.loop-actor.actor c.loop-actor-test.true).1.top,
    )

pub overflow_add-period : goal.overflow_add-period
overflow_add-period c =
    let part = ratio c.args.ratios.now c.loop-actor.actor in
    let short : c.from.result ≤ 64 = omega (arith, c.from.ensures, c.requires.short c.loop-actor.actor) in
    omega (
      arith,
      c.loop-actor.invariant.small,
      firings_small c.from.result c.args.all part.den part.num short
          c.requires.limit (c.requires.each c.loop-actor.actor c.loop-actor-test.true).1.top,
    )

pub overflow_cast-firings : goal.overflow_cast-firings
overflow_cast-firings c = omega (arith, c.if-period-gt-MAX_PERIOD.false)

pub push_reserved-requires : goal.push_reserved-requires
push_reserved-requires c = omega (arith, c.loop-actor.invariant.at, c.loop-actor.invariant.room, c.loop-actor-test.true)

pub overflow_cast-result : goal.overflow_cast-result
overflow_cast-result c = omega (arith, c.loop-actor.invariant.small)

pub invariant_of-result : goal.invariant_of-result
invariant_of-result c = (c.loop-actor.invariant.sum, c.loop-actor.invariant.small)

pub returns : goal.returns
returns c =
    let end : c.loop-actor.actor ≡ length c.args.ratios.now =
    omega (arith, c.loop-actor.auto.actor-end, c.loop-actor-test.false) in (
      c.loop-actor.invariant.made ∙ ap (λ n. map (firings c.args.cycles.now c.args.ratios.now c.args.all)
          (range_with_len 0 n)) end,
      omega (arith, c.loop-actor.invariant.sum, c.loop-actor.invariant.small),
    )

pub returns-then-period-gt-MAX_PERIOD : goal.returns-then-period-gt-MAX_PERIOD
returns-then-period-gt-MAX_PERIOD c =
    let n = c.loop-actor.actor in
    let F : ℕ → ℕ = firings c.args.cycles.now c.args.ratios.now c.args.all in
    let all : List ℕ = map F (range_with_len 0 (length c.args.ratios.now)) in
    let is : c.from.result * turns c.args.all (ratio c.args.ratios.now n) ≡ F n =
    ap (λ m. m * turns c.args.all (ratio c.args.ratios.now n)) c.from.ensures in
    let before : sum (map F (range_with_len 0 n)) ≡ c.loop-actor.period =
    ap sum (sym c.loop-actor.invariant.made) ∙ c.loop-actor.invariant.sum in
    let front : sum (map F (range_with_len 0 (n + 1))) ≤ sum all =
    subst (λ (xs : List ℕ). sum xs ≤ sum all) (take-map-range_with_len F 0 (length c.args.ratios.now) (n + 1)
    (omega arith)) (sum_by-take-le (λ x. x) all (n + 1)) in
    omega (arith, is, before, front, sum_by-map-range_with_len_more (λ x. x) F 0 n n (zero-add n))

pub loop-actor-preserved : goal.loop-actor-preserved
loop-actor-preserved c =
    let n = c.loop-actor.actor in
    let F : ℕ → ℕ = firings c.args.cycles.now c.args.ratios.now c.args.all in
    let is : c.from.result * turns c.args.all (ratio c.args.ratios.now n) ≡ F n =
    ap (λ m. m * turns c.args.all (ratio c.args.ratios.now n)) c.from.ensures in
    record {
      made = c.push_reserved.ensures.items ∙ (ap (λ (xs : List ℕ). xs
          ++ c.from.result * turns c.args.all (ratio c.args.ratios.now n) ∷ []) c.loop-actor.invariant.made ∙
          (ap (λ y. map F (range_with_len 0 n) ++ y ∷ []) is ∙ sym (map-range_with_len_more F 0 n n (zero-add n))));
      sum = ap sum c.push_reserved.ensures.items ∙ (sum_by-append (λ x. x) c.loop-actor.of.items
          (c.from.result * turns c.args.all (ratio c.args.ratios.now n) ∷ [])
          ∙ omega (
            arith,
            c.loop-actor.invariant.sum,
            sum_by-cons (λ x. x) (c.from.result * turns c.args.all (ratio c.args.ratios.now n)) [],
          ));
      small = search rules;
      room = search rules;
      at = search rules;
    }
