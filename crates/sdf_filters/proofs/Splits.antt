-- Stages one after another, and what is left of a ratio.
use Rattle.std.proofs.Common.{◌≡◌, ℕ, zero, suc, ◌+◌, ◌*◌, ◌/◌, ◌%◌, ◌<◌, ◌≤◌, ◌⊎◌, inl, inr, List, [], ◌∷◌, ◌++◌}
use Rattle.std.proofs.Common.{sym, ap, ◌∙◌, mul-le-mul_right, mul_assoc, arith, rules}
use Rattle.std.proofs.Math.Nat.{mod_self, mul-mod_left}
use Rattle.std.proofs.lemmas.Bool.{cases_lt}
use Rattle.std.proofs.lemmas.List.Elements.{All-push}
use Rattle.std.proofs.lemmas.Nat.Gcd.{mod-eq-zero_of_dvd}
use Rattle.std.specs.Int.{IsGcd}
use Rattle.sdf_filters.specs.declared.stage.Stage.{Stage}
use Rattle.sdf_filters.specs.Stages.{ups, downs, IsSplit, IsLowest, IsSplitOf, IsPart, IsTooLarge, HasNoFactor}
use Rattle.sdf_filters.specs.Stages.{IsPartFault, IsSplitFault, DoesSomething}
use Rattle.sdf_filters.specs.declared.fault.FilterFault.{FilterFault}
use Rattle.sdf_filters.specs.declared.fault.FilterFault.TheVariants.{OutOfMemory, Up, Shift, Attenuation}
use Rattle.sdf_filters.specs.declared.fault.FilterFault.TheVariants.{PassNotBelowStop, StopOverHalf, TooManyTaps}
use Rattle.sdf_filters.specs.declared.fault.FilterFault.TheVariants.{TapTooLarge, NoRate, FactorTooLarge, Channels}
use Rattle.sdf_filters.specs.declared.fault.FilterFault.TheVariants.{TooManyActors, TooLate}
use Rattle.sdf_filters.specs.declared.fault.FilterFault.TheVariants.{StopNotBelowPass, PassOverHalf, NothingPasses}
use Rattle.sdf_filters.specs.declared.fault.FilterFault.TheVariants.{UpOfHighpass, RateTooLarge, LowStopNotBelowLowPass}

ups-push : (stages : List Stage) (s : Stage) → ups (stages ++ s ∷ []) ≡ ups stages * s.up
ups-push [] s = omega arith
ups-push (t ∷ stages) s =
    let ih : ups (stages ++ s ∷ []) ≡ ups stages * s.up = ups-push stages s in
    ap (λ m. t.up * m) ih ∙ sym (mul_assoc t.up (ups stages) s.up)

downs-push : (stages : List Stage) (s : Stage) → downs (stages ++ s ∷ []) ≡ downs stages * s.down
downs-push [] s = omega arith
downs-push (t ∷ stages) s =
    let ih : downs (stages ++ s ∷ []) ≡ downs stages * s.down = downs-push stages s in
    ap (λ m. t.down * m) ih ∙ sym (mul_assoc t.down (downs stages) s.down)

-- what divides, times the quotient
pub divided : (n d : ℕ) → 0 < d → n % d ≡ 0 → d * (n / d) ≡ n
divided n d some none = omega arith

factor_some : (d q n : ℕ) → d * q ≡ n → 0 < n → 0 < q
factor_some d zero n e some = let z : d * zero ≡ 0 = omega arith in absurd (omega arith)
factor_some d (suc q) n e some = omega arith

no_greater : (d q n : ℕ) → d * q ≡ n → 1 ≤ d → q ≤ n
no_greater d q n e some = let h : 1 * q ≤ d * q = mul-le-mul_right q some in omega arith

lesser : (d q n : ℕ) → d * q ≡ n → 2 ≤ d → 0 < q → q < n
lesser d q n e more some = let h : 2 * q ≤ d * q = mul-le-mul_right q more in omega arith

-- before the first stage
pub none_yet : (up down : ℕ) → 0 < up → 0 < down → IsSplitOf up down up down []
none_yet up down up_some down_some = record {
  up_is = omega arith;
  down_is = omega arith;
  up_some = up_some;
  down_some = down_some;
  each = search rules;
}

-- one stage more
pub one_more : (up down up_left down_left : ℕ) (stages : List Stage) (s : Stage) →
    IsSplitOf up down up_left down_left stages → IsPart up_left down_left s →
    IsSplitOf up down (up_left / s.up) (down_left / s.down) (stages ++ s ∷ [])
one_more up down up_left down_left stages s before part =
    let up_is : s.up * (up_left / s.up) ≡ up_left = divided up_left s.up s.up_some part.up_divides in
    let down_is : s.down * (down_left / s.down) ≡ down_left = divided down_left s.down s.down_some part.down_divides in
    record {
      up_is = ap (λ m. m * (up_left / s.up)) (ups-push stages s)
          ∙ (mul_assoc (ups stages) s.up (up_left / s.up) ∙ (ap (λ m. ups stages * m) up_is ∙ before.up_is));
      down_is = ap (λ m. m * (down_left / s.down)) (downs-push stages s)
          ∙ (mul_assoc (downs stages) s.down (down_left / s.down)
          ∙ (ap (λ m. downs stages * m) down_is ∙ before.down_is));
      up_some = factor_some s.up (up_left / s.up) up_left up_is before.up_some;
      down_some = factor_some s.down (down_left / s.down) down_left down_is before.down_some;
      each = All-push DoesSomething stages s before.each part.some;
    }

-- less is left
pub less_left : (up_left down_left : ℕ) (s : Stage) → 0 < up_left → 0 < down_left → IsPart up_left down_left s →
    up_left / s.up + down_left / s.down < up_left + down_left
less_left up_left down_left s up_some down_some part = go (cases_lt 1 s.up)
  where
    up_is : s.up * (up_left / s.up) ≡ up_left
    up_is = divided up_left s.up s.up_some part.up_divides

    down_is : s.down * (down_left / s.down) ≡ down_left
    down_is = divided down_left s.down s.down_some part.down_divides

    go : (1 < s.up) ⊎ (s.up ≤ 1) → up_left / s.up + down_left / s.down < up_left + down_left
    go (inl more) =
        let a : up_left / s.up < up_left = lesser s.up (up_left / s.up) up_left up_is more
        (factor_some s.up (up_left / s.up) up_left up_is up_some) in
        let b : down_left / s.down ≤ down_left = no_greater s.down (down_left / s.down) down_left down_is s.down_some in
        omega arith
    go (inr one) =
        let a : up_left / s.up ≤ up_left = no_greater s.up (up_left / s.up) up_left up_is s.up_some in
        let many : 2 ≤ s.down = omega (arith, part.some) in
        let b : down_left / s.down < down_left = lesser s.down (down_left / s.down) down_left down_is many
        (factor_some s.down (down_left / s.down) down_left down_is down_some) in
        omega arith

-- where nothing is left
pub all_done : (up down up_left down_left : ℕ) (stages : List Stage) → IsSplitOf up down up_left down_left stages →
    up_left + down_left ≤ 2 → IsSplitOf up down 1 1 stages
all_done up down up_left down_left stages split few =
    let one : up_left ≡ 1 = omega (arith, split.up_some, split.down_some) in
    let one' : down_left ≡ 1 = omega (arith, split.up_some, split.down_some) in
    record {
      up_is = ap (λ m. ups stages * m) (sym one) ∙ split.up_is;
      down_is = ap (λ m. downs stages * m) (sym one') ∙ split.down_is;
      up_some = omega arith;
      down_some = omega arith;
      each = split.each;
    }

-- what is too large of what is left is too large of all
pub too_large_of_all : (up down up_left down_left factor : ℕ) (stages : List Stage) →
    IsSplitOf up down up_left down_left stages → IsTooLarge up_left down_left factor → IsTooLarge up down factor
too_large_of_all up down up_left down_left factor stages split large =
    record { large = large.large; of = of large.of; none = large.none }
  where
    multiple : (m n all : ℕ) → m * n ≡ all → n % factor ≡ 0 → all % factor ≡ 0
    multiple m n all e none =
        let is : factor * (n / factor) ≡ n = divided n factor (omega (arith, large.large)) none in
        let product : (m * (n / factor)) * factor ≡ all = omega (arith, ap (λ k. m * k) is, e) in
        ap (λ k. k % factor) (sym product) ∙ mul-mod_left (m * (n / factor)) factor

    of : (up_left % factor ≡ 0) ⊎ (down_left % factor ≡ 0) → (up % factor ≡ 0) ⊎ (down % factor ≡ 0)
    of (inl e) = inl (multiple (ups stages) up_left up split.up_is e)
    of (inr e) = inr (multiple (downs stages) down_left down split.down_is e)

-- stages of the ratio in lowest terms come to the ratio
pub split_is : (from to up down : ℕ) (stages : List Stage) → 0 < from → 0 < to → IsLowest from to up down →
    IsSplitOf up down 1 1 stages → IsSplit from to stages
split_is from to up down stages from_some to_some lowest split =
    let u : ups stages ≡ up = omega (arith, split.up_is) in
    let d : downs stages ≡ down = omega (arith, split.down_is) in
    let turned : up * (lowest.common * down) ≡ down * (lowest.common * up) = omega arith in
    record {
      from_some = from_some;
      to_some = to_some;
      product = ap (λ m. m * from) u ∙ (ap (λ m. up * m) lowest.from_is
          ∙ (turned ∙ (ap (λ m. down * m) (sym lowest.to_is) ∙ ap (λ m. m * to) (sym d))));
      each = split.each;
    }

-- a number over 1 that no number from 2 to 64 divides is over 64
pub over_limit : (n : ℕ) → 1 < n → HasNoFactor n → 64 < n
over_limit n more none = go (cases_lt 64 n)
  where
    go : (64 < n) ⊎ (n ≤ 64) → 64 < n
    go (inl h) = h
    go (inr few) = absurd (none n more few (mod_self n))

-- a ratio and its terms
pub lowest_is : (from to g : ℕ) → 0 < from → 0 < to → 0 < g → IsGcd from to g → IsLowest from to (to / g) (from / g)
lowest_is from to g from_some to_some some gcd =
    let from_is : g * (from / g) ≡ from = divided from g some (mod-eq-zero_of_dvd g gcd.0) in
    let to_is : g * (to / g) ≡ to = divided to g some (mod-eq-zero_of_dvd g gcd.1) in
    record {
      common = g;
      greatest = gcd;
      from_is = sym from_is;
      to_is = sym to_is;
      up_some = factor_some g (to / g) to to_is to_some;
      down_some = factor_some g (from / g) from from_is from_some;
    }

-- the fault of what is left is one of all
pub fault_of_all : (up down up_left down_left : ℕ) (stages : List Stage) → IsSplitOf up down up_left down_left stages →
    (e : FilterFault) → IsPartFault up_left down_left e → IsPartFault up down e
fault_of_all up down up_left down_left stages split OutOfMemory h = tt
fault_of_all up down up_left down_left stages split (FactorTooLarge factor) h =
    too_large_of_all up down up_left down_left factor stages split h
fault_of_all up down up_left down_left stages split (Up n) h = absurd h
fault_of_all up down up_left down_left stages split (Shift n) h = absurd h
fault_of_all up down up_left down_left stages split (Attenuation n) h = absurd h
fault_of_all up down up_left down_left stages split (PassNotBelowStop m n) h = absurd h
fault_of_all up down up_left down_left stages split (StopOverHalf m n) h = absurd h
fault_of_all up down up_left down_left stages split (TooManyTaps n) h = absurd h
fault_of_all up down up_left down_left stages split (TapTooLarge n) h = absurd h
fault_of_all up down up_left down_left stages split NoRate h = absurd h
fault_of_all up down up_left down_left stages split (StopNotBelowPass m n) h = absurd h
fault_of_all up down up_left down_left stages split (LowStopNotBelowLowPass m n) h = absurd h
fault_of_all up down up_left down_left stages split (PassOverHalf m n) h = absurd h
fault_of_all up down up_left down_left stages split (NothingPasses m n) h = absurd h
fault_of_all up down up_left down_left stages split (UpOfHighpass n) h = absurd h
fault_of_all up down up_left down_left stages split (RateTooLarge n) h = absurd h
fault_of_all up down up_left down_left stages split (Channels n) h = absurd h
fault_of_all up down up_left down_left stages split (TooManyActors m n) h = absurd h
fault_of_all up down up_left down_left stages split TooLate h = absurd h

-- and one of the rates
pub fault_of_rates : (from to up down : ℕ) → 0 < from → 0 < to → IsLowest from to up down → (e : FilterFault) →
    IsPartFault up down e → IsSplitFault from to e
fault_of_rates from to up down from_some to_some lowest OutOfMemory h = (from_some, to_some)
fault_of_rates from to up down from_some to_some lowest (FactorTooLarge factor) h =
    (from_some, to_some, up, down, lowest, h)
fault_of_rates from to up down from_some to_some lowest (Up n) h = absurd h
fault_of_rates from to up down from_some to_some lowest (Shift n) h = absurd h
fault_of_rates from to up down from_some to_some lowest (Attenuation n) h = absurd h
fault_of_rates from to up down from_some to_some lowest (PassNotBelowStop m n) h = absurd h
fault_of_rates from to up down from_some to_some lowest (StopOverHalf m n) h = absurd h
fault_of_rates from to up down from_some to_some lowest (TooManyTaps n) h = absurd h
fault_of_rates from to up down from_some to_some lowest (TapTooLarge n) h = absurd h
fault_of_rates from to up down from_some to_some lowest NoRate h = absurd h
fault_of_rates from to up down from_some to_some lowest (StopNotBelowPass m n) h = absurd h
fault_of_rates from to up down from_some to_some lowest (LowStopNotBelowLowPass m n) h = absurd h
fault_of_rates from to up down from_some to_some lowest (PassOverHalf m n) h = absurd h
fault_of_rates from to up down from_some to_some lowest (NothingPasses m n) h = absurd h
fault_of_rates from to up down from_some to_some lowest (UpOfHighpass n) h = absurd h
fault_of_rates from to up down from_some to_some lowest (RateTooLarge n) h = absurd h
fault_of_rates from to up down from_some to_some lowest (Channels n) h = absurd h
fault_of_rates from to up down from_some to_some lowest (TooManyActors m n) h = absurd h
fault_of_rates from to up down from_some to_some lowest TooLate h = absurd h
