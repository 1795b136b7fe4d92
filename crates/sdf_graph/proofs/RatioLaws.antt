-- Relative rates, common denominators, and the vector that they give.
use Rattle.std.proofs.Common.{◌≡◌, ℕ, zero, suc, ◌+◌, ◌*◌, ◌/◌, ◌≤◌, ◌<◌, Bool, true, false, List, length, get_or, map}
use Rattle.std.proofs.Common.{sum, set, replicate, sym, ap, ◌∙◌, subst, inl, inr, ◌⊎◌, refl, arith}
use Rattle.std.proofs.Math.Nat.{mul-div_cancel, eq_of_mul-eq-mul_left, mul-le-mul_right}
use Rattle.std.proofs.lemmas.List.{get_or-map, get_or_past, length-map, get_or-set_same, get_or-set_other, length-set}
use Rattle.std.proofs.lemmas.List.{length-replicate, get_or-replicate}
use Rattle.std.proofs.lemmas.List.Sums.{get_or-le-sum_by}
use Rattle.std.proofs.lemmas.Bool.{cases_lt, cases_eq, both_ways}
use Rattle.sdf_graph.specs.Rates.{GraphValue, ChannelValue, IsShape, channel, no_channel}
use Rattle.sdf_graph.specs.Periods.{Divides, IsMultiple}
use Rattle.sdf_graph.specs.Marks.{is_marked, IsClosed}
use Rattle.sdf_graph.proofs.Marks.{is_marked-kept, only_first, all_marked}
use Rattle.sdf_graph.proofs.Ties.{tied_by}
use Rattle.sdf_graph.specs.declared.channel.Totals.{Totals}
use Rattle.sdf_graph.specs.declared.repetitions.Ratio.{Ratio}
use Rattle.sdf_graph.specs.RelativeRates.{IsReduced, IsRatio, IsSmall, IsWalk, AreRatios, IsCommon, IsBalanced}
use Rattle.sdf_graph.specs.RelativeRates.{IsCycleVector}
use Rattle.sdf_graph.specs.RelativeRates.{IsReachedBy, start, IsBalancedAt, IsBalancedWithin, ratio, unreached, one}
use Rattle.sdf_graph.specs.RelativeRates.{turns, totals}
use Rattle.sdf_graph.specs.RelativeRates.{no_totals}

-- what channels move in a cycle, read by number
pub totals_read : (chs : List ChannelValue) (c : ℕ) → c < length chs →
    get_or (map totals chs) c no_totals ≡ totals (get_or chs c no_channel)
totals_read chs c l = get_or-map totals chs c no_channel no_totals l

pub each_totals : (P : Totals → Type 0) (chs : List ChannelValue) →
    ((c : ℕ) → c < length (map totals chs) → P (get_or (map totals chs) c no_totals)) → (c : ℕ) → c < length chs →
    P (totals (get_or chs c no_channel))
each_totals P chs all c l = subst P (totals_read chs c l) (all c (omega (arith, length-map chs totals)))

pub all_totals : (P : Totals → Type 0) (chs : List ChannelValue) →
    ((c : ℕ) → c < length chs → P (totals (get_or chs c no_channel))) → (c : ℕ) → c < length (map totals chs) →
    P (get_or (map totals chs) c no_totals)
all_totals P chs all c l = let k : c < length chs = omega (arith, length-map chs totals) in
    subst P (sym (totals_read chs c k)) (all c k)

-- what a channel moves in a cycle, where it is read of the sums that a graph keeps
pub totals_kept : (chs : List ChannelValue) (kept : List Totals) (c : ℕ) (t : Totals) → kept ≡ map totals chs →
    c < length chs →
    t ≡ get_or kept c no_totals → totals (get_or chs c no_channel) ≡ t
totals_kept chs kept c t sums l read = sym (totals_read chs c l)
    ∙ (ap (λ (xs : List Totals). get_or xs c no_totals) (sym sums) ∙ sym read)

-- a product of numbers above nothing is above nothing, and so are its factors
pub some_factor : (s a n : ℕ) → 0 < n → n ≡ s * a → 0 < a
some_factor s zero n some e = omega arith
some_factor s (suc a) n some e = omega arith

pub some_scale : (s a n : ℕ) → 0 < n → n ≡ s * a → 0 < s
some_scale zero a n some e = let z : zero * a ≡ 0 = omega arith in omega arith
some_scale (suc s) a n some e = omega arith

pub some_product : (m b : ℕ) → 0 < m → 0 < b → 0 < m * b
some_product (suc m) (suc b) h k = omega arith
some_product (suc m) zero h k = omega arith
some_product zero b h k = omega arith

-- what divides a number above nothing is no greater
pub no_greater : (d n : ℕ) → 0 < n → Divides d n → d ≤ n
no_greater d n some (zero, e) = omega arith
no_greater d n some (suc k, e) = omega (arith, mul-le-mul_right d (let h : 1 ≤ suc k = omega arith in h))

-- a relative rate goes over a channel: near is x cycles, far is y
pub share_over : (x y z gives takes num den a b : ℕ) → x * den ≡ z * num → gives * x ≡ takes * y → 0 < num * gives →
    IsReduced (num * gives) (den * takes) a b → y * b ≡ z * a
share_over x y z gives takes num den a b near even some red =
    eq_of_mul-eq-mul_left red.scale (some_scale red.scale a (num * gives) some red.top) (y * b) (z * a)
    (omega (
      arith,
      ap (λ m. y * m) red.bottom,
      ap (λ m. z * m) red.top,
      ap (λ m. m * den) even,
      ap (λ m. m * gives) near,
    ))

-- one denominator more
pub common_more : (ratios : List Ratio) (i m a b : ℕ) → IsCommon ratios i m → 0 < (ratio ratios i).den →
    IsReduced m (ratio ratios i).den a b → IsCommon ratios (i + 1) (m * b)
common_more ratios i m a b before some red = record {
  some = some_product m b before.some (some_factor red.scale b (ratio ratios i).den some red.bottom);
  each = λ c h. go c (cases_lt c i) h;
  least = λ x all. over x (before.least x (λ c h. all c (omega arith))) (all i (omega arith));
}
  where
    go : (c : ℕ) → (c < i) ⊎ (i ≤ c) → c < i + 1 → Divides (ratio ratios c).den (m * b)
    go c (inl early) h = let d = before.each c early in (d.0 * b, omega (arith, ap (λ m. m * b) d.1))
    go c (inr here) h =
        let is : i ≡ c = omega arith in
        subst (λ c. Divides (ratio ratios c).den (m * b)) is
        (a, omega (arith, ap (λ m. m * b) red.top, ap (λ m. a * m) red.bottom))

    over : (x : ℕ) → Divides m x → Divides (ratio ratios i).den x → Divides (m * b) x
    over x (u, eu) (v, ev) =
        let same : v * b ≡ u * a =
        eq_of_mul-eq-mul_left red.scale (some_scale red.scale a m before.some red.top) (v * b) (u * a)
        (omega (arith, ap (λ m. u * m) red.top, ap (λ m. v * m) red.bottom)) in
        let w = red.lowest.bottom v u same in
        (w.0, omega (arith, ap (λ n. n * m) w.1))

-- a relative rate that is over the limit makes each period longer
pub too_long : (g : GraphValue) (a : ℕ) (f : Ratio) → a < g.actors → 0 < g.actors → IsRatio g a f →
    (65536 < f.num) ⊎ (65536 < f.den) →
    (p : List ℕ) → IsCycleVector g p → 65536 < sum p
too_long g a f known any s (inl top) p period =
    let d : f.num ≤ get_or p a 0 = no_greater f.num (get_or p a 0) (period.positive a known)
    (s.lowest.top (get_or p a 0) (get_or p 0 0) (s.share p period)) in
    omega (arith, get_or-le-sum_by (λ x. x) p a 0 (omega (arith, period.all)))
too_long g a f known any s (inr bottom) p period =
    let d : f.den ≤ get_or p 0 0 = no_greater f.den (get_or p 0 0) (period.positive 0 any)
    (s.lowest.bottom (get_or p a 0) (get_or p 0 0) (s.share p period)) in
    omega (arith, get_or-le-sum_by (λ x. x) p 0 0 (omega (arith, period.all)))

module _ (g : GraphValue) (ratios : List Ratio) (walk : AreRatios g ratios) where
  share_of : (a : ℕ) → a < g.actors → IsRatio g a (ratio ratios a)
  share_of a h = (walk.each a h).0

  -- what balances in some period balances by the relative rates
  pub must_even : (p : List ℕ) → IsCycleVector g p → IsShape g → (c : ℕ) → c < length g.channels →
      IsBalanced ratios (totals (channel g c))
  must_even p period shape c h =
      let s = totals (channel g c) in
      let near = (share_of s.from (shape.from_in c h)).share p period in
      let far = (share_of s.to (shape.to_in c h)).share p period in
      let even : s.put * get_or p s.from 0 ≡ s.take * get_or p s.to 0 = period.balanced c h in
      eq_of_mul-eq-mul_left (get_or p 0 0) (period.positive 0 shape.some)
      ((ratio ratios s.from).num * s.put * (ratio ratios s.to).den)
      ((ratio ratios s.to).num * s.take * (ratio ratios s.from).den)
      (omega (
        arith,
        ap (λ m. m * (s.put * (ratio ratios s.to).den)) near,
        ap (λ m. m * (s.take * (ratio ratios s.from).den)) far,
        ap (λ m. m * ((ratio ratios s.from).den * (ratio ratios s.to).den)) even,
      ))

  module _ (m : ℕ) (common_denominator : IsCommon ratios (length ratios) m) where
    factor : (a : ℕ) → a < g.actors → Divides (ratio ratios a).den m
    factor a h = common_denominator.each a (omega (arith, walk.all))

    is_turns : (a : ℕ) → a < g.actors → turns m (ratio ratios a) ≡ (m / (ratio ratios a).den) * (ratio ratios a).num
    is_turns a h = refl

    over : (a : ℕ) (h : a < g.actors) → m / (ratio ratios a).den ≡ (factor a h).0
    over a h = ap (λ n. n / (ratio ratios a).den) (factor a h).1
        ∙ mul-div_cancel (factor a h).0 (share_of a h).bottom_some

    times_den : (a : ℕ) → a < g.actors → turns m (ratio ratios a) * (ratio ratios a).den ≡ m * (ratio ratios a).num
    times_den a h =
        omega (
          arith,
          ap (λ n. n * (ratio ratios a).num * (ratio ratios a).den) (over a h),
          ap (λ n. n * (ratio ratios a).num) (factor a h).1,
        )

    pub entry : (a : ℕ) → a < g.actors → get_or (map (turns m) ratios) a 0 ≡ turns m (ratio ratios a)
    entry a h = get_or-map (turns m) ratios a unreached 0 (omega (arith, walk.all))

    pub is_period : IsShape g → ((c : ℕ) → c < length g.channels → IsBalanced ratios (totals (channel g c))) →
        IsCycleVector g (map (turns m) ratios)
    is_period shape is_balanced = record {
      all = length-map ratios (turns m) ∙ walk.all;
      positive = λ a h. rw (entry a h, over a h) (some_product (factor a h).0 (ratio ratios a).num
          (some_scale (factor a h).0 (ratio ratios a).den m common_denominator.some (factor a h).1)
          (share_of a h).top_some);
      balanced = λ c h.
          let s = totals (channel g c) in
          let from = shape.from_in c h in
          let to = shape.to_in c h in
          rw (entry s.from from, entry s.to to)
          (eq_of_mul-eq-mul_left ((ratio ratios s.from).den * (ratio ratios s.to).den)
          (some_product (ratio ratios s.from).den (ratio ratios s.to).den (share_of s.from from).bottom_some
          (share_of s.to to).bottom_some)
          (s.put * turns m (ratio ratios s.from)) (s.take * turns m (ratio ratios s.to))
          (omega (
            arith,
            ap (λ n. n * (s.put * (ratio ratios s.to).den)) (times_den s.from from),
            ap (λ n. n * (s.take * (ratio ratios s.from).den)) (times_den s.to to),
            ap (λ n. m * n) (is_balanced c h),
          )));
    }

    pub multiple : (p : List ℕ) → IsCycleVector g p → 0 < g.actors → IsMultiple p (map (turns m) ratios)
    multiple p period any = (k.0, λ a. go a (cases_lt a g.actors))
      where
        k : Divides m (get_or p 0 0)
        k = common_denominator.least (get_or p 0 0) (λ a h. let l : a < g.actors = omega (arith, walk.all) in
            (share_of a l).lowest.bottom (get_or p a 0) (get_or p 0 0) ((share_of a l).share p period))

        go : (a : ℕ) → (a < g.actors) ⊎ (g.actors ≤ a) → get_or p a 0 ≡ k.0 * get_or (map (turns m) ratios) a 0
        go a (inl l) = rw entry
            (eq_of_mul-eq-mul_left (ratio ratios a).den (share_of a l).bottom_some (get_or p a 0)
            (k.0 * turns m (ratio ratios a))
            (omega (
              arith,
              (share_of a l).share p period,
              ap (λ n. n * (ratio ratios a).num) k.1,
              ap (λ n. k.0 * n) (times_den a l),
            )))
        go a (inr past) =
            let none : get_or p a 0 ≡ 0 = get_or_past p a 0 (omega (arith, period.all)) in
            let none' : get_or (map (turns m) ratios) a 0 ≡ 0 =
            get_or_past (map (turns m) ratios) a 0 (omega (arith, length-map ratios (turns m), walk.all)) in
            none ∙ sym (ap (λ n. k.0 * n) none' ∙ omega arith)

-- the relative rate of the end that is not reached
module _ (g : GraphValue) (shape : IsShape g) (ratios : List Ratio) (marked : List Bool) (walk : IsWalk g ratios marked)
    (c : ℕ) (h : c < length g.channels) (ch : Totals) (is : totals (channel g c) ≡ ch) (f : Ratio) where
  even_on : (p : List ℕ) → IsCycleVector g p → ch.put * get_or p ch.from 0 ≡ ch.take * get_or p ch.to 0
  even_on p period = subst (λ (ch : Totals). ch.put * get_or p ch.from 0 ≡ ch.take * get_or p ch.to 0) is
      (period.balanced c h)

  pub share_to : is_marked marked ch.from ≡ true →
      IsReduced ((ratio ratios ch.from).num * ch.put) ((ratio ratios ch.from).den * ch.take) f.num f.den →
      IsRatio g ch.to f
  share_to on red =
      let near = (walk.each ch.from (subst (λ (ch : Totals). ch.from < g.actors) is (shape.from_in c h)) on).0 in
      let put_some : 0 < ch.put = subst (λ (ch : Totals). 0 < ch.put) is (shape.put c h).moves in
      let take_some : 0 < ch.take = subst (λ (ch : Totals). 0 < ch.take) is (shape.take c h).moves in
      let top : 0 < (ratio ratios ch.from).num * ch.put =
      some_product (ratio ratios ch.from).num ch.put near.top_some put_some in
      let bottom : 0 < (ratio ratios ch.from).den * ch.take =
      some_product (ratio ratios ch.from).den ch.take near.bottom_some take_some in
      record {
        top_some = some_factor red.scale f.num ((ratio ratios ch.from).num * ch.put) top red.top;
        bottom_some = some_factor red.scale f.den ((ratio ratios ch.from).den * ch.take) bottom red.bottom;
        lowest = red.lowest;
        share = λ p period. share_over (get_or p ch.from 0) (get_or p ch.to 0) (get_or p 0 0) ch.put ch.take
            (ratio ratios ch.from).num (ratio ratios ch.from).den f.num f.den (near.share p period)
            (even_on p period) top red;
      }

  pub share_from : is_marked marked ch.to ≡ true →
      IsReduced ((ratio ratios ch.to).num * ch.take) ((ratio ratios ch.to).den * ch.put) f.num f.den →
      IsRatio g ch.from f
  share_from on red =
      let near = (walk.each ch.to (subst (λ (ch : Totals). ch.to < g.actors) is (shape.to_in c h)) on).0 in
      let put_some : 0 < ch.put = subst (λ (ch : Totals). 0 < ch.put) is (shape.put c h).moves in
      let take_some : 0 < ch.take = subst (λ (ch : Totals). 0 < ch.take) is (shape.take c h).moves in
      let top : 0 < (ratio ratios ch.to).num * ch.take =
      some_product (ratio ratios ch.to).num ch.take near.top_some take_some in
      let bottom : 0 < (ratio ratios ch.to).den * ch.put =
      some_product (ratio ratios ch.to).den ch.put near.bottom_some put_some in
      record {
        top_some = some_factor red.scale f.num ((ratio ratios ch.to).num * ch.take) top red.top;
        bottom_some = some_factor red.scale f.den ((ratio ratios ch.to).den * ch.put) bottom red.bottom;
        lowest = red.lowest;
        share = λ p period. share_over (get_or p ch.to 0) (get_or p ch.from 0) (get_or p 0 0) ch.take ch.put
            (ratio ratios ch.to).num (ratio ratios ch.to).den f.num f.den (near.share p period)
            (sym (even_on p period)) top red;
      }

-- at first actor 0 alone has its relative rate, which is one
pub first_share : (g : GraphValue) (ratios : List Ratio) (n : ℕ) → ratios ≡ replicate g.actors one →
    0 < g.actors → 0 < n → IsWalk g ratios (set (replicate n false) 0 true)
first_share g ratios n are some marks = record {
  all = ap length are ∙ length-replicate g.actors _;
  first = is_one;
  begun = get_or-set_same (replicate n false) 0 true false (omega (arith, length-replicate n false));
  each = λ a h on. subst (λ a. IsRatio g a (ratio ratios a) × IsSmall (ratio ratios a)) (sym (only_first n a on))
      (subst (λ (x : Ratio). IsRatio g 0 x × IsSmall x) (sym is_one)
      (share, record { top = omega arith; bottom = omega arith }));
  tied = λ a on. subst (IsReachedBy g (IsBalancedWithin g ratios (set (replicate n false) 0 true)))
      (sym (only_first n a on)) start;
}
  where
    is_one : ratio ratios 0 ≡ one
    is_one = ap (λ (xs : List Ratio). ratio xs 0) are ∙ get_or-replicate g.actors 0 _ unreached some

    share : IsRatio g 0 one
    share = record {
      top_some = omega arith;
      bottom_some = omega arith;
      lowest = record { top = λ x y e. (x, omega arith); bottom = λ x y e. (y, omega arith) };
      share = λ p period. refl;
    }

-- one actor more
pub walk_more : (g : GraphValue) (ratios : List Ratio) (marked : List Bool) (a : ℕ) (f : Ratio) →
    IsWalk g ratios marked →
    a < length marked → is_marked marked a ≡ false → IsRatio g a f → IsSmall f →
    ((b : ℕ) → is_marked (set marked a true) b ≡ true →
    IsReachedBy g (IsBalancedWithin g (set ratios a f) (set marked a true)) b) →
    IsWalk g (set ratios a f) (set marked a true)
walk_more g ratios marked a f walk within fresh share small tied = record {
  all = length-set ratios a f ∙ walk.all;
  first = get_or-set_other ratios a 0 f unreached (λ same. both_ways (is_marked marked 0)
      (ap (is_marked marked) same ∙ fresh) walk.begun) ∙ walk.first;
  begun = is_marked-kept marked a 0 within walk.begun;
  each = λ b h on. each b h (cases_eq b a) on;
  tied = tied;
}
  where
    each : (b : ℕ) → b < g.actors → (b ≡ a) ⊎ (b ≡ a → ⊥) → is_marked (set marked a true) b ≡ true →
        IsRatio g b (ratio (set ratios a f) b) × IsSmall (ratio (set ratios a f) b)
    each b h (inl e) on =
        let at : ratio (set ratios a f) b ≡ f = ap (ratio (set ratios a f)) e
        ∙ get_or-set_same ratios a f unreached (omega (arith, walk.all)) in
        subst (λ (x : Ratio). IsRatio g b x × IsSmall x) (sym at) (subst (λ b. IsRatio g b f) (sym e) share, small)
    each b h (inr ne) on =
        let same : ratio (set ratios a f) b ≡ ratio ratios b = get_or-set_other ratios a b f unreached ne in
        subst (λ (x : Ratio). IsRatio g b x × IsSmall x) (sym same)
        (walk.each b h (sym (get_or-set_other marked a b true false ne) ∙ on))

-- where no channel has one end marked and one not, all actors have their relative rates
pub walked : (g : GraphValue) (shape : IsShape g) (ratios : List Ratio) (marked : List Bool) → IsWalk g ratios marked →
    IsClosed g.channels marked → AreRatios g ratios
walked g shape ratios marked walk closed = record {
  all = walk.all;
  first = walk.first;
  each = λ a h. walk.each a h (marks a h);
  tied = λ a h. tied_by g (IsBalancedWithin g ratios marked) (IsBalancedAt g ratios) (λ c e. e.even) a
      (walk.tied a (marks a h));
}
  where
    marks : (a : ℕ) → a < g.actors → is_marked marked a ≡ true
    marks a h = all_marked g marked walk.begun closed a (shape.connected a h)

module _ (g : GraphValue) (shape : IsShape g) (ratios : List Ratio) (walk : AreRatios g ratios) where
  -- no period where the common denominator is over the limit
  pub no_common : ((n : ℕ) → 0 < n → ((a : ℕ) → a < length ratios → Divides (ratio ratios a).den n) → 65536 < n) →
      (p : List ℕ) → IsCycleVector g p → 65536 < sum p
  no_common over p period =
      let first : 65536 < get_or p 0 0 = over (get_or p 0 0) (period.positive 0 shape.some)
      (λ a h. let l : a < g.actors = omega (arith, walk.all) in
      (share_of g ratios walk a l).lowest.bottom (get_or p a 0) (get_or p 0 0)
      ((share_of g ratios walk a l).share p period)) in
      omega (arith, get_or-le-sum_by (λ x. x) p 0 0 (let l : 0 < length p = omega (arith, period.all, shape.some) in l))
