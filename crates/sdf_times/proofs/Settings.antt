-- A table for whole periods can be run; and how large its numbers are.
use Rattle.std.proofs.Common.{◌≡◌, ℕ, zero, suc, ◌+◌, ◌*◌, ◌%◌, ◌^◌, ◌≤◌, ◌<◌, ◌⊎◌, List, length, get_or, sum, inl, inr}
use Rattle.std.proofs.Common.{sym, ap}
use Rattle.std.proofs.Common.{◌∙◌, ◌/◌, ◌↔◌, IsTrue, Bool, subst, arith, refl}
use Rattle.std.proofs.Math.Nat.{mul-le-mul_right}
use Rattle.std.proofs.lemmas.Bool.{cases_eq}
use Rattle.sdf_limits.specs.declared.TheConstants.{MAX_INITIAL, MAX_RATE, MAX_BLOCK}
use Rattle.sdf_graph.specs.Rates.{GraphValue, ChannelValue, IsShape, IsSound, rates, rate_at, channel, sum_to}
use Rattle.sdf_graph.specs.Moved.{moves}
use Rattle.sdf_graph.specs.declared.channel.End.{End}
use Rattle.sdf_graph.specs.declared.channel.End.TheVariants.{Source, Target}
use Rattle.sdf_graph.specs.Periods.{IsPeriodVector, Divides}
use Rattle.sdf_graph.specs.Sequences.{IsPeriod}
use Rattle.sdf_graph.proofs.Theorems.{graphs_are_sound, graphs_have_periods, whole_cycles_move, sums_are_small}
use Rattle.sdf_prec.specs.Blocks.{block}
use Rattle.sdf_prec.specs.Tables.{TableValue, IsGreatestHeld}
use Rattle.sdf_times.specs.Times.{IsBlockTable}
use Rattle.sdf_times.specs.SelfTimed.{IsPlan}
use Rattle.sdf_times.specs.Checks.{plan_of, IsBlockRun, IsTried, IsLink, IsLinkInTime, line, whole_of}
use Rattle.sdf_times.proofs.Spans.{block_at, block_length, firings_few}
use Rattle.sdf_times.proofs.Caps.{cap_small}
use Rattle.sdf_times.proofs.Counts.{held_first}

grows : (f : ℕ → ℕ) (n : ℕ) → f 0 ≡ 0 → ((i : ℕ) → f (i + n) ≡ f i + f n) → (b : ℕ) → f (b * n) ≡ b * f n
grows f n none anew zero = let e : zero * n ≡ 0 = omega arith in ap f e ∙ (none ∙ omega arith)
grows f n none anew (suc b) =
    let more : suc b * n ≡ b * n + n = omega arith in
    let ih : f (b * n) ≡ b * f n = grows f n none anew b in
    let next : f (b * n + n) ≡ f (b * n) + f n = anew (b * n) in
    let is : f (suc b * n) ≡ f (b * n + n) = ap f more in
    omega (arith, is, next, ih)

module _ (g : GraphValue) (shape : IsShape g) (reps : List ℕ) (j width : ℕ) (t : TableValue) (costs : List ℕ)
    (run : IsBlockRun g reps j width t costs) where
  abbrev n : ℕ → ℕ
  n a = get_or (block j reps) a 0

  sound : IsSound (rates g)
  sound = graphs_are_sound g shape

  one : IsPeriod (rates g) (λ a. get_or reps a 0)
  one = graphs_have_periods g reps shape run.period

  pub fires : (a : ℕ) → a < g.actors → 0 < n a
  fires a l =
      let up : 1 * get_or reps a 0 ≤ j * get_or reps a 0 = mul-le-mul_right (get_or reps a 0) run.some in
      omega (arith, up, run.period.positive a l, block_at j reps a)

  cycles : (a : ℕ) → a < g.actors → Divides ((rates g).cycle a) (n a)
  cycles a l =
      let d = run.period.whole a l in
      let all : j * get_or reps a 0 ≡ j * (d.0 * (rates g).cycle a) = ap (λ k. j * k) d.1 in
      (j * d.0, block_at j reps a ∙ (all ∙ omega arith))

  vector : IsPeriodVector (rates g) (block j reps)
  vector = record {
    all = block_length j reps ∙ run.period.all;
    positive = fires;
    whole = cycles;
    balanced = λ c l.
        let put = grows ((rates g).produced c) (get_or reps ((rates g).source c) 0) (sound.produced_none c)
        (λ i. one.produced_anew c i l) j in
        let taken = grows ((rates g).consumed c) (get_or reps ((rates g).target c) 0) (sound.consumed_none c)
        (λ i. one.consumed_anew c i l) j in
        let same : j * (rates g).produced c (get_or reps ((rates g).source c) 0) ≡
        j * (rates g).consumed c (get_or reps ((rates g).target c) 0) =
        ap (λ k. j * k) (one.balanced c l) in
        ap ((rates g).produced c) (block_at j reps ((rates g).source c)) ∙ (put ∙ (same ∙ (sym taken
        ∙ ap ((rates g).consumed c) (sym (block_at j reps ((rates g).target c))))));
  }

  pub is_plan : IsPlan (plan_of g (block j reps) t costs)
  is_plan = record {
    sound = sound;
    period = graphs_have_periods g (block j reps) shape vector;
    fires = fires;
    valid = run.table.valid;
    room = λ c l. (
      get_or t.caps c 0,
      subst (λ w. IsGreatestHeld (rates g) w c (get_or t.caps c 0)) run.table.exact.order_is
          (run.table.exact.caps_each c l),
      omega arith,
    );
  }

  pub block_table : IsBlockTable (rates g) width t
  block_table =
      record { periods = j; reps = reps; all = run.period.all; short = run.short; table = run.table }

  pub few : (a : ℕ) → n a ≤ MAX_BLOCK
  few a = omega (arith, block_at j reps a, firings_few j reps a run.short)

  pub initial_within : (c : ℕ) → c < length g.channels → (channel g c).initial ≤ get_or t.caps c 0
  initial_within c l =
      let most = is_plan.room c l in
      omega (
        arith,
        most.2,
        held_first (rates g) (λ a. get_or (block j reps) a 0) t.rows sound run.table.valid c most.0
            most.1,
      )

  pub caps_small : (c : ℕ) → c < length g.channels → get_or t.caps c 0 ≤ MAX_INITIAL + MAX_RATE * MAX_BLOCK
  caps_small c l = cap_small g shape width t block_table c l

  -- a block moves some samples on each channel, and not too many
  pub whole_some : (c : ℕ) → c < length g.channels → 0 < sum_to (rate_at (channel g c).put) (n (channel g c).from)
  whole_some c l =
      let put = shape.put c l in
      let d = cycles (channel g c).from (shape.from_in c l) in
      let is : n (channel g c).from ≡ d.0 * length (channel g c).put = d.1 ∙ ap (λ k. d.0 * k) (sym put.all) in
      let moved = whole_cycles_move (channel g c).put d.0 in
      let all : sum_to (rate_at (channel g c).put) (n (channel g c).from) ≡ d.0 * sum (channel g c).put =
      ap (sum_to (rate_at (channel g c).put)) is ∙ moved in
      some d.0 (sum (channel g c).put) all is put.moves (cases_eq d.0 0)
    where
      some : (k s : ℕ) → sum_to (rate_at (channel g c).put) (n (channel g c).from) ≡ k * s →
          n (channel g c).from ≡ k * length (channel g c).put → 0 < s → (k ≡ 0) ⊎ (k ≡ 0 → ⊥) →
          0 < sum_to (rate_at (channel g c).put) (n (channel g c).from)
      some k s all is moves (inl z) =
          let none : k * length (channel g c).put ≡ 0 * length (channel g c).put =
          ap (λ k. k * length (channel g c).put) z in
          absurd (omega (arith, fires (channel g c).from (shape.from_in c l), is, none))
      some k s all is moves (inr ne) =
          let up : 1 * s ≤ k * s = mul-le-mul_right s (omega arith) in
          omega arith

  pub whole_small : (c : ℕ) → c < length g.channels →
      sum_to (rate_at (channel g c).put) (n (channel g c).from) ≤ MAX_RATE * MAX_BLOCK
  whole_small c l =
      let low = sums_are_small (rate_at (channel g c).put) MAX_RATE
      (λ i. (shape.put c l).small (i % length (channel g c).put)) (n (channel g c).from) in
      omega (arith, low, few (channel g c).from)

-- what is known of the numbers at a channel's ends, where there is a start for each firing
module _ (g : GraphValue) (shape : IsShape g) (t : TableValue) (costs : List ℕ) (starts : List (List ℕ))
    (tried : IsTried g t costs starts) (c : ℕ) (l : c < length g.channels) where
  abbrev reps : List ℕ
  reps = tried.reps

  abbrev e : ChannelValue
  e = channel g c

  pub plan : IsPlan (plan_of g (block tried.periods tried.reps) t costs)
  plan = is_plan g shape tried.reps tried.periods tried.width t costs tried.run

  pub line_is : (a : ℕ) → a < g.actors → length (line starts a) ≡ get_or (block tried.periods tried.reps) a 0
  line_is a h = tried.full.each a
      (omega (arith, h, block_length tried.periods tried.reps, tried.run.period.all))

  pub actors_all : length starts ≡ g.actors
  actors_all = tried.full.actors ∙ (block_length tried.periods tried.reps ∙ tried.run.period.all)

  pub from_in : e.from < length starts
  from_in = omega (arith, shape.from_in c l, actors_all)

  pub to_in : e.to < length starts
  to_in = omega (arith, shape.to_in c l, actors_all)

  pub from_is : length (line starts e.from) ≡ get_or (block tried.periods tried.reps) e.from 0
  from_is = line_is e.from (shape.from_in c l)

  pub to_is : length (line starts e.to) ≡ get_or (block tried.periods tried.reps) e.to 0
  to_is = line_is e.to (shape.to_in c l)

  pub whole_is : whole_of e starts ≡ (rates g).produced c (get_or (block tried.periods tried.reps) e.from 0)
  whole_is = ap ((rates g).produced c) from_is

  taken_is : sum_to (moves Target e) (length (line starts e.to)) ≡ whole_of e starts
  taken_is = ap ((rates g).consumed c) to_is ∙ (sym (plan.period.balanced c l) ∙ sym whole_is)

  put_twice : sum_to (moves Source e) (2 * length (line starts e.from)) ≡ 2 * whole_of e starts
  put_twice =
      let k : ℕ = get_or (block tried.periods tried.reps) e.from 0 in
      let two : 2 * length (line starts e.from) ≡ get_or (block tried.periods tried.reps) e.from 0
      + get_or (block tried.periods tried.reps) e.from 0 = omega (arith, from_is) in
      let more = plan.period.produced_anew c (get_or (block tried.periods tried.reps) e.from 0) l in
      let is : sum_to (moves Source e) (2 * length (line starts e.from)) ≡
      (rates g).produced c (get_or (block tried.periods tried.reps) e.from 0
      + get_or (block tried.periods tried.reps) e.from 0) = ap ((rates g).produced c) two in
      omega (arith, is, more, whole_is)

  taken_twice : sum_to (moves Target e) (2 * length (line starts e.to)) ≡ 2 * whole_of e starts
  taken_twice =
      let two : 2 * length (line starts e.to) ≡ get_or (block tried.periods tried.reps) e.to 0
      + get_or (block tried.periods tried.reps) e.to 0 = omega (arith, to_is) in
      let more = plan.period.consumed_anew c (get_or (block tried.periods tried.reps) e.to 0) l in
      let is : sum_to (moves Target e) (2 * length (line starts e.to)) ≡
      (rates g).consumed c (get_or (block tried.periods tried.reps) e.to 0
      + get_or (block tried.periods tried.reps) e.to 0) = ap ((rates g).consumed c) two in
      omega (arith, is, more, whole_is, plan.period.balanced c l)

  small : (end : End) (i : ℕ) → moves end e i ≤ MAX_RATE
  small Source i = (shape.put c l).small (i % length e.put)
  small Target i = (shape.take c l).small (i % length e.take)

  pub some : 0 < whole_of e starts
  some = omega (arith, whole_is, whole_some g shape tried.reps tried.periods tried.width t costs tried.run c l)

  pub put_some : 0 < length e.put
  put_some = omega (arith, (shape.put c l).all, (shape.put c l).some)

  take_some : 0 < length e.take
  take_some = omega (arith, (shape.take c l).all, (shape.take c l).some)

  few_whole : whole_of e starts < 2 ^ 40
  few_whole = omega (arith, whole_is, whole_small g shape tried.reps tried.periods tried.width t costs tried.run c l)

  from_few : length (line starts e.from) < 2 ^ 20
  from_few = omega (arith, from_is, few g shape tried.reps tried.periods tried.width t costs tried.run e.from)

  to_few : length (line starts e.to) < 2 ^ 20
  to_few = omega (arith, to_is, few g shape tried.reps tried.periods tried.width t costs tried.run e.to)

  pub samples_link : IsLink e Target Source (whole_of e starts) (line starts e.to) (line starts e.from)
  samples_link = record {
    put = put_some;
    take = take_some;
    small = small;
    some = some;
    few = few_whole;
    ends = taken_is;
    others = put_twice;
    short = to_few;
    short_there = from_few;
    fires = omega (arith, from_is, plan.fires e.from (shape.from_in c l));
  }

  pub room_link : IsLink e Source Target (whole_of e starts) (line starts e.from) (line starts e.to)
  room_link = record {
    put = put_some;
    take = take_some;
    small = small;
    some = some;
    few = few_whole;
    ends = refl;
    others = taken_twice;
    short = from_few;
    short_there = to_few;
    fires = omega (arith, to_is, plan.fires e.to (shape.to_in c l));
  }

  pub initial_few : e.initial < 2 ^ 40
  initial_few = omega (arith, shape.initial_small c l)

  pub cap_few : get_or t.caps c 0 < 2 ^ 40
  cap_few = omega (arith, caps_small g shape tried.reps tried.periods tried.width t costs tried.run c l)

  pub initial_low : e.initial ≤ get_or t.caps c 0
  initial_low = initial_within g shape tried.reps tried.periods tried.width t costs tried.run c l

-- numbers that are the same by equations
pub same_link : (e e' : ChannelValue) (waits other : End) (whole whole' : ℕ) (xs xs' ys ys' : List ℕ) → e' ≡ e →
    whole' ≡ whole → xs' ≡ xs → ys' ≡ ys → IsLink e waits other whole xs ys → IsLink e' waits other whole' xs' ys'
same_link e e' waits other whole whole' xs xs' ys ys' pe pw px py link =
    subst (λ e. IsLink e waits other whole' xs' ys') (sym pe)
    (subst (λ w. IsLink e waits other w xs' ys') (sym pw)
    (subst (λ xs. IsLink e waits other whole xs ys') (sym px)
    (subst (λ ys. IsLink e waits other whole xs ys) (sym py) link)))

pub same_in_time : (e e' : ChannelValue) (waits other : End) (first first' whole whole' : ℕ) (xs xs' ys ys' : List ℕ)
    (pause pause' t : ℕ) (done : Bool) → e' ≡ e → first' ≡ first → whole' ≡ whole → xs' ≡ xs → ys' ≡ ys →
    pause' ≡ pause →
    (IsTrue done ↔ IsLinkInTime (moves waits e') (moves other e') (first' % whole') whole' (first' / whole') xs' ys'
    pause' t) →
    (IsTrue done ↔ IsLinkInTime (moves waits e) (moves other e) (first % whole) whole (first / whole) xs ys pause t)
same_in_time e e' waits other first first' whole whole' xs xs' ys ys' pause pause' t done pe pf pw px py pp h =
    subst (λ e. IsTrue done ↔ IsLinkInTime (moves waits e) (moves other e) (first % whole) whole (first / whole)
    xs ys pause t) pe
    (subst (λ f. IsTrue done ↔ IsLinkInTime (moves waits e') (moves other e') (f % whole) whole (f / whole) xs ys
    pause t) pf
    (subst (λ w. IsTrue done ↔ IsLinkInTime (moves waits e') (moves other e') (first' % w) w (first' / w) xs ys
    pause t) pw
    (subst (λ xs. IsTrue done ↔ IsLinkInTime (moves waits e') (moves other e') (first' % whole') whole'
    (first' / whole') xs ys pause t) px
    (subst (λ ys. IsTrue done ↔ IsLinkInTime (moves waits e') (moves other e') (first' % whole') whole'
    (first' / whole') xs' ys pause t) py
    (subst (λ p. IsTrue done ↔ IsLinkInTime (moves waits e') (moves other e') (first' % whole') whole'
    (first' / whole') xs' ys' p t) pp h)))))
