-- A schedule is in time where it is tested exactly if it is everywhere.
use Rattle.std.proofs.Common.{◌≡◌, ℕ, suc, ◌+◌, ◌-◌, ◌*◌, ◌≤◌, ◌<◌, List, length, get_or, inl, inr}
use Rattle.std.proofs.Common.{sym, ap, ◌∙◌, arith, refl, ◌↔◌}
use Rattle.std.proofs.Math.Nat.{mul-le-mul_left}
use Rattle.sdf_graph.specs.Rates.{GraphValue, ChannelValue, IsShape, rates, channel, sum_to}
use Rattle.sdf_graph.specs.Moved.{moves}
use Rattle.sdf_graph.specs.declared.channel.End.TheVariants.{Source, Target}
use Rattle.sdf_prec.specs.declared.firing.Firing.{Firing}
use Rattle.sdf_prec.specs.Blocks.{block}
use Rattle.sdf_prec.specs.Tables.{TableValue, IsOfBlock}
use Rattle.sdf_times.specs.Times.{start_in}
use Rattle.sdf_times.specs.SelfTimed.{Plan, later, IsSooner, IsAheadOf, WaitsForRoom, HoldsBack, IsPlan, IsPeriodic}
use Rattle.sdf_times.specs.Checks.{plan_of, schedule_of, repeating, line, IsTried, IsInTime, whole_of, AreInTurn}
use Rattle.sdf_times.proofs.Cells.{AreCells}
use Rattle.sdf_times.proofs.Laters.{later_none, put_later, taken_later}
use Rattle.sdf_times.proofs.Ranks.{cells}
use Rattle.sdf_times.proofs.Spans.{block_length}
use Rattle.sdf_times.proofs.Settings.{is_plan, whole_is, from_is, to_is, some, initial_low}
use Rattle.sdf_times.proofs.Repeating.{at_block, later_at, one_by_one, in_turn_if, link_if, if_link}

module _ (g : GraphValue) (shape : IsShape g) (tb : TableValue) (costs : List ℕ) (starts : List (List ℕ))
    (tried : IsTried g tb costs starts) (t q : ℕ) where
  abbrev p : Plan
  p = plan_of g (block tried.periods tried.reps) tb costs

  abbrev x : Firing → ℕ
  x = schedule_of t starts

  ok : IsPlan (plan_of g (block tried.periods tried.reps) tb costs)
  ok = is_plan g shape tried.reps tried.periods tried.width tb costs tried.run

  lines : (a : ℕ) → a < g.actors → length (line starts a) ≡ get_or (block tried.periods tried.reps) a 0
  lines a h = tried.full.each a (omega (arith, h, tried.full.actors, all))
    where
      all : length starts ≡ g.actors
      all = tried.full.actors ∙ (block_length tried.periods tried.reps
          ∙ tried.run.period.all)

  fires : (a : ℕ) → a < g.actors → 0 < length (line starts a)
  fires a h = omega (arith, ok.fires a h, lines a h)

  -- the start of a firing of the first block some blocks later
  x_later : (b : ℕ) (f : Firing) → IsOfBlock (rates g) (λ a. get_or (block tried.periods tried.reps) a 0) f →
      x (later p b f) ≡ start_in starts f + t * b
  x_later b f of =
      let n_is = lines f.actor of.0 in
      let there : b * get_or (block tried.periods tried.reps) f.actor 0 + f.number ≡
      b * length (line starts f.actor) + f.number = ap (λ n. b * n + f.number) (sym n_is) in
      ap (repeating t (line starts f.actor)) there
      ∙ at_block t (line starts f.actor) b f.number (omega (arith, of.1, n_is))

  module _ (c : ℕ) (l : c < length g.channels) where
    abbrev e : ChannelValue
    e = channel g c

    put_laters : (m k : ℕ) → sum_to (moves Source e) (m * length (line starts e.from) + k) ≡
        m * whole_of e starts + sum_to (moves Source e) k
    put_laters m k =
        ap (λ n. sum_to (moves Source e) (m * n + k)) (from_is g shape tb costs starts tried c l)
        ∙ (put_later p ok c m k e.from l refl
        ∙ ap (λ w. m * w + sum_to (moves Source e) k) (sym (whole_is g shape tb costs starts tried c l)))

    taken_laters : (m k : ℕ) → sum_to (moves Target e) (m * length (line starts e.to) + k) ≡
        m * whole_of e starts + sum_to (moves Target e) k
    taken_laters m k =
        ap (λ n. sum_to (moves Target e) (m * n + k)) (to_is g shape tb costs starts tried c l)
        ∙ (taken_later p ok c m k e.to l refl
        ∙ ap (λ w. m * w + sum_to (moves Target e) k) (sym (whole_is g shape tb costs starts tried c l)))

  module _ (in_time : IsInTime g tb (λ a. get_or costs a 0) starts t q) where
    own : (a : ℕ) → a < g.actors → AreInTurn (line starts a) (q * get_or costs a 0) t
    own a h = in_time.own a (omega (arith, h, all))
      where
        all : length starts ≡ g.actors
        all = tried.full.actors ∙ (block_length tried.periods tried.reps
            ∙ tried.run.period.all)

    again : (f : Firing) → f.actor < g.actors → x (later p 1 f) ≡ x f + t
    again f known =
        let there = ap (λ n. repeating t (line starts f.actor) (1 * n + f.number)) (sym (lines f.actor known)) in
        let more = later_at t (line starts f.actor) (fires f.actor known) 1 f.number in
        omega (arith, there, more)

    after_own : (h f : Firing) → h.actor < g.actors → h.actor ≡ f.actor → h.number + 1 ≡ f.number →
        x h + q * get_or costs h.actor 0 ≤ x f
    after_own h f known same next =
        let low = one_by_one t (line starts h.actor) (fires h.actor known) (q * get_or costs h.actor 0)
        (own h.actor known) h.number in
        let is : repeating t (line starts h.actor) (h.number + 1) ≡ x f =
        λ i. repeating t (line starts (same i)) (next i) in
        omega (arith, low, is)

    after_ahead : (h f : Firing) → IsAheadOf p h f → x h + q * get_or costs h.actor 0 ≤ x f
    after_ahead h f (d, k, b, i, j, sooner, (h', eh, ish), (f', ef, isf)) = go sooner
      where
        cs : AreCells (rates g) (λ a. get_or (block tried.periods tried.reps) a 0) tb.rows
        cs = cells p ok

        h_is : x h ≡ start_in starts h' + t * d
        h_is = ap x (sym ish) ∙ x_later d h' (cs.known k j h' eh)

        f_is : x f ≡ start_in starts f' + t * b
        f_is = ap x (sym isf) ∙ x_later b f' (cs.known i j f' ef)

        cost_is : q * get_or costs h'.actor 0 ≡ q * get_or costs h.actor 0
        cost_is = ap (λ (f : Firing). q * get_or costs f.actor 0) ish

        go : IsSooner d k b i → x h + q * get_or costs h.actor 0 ≤ x f
        go (inl low) =
            let up : t * suc d ≤ t * b = mul-le-mul_left t low in
            omega (arith, (in_time.columns j).round k i h' f' eh ef, h_is, f_is, cost_is)
        go (inr (same, low)) =
            let block_is : t * d ≡ t * b = ap (λ b. t * b) same in
            omega (arith, (in_time.columns j).next k i h' f' eh ef low, h_is, f_is, cost_is)

    after_samples : (h f : Firing) (c : ℕ) (l : c < length g.channels) → (channel g c).to ≡ f.actor →
        (channel g c).from ≡ h.actor → (rates g).initial c + (rates g).produced c h.number <
        (rates g).consumed c (f.number + 1) → x h + q * get_or costs h.actor 0 ≤ x f
    after_samples h f c l into from low =
        let e : ChannelValue = channel g c in
        let within = if_link (moves Target (channel g c)) (moves Source (channel g c)) (whole_of (channel g c) starts) t
        (line starts (channel g c).to) (line starts (channel g c).from) (some g shape tb costs starts tried c l)
        (fires (channel g c).to (shape.to_in c l)) (fires (channel g c).from (shape.from_in c l)) (taken_laters c l)
        (put_laters c l) (channel g c).initial (q * get_or costs (channel g c).from 0)
        (q * get_or costs (channel g c).from 0) (own (channel g c).from (shape.from_in c l))
        (in_time.channels c l).samples f.number h.number low in
        let f_is : repeating t (line starts (channel g c).to) f.number ≡ x f =
        ap (λ a. repeating t (line starts a) f.number) into in
        let h_is : repeating t (line starts (channel g c).from) h.number ≡ x h =
        ap (λ a. repeating t (line starts a) h.number) from in
        let cost_is : q * get_or costs (channel g c).from 0 ≡ q * get_or costs h.actor 0 =
        ap (λ a. q * get_or costs a 0) from in
        omega (arith, within, f_is, h_is, cost_is)

    after_room : (h f : Firing) → WaitsForRoom p f h → x h ≤ x f
    after_room h f (c, l, from, into, apart, low) =
        let first : ℕ = get_or tb.caps c 0 - (channel g c).initial in
        let enough = initial_low g shape tb costs starts tried c l in
        let waits : (get_or tb.caps c 0 - (channel g c).initial) + sum_to (moves Target (channel g c)) h.number <
        sum_to (moves Source (channel g c)) (f.number + 1) = omega (arith, low, enough) in
        let within = if_link (moves Source (channel g c)) (moves Target (channel g c)) (whole_of (channel g c) starts) t
        (line starts (channel g c).from) (line starts (channel g c).to) (some g shape tb costs starts tried c l)
        (fires (channel g c).from (shape.from_in c l)) (fires (channel g c).to (shape.to_in c l)) (put_laters c l)
        (taken_laters c l) (get_or tb.caps c 0 - (channel g c).initial) 0
        (q * get_or costs (channel g c).to 0) (own (channel g c).to (shape.to_in c l))
        ((in_time.channels c l).room apart) f.number h.number waits in
        let f_is : repeating t (line starts (channel g c).from) f.number ≡ x f =
        ap (λ a. repeating t (line starts a) f.number) from in
        let h_is : repeating t (line starts (channel g c).to) h.number ≡ x h =
        ap (λ a. repeating t (line starts a) h.number) into in
        omega (arith, within, f_is, h_is)

    allowed : (h f : Firing) (w : ℕ) → h.actor < g.actors → HoldsBack p h f w → x h + q * w ≤ x f
    allowed h f w known (inl (is, inl (inl (same, next)))) =
        let paid : q * w ≡ q * get_or costs h.actor 0 = ap (λ w. q * w) is in
        omega (arith, after_own h f known same next)
    allowed h f w known (inl (is, inl (inr (c, l, into, from, low)))) =
        let paid : q * w ≡ q * get_or costs h.actor 0 = ap (λ w. q * w) is in
        omega (arith, after_samples h f c l into from low)
    allowed h f w known (inl (is, inr ahead)) =
        let paid : q * w ≡ q * get_or costs h.actor 0 = ap (λ w. q * w) is in
        omega (arith, after_ahead h f ahead)
    allowed h f w known (inr (is, room)) =
        let paid : q * w ≡ q * 0 = ap (λ w. q * w) is in
        omega (arith, after_room h f room)

    pub periodic : IsPeriodic p t q x
    periodic = record { again = again; allowed = λ h f w known into holds. allowed h f w known holds }

  module _ (periodic : IsPeriodic p t q x) where
    all_in : (a : ℕ) → a < length starts → a < g.actors
    all_in a h = omega (arith, h, all)
      where
        all : length starts ≡ g.actors
        all = tried.full.actors ∙ (block_length tried.periods tried.reps
            ∙ tried.run.period.all)

    cs : AreCells (rates g) (λ a. get_or (block tried.periods tried.reps) a 0) tb.rows
    cs = cells p ok

    x_first : (f : Firing) → IsOfBlock (rates g) (λ a. get_or (block tried.periods tried.reps) a 0) f →
        x f ≡ start_in starts f
    x_first f of = ap x (sym (later_none p f)) ∙ (x_later 0 f of ∙ omega arith)

    pub in_time : IsInTime g tb (λ a. get_or costs a 0) starts t q
    in_time = record {
      own = λ a h. in_turn_if t (line starts a) (fires a (all_in a h)) (q * get_or costs a 0)
          (λ k. periodic.allowed (record { actor = a; number = k }) (record { actor = a; number = k + 1 })
          (get_or costs a 0) (all_in a h) (all_in a h) (inl (refl, inl (inl (refl, refl)))));
      columns = λ j. record {
        next = λ k i h f eh ef l.
            let low = periodic.allowed h f (get_or costs h.actor 0) (cs.known k j h eh).0 (cs.known i j f ef).0
            (inl (refl, inr (0, k, 0, i, j, inr (refl, l), (h, eh, later_none p h), (f, ef, later_none p f)))) in
            omega (arith, low, x_first h (cs.known k j h eh), x_first f (cs.known i j f ef));
        round = λ k i h f eh ef.
            let low = periodic.allowed h (later p 1 f) (get_or costs h.actor 0) (cs.known k j h eh).0
            (cs.known i j f ef).0
            (inl (refl, inr (0, k, 1, i, j, inl (omega arith), (h, eh, later_none p h), (f, ef, refl)))) in
            omega (arith, low, x_first h (cs.known k j h eh), x_later 1 f (cs.known i j f ef));
      };
      channels = λ c l. record {
        samples = link_if (moves Target (channel g c)) (moves Source (channel g c)) (whole_of (channel g c) starts) t
            (line starts (channel g c).to) (line starts (channel g c).from) (some g shape tb costs starts tried c l)
            (fires (channel g c).to (shape.to_in c l)) (fires (channel g c).from (shape.from_in c l)) (taken_laters c l)
            (put_laters c l) (channel g c).initial (q * get_or costs (channel g c).from 0)
            (λ k i waits. periodic.allowed (record { actor = (channel g c).from; number = i })
            (record { actor = (channel g c).to; number = k }) (get_or costs (channel g c).from 0) (shape.from_in c l)
            (shape.to_in c l) (inl (refl, inl (inr (c, l, refl, refl, waits)))));
        room = λ apart. link_if (moves Source (channel g c)) (moves Target (channel g c))
            (whole_of (channel g c) starts)
            t (line starts (channel g c).from) (line starts (channel g c).to) (some g shape tb costs starts tried c l)
            (fires (channel g c).from (shape.from_in c l)) (fires (channel g c).to (shape.to_in c l)) (put_laters c l)
            (taken_laters c l) (get_or tb.caps c 0 - (channel g c).initial) 0
            (λ k i waits.
            let low = periodic.allowed (record { actor = (channel g c).to; number = i })
            (record { actor = (channel g c).from; number = k }) 0 (shape.to_in c l) (shape.from_in c l)
            (inr (
              refl,
              (
                c,
                l,
                refl,
                refl,
                apart,
                omega
                    (arith, waits, initial_low g shape tb costs starts tried c l),
              ),
            )) in
            omega (arith, low));
      };
    }

  pub in_time_exactly : IsInTime g tb (λ a. get_or costs a 0) starts t q ↔ IsPeriodic p t q x
  in_time_exactly = (periodic, in_time)
