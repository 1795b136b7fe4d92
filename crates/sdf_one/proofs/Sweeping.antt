-- Firings of a block of periods in whatever order they come: each can be done, and they stop only at the block's end.
use Rattle.std.proofs.Common.{◌≡◌, ℕ, zero, suc, ◌+◌, ◌-◌, ◌*◌, ◌^◌, ◌≤◌, ◌<◌, List, [], ◌∷◌, length, map, get_or, set}
use Rattle.std.proofs.Common.{sum, cond, Bool, true, false, true≢false, IsTrue, refl, sym, ap, ◌∙◌, subst, inl, inr}
use Rattle.std.proofs.Common.{◌⊎◌, arith}
use Rattle.std.specs.Global.{Global}
use Rattle.std.specs.List.{sum_by}
use Rattle.std.proofs.Math.Nat.{mul-le-mul}
use Rattle.std.proofs.lemmas.List.{length-map, length-set, get_or-set_same, get_or-set_other, get_or_default}
use Rattle.std.proofs.lemmas.List.{get_or-map}
use Rattle.std.proofs.lemmas.List.Sums.{sum_by-set}
use Rattle.std.proofs.lemmas.Bool.{cases_lt, cases_eq}
use Rattle.sdf_graph.specs.Sequences.{IsRunnable}
use Rattle.sdf_graph.specs.Rates.{IsSound}
use Rattle.sdf_graph.proofs.Theorems.{lists_sum_within}
use Rattle.sdf_sched.proofs.Theorems.{stuck_counts_mean_deadlock}
use Rattle.sdf_actor.specs.Steps.{Steps}
use Rattle.sdf_actor.specs.Nets.{node, wiring}
use Rattle.sdf_actor.specs.Wires.{lists}
use Rattle.sdf_actor.specs.Laws.{HistoryGrowsByFiring}
use Rattle.sdf_actor.proofs.Theorems.{nets_are_wired}
use Rattle.sdf_one.specs.declared.work.Work.{Work}
use Rattle.sdf_one.specs.declared.run.Run.{Run}
use Rattle.sdf_queues.specs.QueueValue.{QueueValue}
use Rattle.sdf_queues.specs.Blocks.{room, ArePorts, HoldBlocks, HoldManyBlocks}
use Rattle.sdf_queues.specs.Sizes.{phase_of, at_phase}
use Rattle.sdf_one.specs.Firings.{phase_at, IsActor}
use Rattle.sdf_one.specs.AtOnce.{CanBatch, CanFireBatchAt, AreFiredAt}
use Rattle.sdf_one.specs.Many.{HasRows, CanBatchCycles, FitsCycles, CanBatchCyclesAt, CanFireInPartsAt}
use Rattle.sdf_one.specs.Many.{AreFiredInPartsAt}
use Rattle.sdf_one.specs.Many.{firings_in, takes_next, puts_next, takes_cycle, puts_cycle}
use Rattle.sdf_one.specs.Runs.{IsState, IsInRun, FiresAlone}
use Rattle.sdf_queues.specs.RunResults.{periods_of}
use Rattle.sdf_one.specs.Sweeps.{Sweeps, IsSwept, MayFire, HasRoom, Keeps, IsMoved, AreHeld}
use Rattle.sdf_one.proofs.Readings.{some_of}
use Rattle.sdf_one.proofs.AtOnce as at_once
use Rattle.sdf_one.proofs.Known.{Known}
use Rattle.sdf_one.proofs.Holding.{Holding, Ahead, After, HasWork}
use Rattle.sdf_one.proofs.Many.{InParts, can_fire, stands_then}
use Rattle.sdf_one.proofs.Cycled.{by_cycles}
use Rattle.sdf_one.proofs.Single.{by_itself, fits_itself}
use Rattle.sdf_one.proofs.ManyWorks.{its_blocks, has_rows}
use Rattle.sdf_one.proofs.Standing as standing

-- one step of a run after another
pub keeps_on : {A S T : Type 0} (r r' r'' : Run A T S) → Keeps r r' → Keeps r' r'' → Keeps r r''
keeps_on r r' r'' one other = record {
  net = other.net ∙ one.net;
  inputs = other.inputs ∙ one.inputs;
  repetitions = other.repetitions ∙ one.repetitions;
  periods = other.periods ∙ one.periods;
  outputs = other.outputs ∙ one.outputs;
  queues = other.queues ∙ one.queues;
  rooms = λ c l. other.rooms c (omega (arith, one.queues)) ∙ one.rooms c l;
}

pub keeps_all : {A S T : Type 0} (r : Run A T S) → Keeps r r
keeps_all r = record {
  net = refl;
  inputs = refl;
  repetitions = refl;
  periods = refl;
  outputs = refl;
  queues = refl;
  rooms = λ c l. refl;
}

pub moved_none : {A S T : Type 0} (r : Run A T S) → IsMoved r r false
moved_none r = record {
  keeps = keeps_all r;
  high = refl;
  rises = omega arith;
  moves = λ t. absurd (let e : false ≡ true = t in true≢false (sym e));
  stays = λ e. refl;
}

pub moved_on : {A S T : Type 0} (r r' r'' : Run A T S) (x y z : Bool) → (IsTrue z → IsTrue x ⊎ IsTrue y) →
    (z ≡ false → (x ≡ false) × (y ≡ false)) → IsMoved r r' x → IsMoved r' r'' y → IsMoved r r'' z
moved_on r r' r'' x y z tells still one other = record {
  keeps = keeps_on r r' r'' one.keeps other.keeps;
  high = other.high ∙ one.high;
  rises = omega (arith, one.rises, other.rises);
  moves = λ t. go (tells t);
  stays = λ e. let none = still e in other.stays none.1 ∙ one.stays none.0;
}
  where
    go : IsTrue x ⊎ IsTrue y → sum r.done.items < sum r''.done.items
    go (inl t) = omega (arith, one.moves t, other.rises)
    go (inr t) = omega (arith, one.rises, other.moves t)

-- a node may fire where it might before, as long as nothing has fired
may_along : {A S T : Type 0} (s : Steps A S T) (r r' : Run A T S) (a : ℕ) → r.net ≡ r'.net →
    r.repetitions ≡ r'.repetitions → r.high ≡ r'.high → r.done.items ≡ r'.done.items → MayFire s r a → MayFire s r' a
may_along s r r' a net repetitions high done may =
    subst (λ x. IsRunnable (wiring s x.now).rates (periods_of r'.repetitions.now r'.high)
    (λ b. get_or r'.done.items b 0) a) net
    (subst (λ x. IsRunnable (wiring s r.net.now).rates (periods_of x.now r'.high)
    (λ b. get_or r'.done.items b 0) a) repetitions
    (subst (λ x. IsRunnable (wiring s r.net.now).rates (periods_of r.repetitions.now x)
    (λ b. get_or r'.done.items b 0) a) high
    (subst (λ x. IsRunnable (wiring s r.net.now).rates (periods_of r.repetitions.now r.high)
    (λ b. get_or x b 0) a) done may)))

-- a node of a sweep after those before it
pub sweep_on : {A S T : Type 0} (s : Steps A S T) (r r' : Run A T S) (x y z : Bool) (i : ℕ) →
    (z ≡ false → (x ≡ false) × (y ≡ false)) →
    (x ≡ false → (b : ℕ) → b < i → MayFire s r b → ⊥) → IsMoved r r' y → (y ≡ false → MayFire s r i → ⊥) → z ≡ false →
    (b : ℕ) → b < i + 1 → MayFire s r' b → ⊥
sweep_on s r r' x y z i still before moved here none b l may = go (cases_lt b i)
  where
    back : MayFire s r b
    back = may_along s r' r b moved.keeps.net moved.keeps.repetitions moved.high (moved.stays (still none).1) may

    go : (b < i) ⊎ (i ≤ b) → ⊥
    go (inl less) = before (still none).0 b less back
    go (inr past) = here (still none).1 (subst (λ b. MayFire s r b) (let e : b ≡ i = omega arith in e) back)

-- what a step of a run stands on
pub net_known : {A S T : Type 0} (s : Steps A S T) (r : Run A T S) → IsSwept s r → Known s r.net.now
net_known s r sw = record { good = sw.good; wired = nets_are_wired s r.net.now sw.good }

-- at the same ports and queues
pub holds_along : {T : Type 0} (ins ins' sizes sizes' : List ℕ) (qs qs' : List (QueueValue T)) → ins ≡ ins' →
    sizes ≡ sizes' →
    qs ≡ qs' → HoldBlocks ins sizes qs → HoldBlocks ins' sizes' qs'
holds_along ins ins' sizes sizes' qs qs' i s q h =
    subst (λ x. HoldBlocks x sizes' qs') i (subst (λ x. HoldBlocks ins x qs') s
    (subst (λ x. HoldBlocks ins sizes x) q h))

-- a node of a run that is swept
pub record Swept (A S T : Type 0) : Type 0 where
  pub s : Steps A S T
  pub r : Run A T S
  pub sw : IsSwept s r
  pub a : ℕ
  pub known : a < length r.net.now.nodes

-- a node of a run that is swept
abbrev pub swept_node : {A S T : Type 0} (s : Steps A S T) (r : Run A T S) (sw : IsSwept s r) (a : ℕ) →
    a < length r.net.now.nodes → Swept A S T
swept_node s r sw a known = record { s = s; r = r; sw = sw; a = a; known = known }

-- what a runner holds there
abbrev holding : {A S T : Type 0} → Swept A S T → Holding A S T Global
holding p = record {
  base = record {
    s = p.s;
    n = p.r.net.now;
    net = net_known p.s p.r p.sw;
    z = p.r.sizes;
    sizes = p.sw.sizes;
    y = p.r.cycles;
    cycles = p.sw.cycles;
  };
  a = p.a;
  known = p.known;
  inputs = lists p.r.inputs.now;
  many = periods_of p.r.repetitions.now p.r.periods;
  k = λ b. get_or p.r.done.items b 0;
  works = p.r.works.items;
  qs = p.r.queues.items;
  outputs = p.r.outputs.items;
  st = p.sw.stands;
}

-- the node may fire exactly where it has firings left and its channels hold what the next one takes
module _ {A S T : Type 0} (p : Swept A S T) (d : Work A T S) where
  open p use {s, r, sw, a, known}

  pub phase_in : phase_at (get_or r.works.items a d) < length r.sizes.takes
  phase_in = omega (arith, standing.at (holding p) d, sw.sizes.takes_known a (get_or r.done.items a 0) known)

  pub ports_in : ArePorts ((wiring s r.net.now).ins a) (at_phase r.sizes.takes (phase_at (get_or r.works.items a d)))
      (length r.queues.items)
  ports_in = standing.ports_in (holding p) d

  pub may_from : get_or r.done.items a 0 < r.high * get_or r.repetitions.now a 0 →
      HoldBlocks ((wiring s r.net.now).ins a) (at_phase r.sizes.takes (phase_at (get_or r.works.items a d)))
      r.queues.items → MayFire s r a
  may_from left holds = (known, left, standing.enabled (holding p) d holds)

  pub may_holds : MayFire s r a → HoldBlocks ((wiring s r.net.now).ins a)
      (at_phase r.sizes.takes (phase_at (get_or r.works.items a d))) r.queues.items
  may_holds may = standing.held (holding p) d may.2

-- so many firings of the node stay within the block
module _ {A S T : Type 0} (p : Swept A S T) (times : ℕ)
    (inside : get_or p.r.done.items p.a 0 + times ≤ p.r.high * get_or p.r.repetitions.now p.a 0) where
  open p use {s, r, sw, a, known}

  abbrev before : ℕ → ℕ
  before b = get_or r.done.items b 0

  abbrev after : ℕ → ℕ
  after b = get_or (set r.done.items a (get_or r.done.items a 0 + times)) b 0

  place : a < length r.done.items
  place = omega (arith, sw.all, known)

  own : after a ≡ before a + times
  own = get_or-set_same r.done.items a (get_or r.done.items a 0 + times) 0 place

  others : (b : ℕ) → (a ≡ b → ⊥) → after b ≡ before b
  others b ne = get_or-set_other r.done.items a b (get_or r.done.items a 0 + times) 0 (λ e. ne (sym e))

  rises : (b : ℕ) → before b ≤ after b
  rises b = go (cases_eq a b)
    where
      go : (a ≡ b) ⊎ (a ≡ b → ⊥) → before b ≤ after b
      go (inl e) = subst (λ b. before b ≤ after b) e (omega (arith, own))
      go (inr ne) = omega (arith, others b ne)

  was_below : (b : ℕ) → b < length r.net.now.nodes → before b ≤ r.high * get_or r.repetitions.now b 0
  was_below = sw.to

  was_above : (b : ℕ) → b < length r.net.now.nodes → sw.low * get_or r.repetitions.now b 0 ≤ before b
  was_above = sw.from

  -- counts stay within the block
  above : (b : ℕ) → b < length r.net.now.nodes → sw.low * get_or r.repetitions.now b 0 ≤ after b
  above b l = omega (arith, was_above b l, rises b)

  below : (b : ℕ) → b < length r.net.now.nodes → after b ≤ r.high * get_or r.repetitions.now b 0
  below b l = go (cases_eq a b)
    where
      go : (a ≡ b) ⊎ (a ≡ b → ⊥) → after b ≤ r.high * get_or r.repetitions.now b 0
      go (inl e) = subst (λ b. after b ≤ r.high * get_or r.repetitions.now b 0) e (omega (arith, own, inside))
      go (inr ne) = omega (arith, others b ne, was_below b l)

  within : (b : ℕ) → b < length r.net.now.nodes → after b ≤ periods_of r.repetitions.now r.periods b
  within b l =
      let up : r.high * get_or r.repetitions.now b 0 ≤ r.periods * get_or r.repetitions.now b 0 =
      mul-le-mul sw.under (let e : get_or r.repetitions.now b 0 ≤ get_or r.repetitions.now b 0 =
      omega arith in e) in
      omega (arith, below b l)

  -- so the queues have room
  abbrev ahead : Ahead (holding p) times
  ahead = record {
    m = after;
    own = own;
    others = others;
    below = within;
    rooms = λ c l.
        let w = (wiring s r.net.now).rates in
        let sound = (net_known s r sw).wired.sound in
        let x : ℕ = w.source c in
        let y : ℕ = w.target c in
        let up : w.produced c (after x) ≤ w.produced c (r.high * get_or r.repetitions.now x 0) =
        sound.produced_rises c (after x) (r.high * get_or r.repetitions.now x 0) (below x (sound.source_in c l)) in
        let down : w.consumed c (sw.low * get_or r.repetitions.now y 0) ≤ w.consumed c (before y) =
        sound.consumed_rises c (sw.low * get_or r.repetitions.now y 0) (before y)
        (was_above y (sound.target_in c l)) in
        omega (arith, sw.fits c l);
  }

  few : before a + times < 2 ^ 63
  few =
      let short : r.high ≤ 4294967295 = omega (arith, sw.under, sw.short) in
      let all : r.high * get_or r.repetitions.now a 0 ≤ 4294967295 * 65536 =
      mul-le-mul short (let e : get_or r.repetitions.now a 0 ≤ 65536 = sw.paced.small a known in e) in
      omega (arith, inside)

  at : (d : Work A T S) → phase_at (get_or r.works.items a d) ≡ phase_of s (node r.net.now a) (before a)
  at d = standing.at (holding p) d

  in_run : IsInRun r a times
  in_run = record {
    known = known;
    worked = omega (arith, sw.stands.nodes, known);
    takes_known = λ d. omega (arith, at d, sw.sizes.takes_known a (before a) known);
    puts_known = λ d. omega (arith, at d, sw.sizes.puts_known a (before a) known);
    counted = place;
    few = few;
  }

  -- where the runner stands at the counts after them, it is swept
  module _ (r' : Run A T S) (alone : FiresAlone r r' a times)
      (kept_rooms : (c : ℕ) → c < length r.queues.items → room r'.queues.items c ≡ room r.queues.items c)
      (stands : IsState s r.net.now (lists r.inputs.now) (periods_of r.repetitions.now r.periods) after r'.works.items
      r'.queues.items r'.outputs.items) where
    sweeps : Sweeps s r.net.now (lists r.inputs.now) r.sizes r.cycles r.repetitions.now r.periods r.high
        (set r.done.items a (get_or r.done.items a 0 + times)) r'.works.items r'.queues.items r'.outputs.items
    sweeps = record {
      good = sw.good;
      apart = sw.apart;
      sizes = sw.sizes;
      cycles = sw.cycles;
      reach = sw.reach;
      paced = sw.paced;
      short = sw.short;
      under = sw.under;
      stands = stands;
      all = length-set r.done.items a (get_or r.done.items a 0 + times) ∙ sw.all;
      low = sw.low;
      from = above;
      to = below;
      fits = λ c l. let same : room r'.queues.items c ≡ room r.queues.items c =
          kept_rooms c (omega (arith, sw.stands.channels)) in omega (arith, sw.fits c l);
    }

    swept_on : IsSwept s r'
    swept_on =
        subst (λ x. Sweeps s x.now (lists r'.inputs.now) r'.sizes r'.cycles r'.repetitions.now r'.periods r'.high
        r'.done.items r'.works.items r'.queues.items r'.outputs.items) (sym alone.net)
        (subst (λ x. Sweeps s r.net.now (lists x.now) r'.sizes r'.cycles r'.repetitions.now r'.periods r'.high
        r'.done.items r'.works.items r'.queues.items r'.outputs.items) (sym alone.inputs)
        (subst (λ x. Sweeps s r.net.now (lists r.inputs.now) x r'.cycles r'.repetitions.now r'.periods r'.high
        r'.done.items r'.works.items r'.queues.items r'.outputs.items) (sym alone.sizes)
        (subst (λ x. Sweeps s r.net.now (lists r.inputs.now) r.sizes x r'.repetitions.now r'.periods r'.high
        r'.done.items r'.works.items r'.queues.items r'.outputs.items) (sym alone.cycles)
        (subst (λ x. Sweeps s r.net.now (lists r.inputs.now) r.sizes r.cycles x.now r'.periods r'.high r'.done.items
        r'.works.items r'.queues.items r'.outputs.items) (sym alone.repetitions)
        (subst (λ x. Sweeps s r.net.now (lists r.inputs.now) r.sizes r.cycles r.repetitions.now x r'.high r'.done.items
        r'.works.items r'.queues.items r'.outputs.items) (sym alone.periods)
        (subst (λ x. Sweeps s r.net.now (lists r.inputs.now) r.sizes r.cycles r.repetitions.now r.periods x
        r'.done.items r'.works.items r'.queues.items r'.outputs.items) (sym alone.high)
        (subst (λ x. Sweeps s r.net.now (lists r.inputs.now) r.sizes r.cycles r.repetitions.now r.periods r.high x
        r'.works.items r'.queues.items r'.outputs.items) (sym alone.done) sweeps)))))))

    more : sum r'.done.items ≡ sum r.done.items + times
    more = ap sum alone.done ∙ (let e = sum_by-set (λ x. x) r.done.items a (get_or r.done.items a 0 + times) 0
        place in omega arith)

    moved_by : 0 < times → IsMoved r r' true
    moved_by some = record {
      keeps = record {
        net = alone.net;
        inputs = alone.inputs;
        repetitions = alone.repetitions;
        periods = alone.periods;
        outputs = alone.outputs;
        queues = alone.queues;
        rooms = kept_rooms;
      };
      high = alone.high;
      rises = omega (arith, more);
      moves = λ t. omega (arith, more, some);
      stays = λ e. absurd (true≢false e);
    }

-- what its firings leave in a runner
module _ {A S T : Type 0} (p : Swept A S T) where
  open p use {s, r, sw, a, known}

  its_work : Work A T S
  its_work = some_of r.works.items a (omega (arith, sw.stands.nodes, known))

  abbrev left_by : {times : ℕ} (r' : Run A T S) → FiresAlone r r' a times → After (holding p)
  left_by r' alone = record {
    works = r'.works.items;
    same_works = alone.works;
    w = get_or r'.works.items a its_work;
    its = λ d. get_or_default r'.works.items a d its_work (omega (arith, alone.works, sw.stands.nodes, known));
    rest = alone.others;
    qs = r'.queues.items;
    same_queues = alone.queues;
  }

-- firings of an actor in parts
module _ {A S T : Type 0} (p : Swept A S T) (times firings : ℕ)
    (inside : get_or p.r.done.items p.a 0 + firings ≤ p.r.high * get_or p.r.repetitions.now p.a 0)
    (takes puts : Work A T S → List ℕ) (parts : (d : Work A T S) → InParts (holding p) d times firings
    (takes (get_or p.r.works.items p.a d)) (puts (get_or p.r.works.items p.a d))) where
  open p use {s, r, sw, a}

  abbrev pub FitIn : ℕ → Type 0
  FitIn times = (d : Work A T S) → let w = get_or r.works.items a d in
      FitsCycles w (sum_by (λ c. get_or (takes w) c 0) ((wiring s r.net.now).ins a))
      (sum_by (λ c. get_or (puts w) c 0) ((wiring s r.net.now).outs a)) times

  pub can_fire_in_parts : FitIn times → FitIn 1 → CanFireInPartsAt s r a times firings takes puts
  can_fire_in_parts fit one = record {
    inside = in_run p firings inside;
    can = λ d. can_fire (parts d) (ahead p firings inside) (fit d) (one d)
        (let v : firings < 2 ^ 63 = omega (arith, few p firings inside) in v);
  }

  module _ (grows : HistoryGrowsByFiring s) (r' : Run A T S)
      (fired : AreFiredInPartsAt s r r' a times firings takes puts) where
    stand : IsState s r.net.now (lists r.inputs.now) (periods_of r.repetitions.now r.periods) (after p firings inside)
        r'.works.items r'.queues.items r'.outputs.items
    stand =
        subst (λ x. IsState s r.net.now (lists r.inputs.now) (periods_of r.repetitions.now r.periods)
        (after p firings inside) r'.works.items r'.queues.items x.items) (sym fired.lists)
        (stands_then (parts (its_work p)) (ahead p firings inside) grows sw.reach (left_by p r' fired.alone)
        (fired.fired (its_work p)))

    pub swept_in_parts : IsSwept s r'
    swept_in_parts = swept_on p firings inside r' fired.alone (fired.fired (its_work p)).rooms stand

    pub moved_in_parts : 0 < firings → IsMoved r r' true
    moved_in_parts = moved_by p firings inside r' fired.alone (fired.fired (its_work p)).rooms stand

-- one firing of an actor that may fire
module _ {A S T : Type 0} (p : Swept A S T) (may : MayFire p.s p.r p.a)
    (actor : (d : Work A T S) → IsActor (get_or p.r.works.items p.a d)) where
  pub next_in : get_or p.r.done.items p.a 0 + 1 ≤ p.r.high * get_or p.r.repetitions.now p.a 0
  next_in = omega (arith, may.1)

  pub one_part : (d : Work A T S) → InParts (holding p) d 1 1 (takes_next p.r (get_or p.r.works.items p.a d))
      (puts_next p.r (get_or p.r.works.items p.a d))
  one_part d = by_itself (holding p) d (actor d) may.2

  pub one_fits : FitIn p 1 1 next_in (takes_next p.r) (puts_next p.r) one_part 1
  one_fits d = fits_itself (holding p) d (actor d) may.2

-- the work of a node of a run, as it is read
pub goes_at : {A S T : Type 0} (s : Steps A S T) (r : Run A T S) (a : ℕ) → a < length r.works.items →
    (w : Work A T S) (ins outs : List ℕ) → w ≡ get_or r.works.items a w → ins ≡ (wiring s r.net.now).ins a →
    outs ≡ (wiring s r.net.now).outs a →
    CanBatch s w ins outs → (d : Work A T S) → CanBatch s (get_or r.works.items a d) ((wiring s r.net.now).ins a)
    ((wiring s r.net.now).outs a)
goes_at s r a known w ins outs is into from goes d =
    subst (λ x. CanBatch s x ((wiring s r.net.now).ins a) ((wiring s r.net.now).outs a))
    (is ∙ get_or_default r.works.items a w d known)
    (subst (λ x. CanBatch s w x ((wiring s r.net.now).outs a)) into (subst (λ x. CanBatch s w ins x) from goes))

pub actor_at : {A S T : Type 0} (works : List (Work A T S)) (a : ℕ) → a < length works → (w : Work A T S) →
    w ≡ get_or works a w → IsActor w → (d : Work A T S) → IsActor (get_or works a d)
actor_at works a known w is actor d = subst IsActor (is ∙ get_or_default works a w d known) actor

-- a batch of firings of a node whose firings can be batched
module _ {A S T : Type 0} (p : Swept A S T) (times : ℕ)
    (inside : get_or p.r.done.items p.a 0 + times ≤ p.r.high * get_or p.r.repetitions.now p.a 0)
    (goes : (d : Work A T S) → CanBatch p.s (get_or p.r.works.items p.a d) ((wiring p.s p.r.net.now).ins p.a)
    ((wiring p.s p.r.net.now).outs p.a)) (held : AreHeld p.s p.r p.a times) where
  open p use {s, r, sw, a}

  pub can_fire_at_once : CanFireBatchAt s r a times
  can_fire_at_once = record {
    inside = in_run p times inside;
    can = λ d. at_once.can_fire (holding p) d (goes d) (ahead p times inside) (held d 0);
  }

  module _ (grows : HistoryGrowsByFiring s) (r' : Run A T S) (fired : AreFiredAt s r r' a times) where
    all_stand : IsState s r.net.now (lists r.inputs.now) (periods_of r.repetitions.now r.periods)
        (after p times inside) r'.works.items r'.queues.items r'.outputs.items
    all_stand =
        at_once.fired_stands (holding p) (its_work p) (goes (its_work p)) (ahead p times inside) (held (its_work p) 0)
        grows sw.reach sw.apart (left_by p r' fired.alone) r'.outputs.items (fired.fired (its_work p))
        fired.alone.outputs

    pub swept_at_once : IsSwept s r'
    swept_at_once = swept_on p times inside r' fired.alone (fired.fired (its_work p)).rooms all_stand

    pub moved_at_once : 0 < times → IsMoved r r' true
    moved_at_once = moved_by p times inside r' fired.alone (fired.fired (its_work p)).rooms all_stand

-- so many cycles of an actor through its blocks
pub cycles_part : {A S T : Type 0} (p : Swept A S T) (times : ℕ) → CanBatchCyclesAt p.s p.r p.a times →
    (d : Work A T S) →
    InParts (holding p) d times (firings_in p.s p.r p.a times) (takes_cycle p.r (get_or p.r.works.items p.a d))
    (puts_cycle p.r (get_or p.r.works.items p.a d))
cycles_part p times go = by_cycles (holding p) (record { goes = go.goes; times = times; held = go.held })

-- its blocks have room for one cycle
pub its_blocks_at : {A S T : Type 0} (p : Swept A S T) (d : Work A T S) → let w = get_or p.r.works.items p.a d in
    FitsCycles w (sum_by (λ c. get_or (takes_cycle p.r w) c 0) ((wiring p.s p.r.net.now).ins p.a))
    (sum_by (λ c. get_or (puts_cycle p.r w) c 0) ((wiring p.s p.r.net.now).outs p.a)) 1
its_blocks_at p d = its_blocks (holding p) (get_or p.r.works.items p.a d) (p.sw.stands.each p.a d p.known)

-- a node that fired has fired more often
pub further : {A S T : Type 0} (s : Steps A S T) (r r' : Run A T S) (a times : ℕ) → IsSwept s r →
    a < length r.net.now.nodes → FiresAlone r r' a times → 0 < times →
    get_or r.done.items a 0 < get_or r'.done.items a 0
further s r r' a times sw known alone some =
    let now : get_or r'.done.items a 0 ≡ get_or r.done.items a 0 + times =
    ap (λ xs. get_or xs a 0) alone.done ∙ get_or-set_same r.done.items a (get_or r.done.items a 0 + times) 0
    (omega (arith, sw.all, known)) in
    omega (arith, now, some)

-- the node's work as it is read, its ports, and what its cycles move there
module _ {A S T : Type 0} (p : Swept A S T) {w : Work A T S} {ins outs takes puts : List ℕ} {qs : List (QueueValue T)}
    (is : w ≡ get_or p.r.works.items p.a w) (into : ins ≡ (wiring p.s p.r.net.now).ins p.a)
    (from : outs ≡ (wiring p.s p.r.net.now).outs p.a) (by : takes ≡ p.r.cycles.takes.items)
    (on : puts ≡ p.r.cycles.puts.items) (queues : qs ≡ p.r.queues.items) where
  open p use {s, r, sw, a, known}

  work_is : HasWork (holding p) a w
  work_is = subst (HasWork (holding p) a) (sym is) (sw.stands.each a w known)

  in_sum : sum_by (λ c. get_or takes c 0) ins ≡
      sum_by (λ c. get_or r.cycles.takes.items c 0) ((wiring s r.net.now).ins a)
  in_sum = λ i. sum_by (λ c. get_or (by i) c 0) (into i)

  out_sum : sum_by (λ c. get_or puts c 0) outs ≡
      sum_by (λ c. get_or r.cycles.puts.items c 0) ((wiring s r.net.now).outs a)
  out_sum = λ i. sum_by (λ c. get_or (on i) c 0) (from i)

  pub rows_at : HasRows s r.sizes w ins outs
  rows_at = subst (λ x. HasRows s r.sizes w x outs) (sym into)
      (subst (λ x. HasRows s r.sizes w ((wiring s r.net.now).ins a) x) (sym from) (has_rows (holding p) w work_is))

  pub blocks_at : FitsCycles w (sum_by (λ c. get_or takes c 0) ins) (sum_by (λ c. get_or puts c 0) outs) 1
  blocks_at =
      subst (λ v. FitsCycles w v (sum_by (λ c. get_or puts c 0) outs) 1) (sym in_sum)
      (subst (λ v. FitsCycles w (sum_by (λ c. get_or r.cycles.takes.items c 0) ((wiring s r.net.now).ins a)) v 1)
      (sym out_sum) (its_blocks (holding p) w work_is))

  pub ins_at : ArePorts ins takes (length qs)
  ins_at =
      let ports = ports_in p w in
      let all : length takes ≡ length r.queues.items =
      ap length by ∙ (sw.cycles.takes_all ∙ sym sw.stands.channels) in
      subst (λ x. ArePorts x takes (length qs)) (sym into)
      (subst (λ x. ArePorts ((wiring s r.net.now).ins a) takes (length x)) (sym queues)
      (record { known = ports.known; sized = all; once = ports.once }))

  pub outs_at : ArePorts outs puts (length qs)
  outs_at =
      let all : length puts ≡ length r.queues.items = ap length on ∙ (sw.cycles.puts_all ∙ sym sw.stands.channels) in
      subst (λ x. ArePorts x puts (length qs)) (sym from)
      (subst (λ x. ArePorts ((wiring s r.net.now).outs a) puts (length x)) (sym queues)
      (record {
        known = λ q l. omega (arith, ((net_known s r sw).wired.outs_are a q known l).0, sw.stands.channels);
        sized = all;
        once = λ u v l h. (net_known s r sw).wired.outs_once a u v known l h;
      }))

  pub go_at : (times : ℕ) → CanBatchCycles s r.sizes w ins outs → HoldManyBlocks times ins takes qs →
      FitsCycles w (sum_by (λ c. get_or takes c 0) ins) (sum_by (λ c. get_or puts c 0) outs) times →
      CanBatchCyclesAt s r a times
  go_at times goes held fit = record {
    goes = λ d. subst (λ x. CanBatchCycles s r.sizes x ((wiring s r.net.now).ins a) ((wiring s r.net.now).outs a))
        (is ∙ get_or_default r.works.items a w d place_in)
        (subst (λ x. CanBatchCycles s r.sizes w x ((wiring s r.net.now).outs a)) into
        (subst (λ x. CanBatchCycles s r.sizes w ins x) from goes));
    held = subst (λ x. HoldManyBlocks times x r.cycles.takes.items r.queues.items) into
        (subst (λ x. HoldManyBlocks times ins x r.queues.items) by
        (subst (λ x. HoldManyBlocks times ins takes x) queues held));
    fit = λ d. subst (λ x. FitsCycles x (sum_by (λ c. get_or r.cycles.takes.items c 0) ((wiring s r.net.now).ins a))
        (sum_by (λ c. get_or r.cycles.puts.items c 0) ((wiring s r.net.now).outs a)) times)
        (is ∙ get_or_default r.works.items a w d place_in)
        (subst (λ v. FitsCycles w v (sum_by (λ c. get_or r.cycles.puts.items c 0) ((wiring s r.net.now).outs a)) times)
        in_sum
        (subst (λ v. FitsCycles w (sum_by (λ c. get_or takes c 0) ins) v times) out_sum fit));
  }
    where
      place_in : a < length r.works.items
      place_in = omega (arith, sw.stands.nodes, known)

-- a sweep that fires leaves less, and one that does not is the last
goes_less : (a b : Bool) (all x y : ℕ) → IsTrue a → x ≤ y → y ≤ all → (IsTrue b → x < y) →
    cond b 1 0 + (all - y) < cond a 1 0 + (all - x)
goes_less true true all x y t rise within more = let m : x < y = more refl in omega arith
goes_less true false all x y t rise within more = omega arith
goes_less false b all x y t rise within more = absurd (let e : false ≡ true = t in true≢false (sym e))

-- the firings of a block in all
abbrev pub in_block : {A S T : Type 0} → Run A T S → ℕ
in_block r = sum (map (λ x. r.high * x) r.repetitions.now)

sum_below : (xs q : List ℕ) (high : ℕ) → length xs ≡ length q →
    ((i : ℕ) → i < length xs → get_or xs i 0 ≤ high * get_or q i 0) → sum xs ≤ sum (map (λ x. high * x) q)
sum_below xs q high e h = lists_sum_within xs (map (λ x. high * x) q) (e ∙ sym (length-map q (λ x. high * x))) each
  where
    each : (i : ℕ) → get_or xs i 0 ≤ get_or (map (λ x. high * x) q) i 0
    each i = go (cases_lt i (length xs))
      where
        go : (i < length xs) ⊎ (length xs ≤ i) → get_or xs i 0 ≤ get_or (map (λ x. high * x) q) i 0
        go (inl l) = omega (arith, h i l, get_or-map (λ x. high * x) q i 0 0 (omega arith))
        go (inr past) = let none : get_or xs i 0 ≡ 0 = beyond xs i past in omega arith
          where
            beyond : (ys : List ℕ) (j : ℕ) → length ys ≤ j → get_or ys j 0 ≡ 0
            beyond [] j p = refl
            beyond (y ∷ ys) zero p = absurd (omega arith)
            beyond (y ∷ ys) (suc j) p = beyond ys j (omega arith)

pub smaller : {A S T : Type 0} (s : Steps A S T) (r r' : Run A T S) (goes goes' : Bool) →
    IsTrue goes → IsSwept s r' → IsMoved r r' goes' →
    cond goes' 1 0 + (in_block r' - sum r'.done.items) < cond goes 1 0 + (in_block r - sum r.done.items)
smaller s r r' goes goes' t sw moved =
    let same : in_block r' ≡ in_block r = λ i. sum (map (λ x. moved.high i * x) (moved.keeps.repetitions i).now) in
    let all : sum r'.done.items ≤ in_block r' = sum_below r'.done.items r'.repetitions.now r'.high
    (sw.all ∙ sym sw.paced.all) (λ i l. sw.to i (omega (arith, sw.all))) in
    let less = goes_less goes goes' (in_block r) (sum r.done.items) (sum r'.done.items) t moved.rises
    (omega arith) moved.moves in
    omega (arith, same)

-- where none may fire, all have fired the block
pub all_fired : {A S T : Type 0} (s : Steps A S T) (r : Run A T S) → IsSwept s r →
    IsSound (wiring s r.net.now).rates → ((a : ℕ) → MayFire s r a → ⊥) →
    (a : ℕ) → a < length r.net.now.nodes → get_or r.done.items a 0 ≡ r.high * get_or r.repetitions.now a 0
all_fired s r sw sound still a l = go (cases_lt (get_or r.done.items a 0) (r.high * get_or r.repetitions.now a 0))
  where
    to : get_or r.done.items a 0 ≤ r.high * get_or r.repetitions.now a 0
    to = sw.to a l

    go : (get_or r.done.items a 0 < r.high * get_or r.repetitions.now a 0)
        ⊎ (r.high * get_or r.repetitions.now a 0 ≤ get_or r.done.items a 0) →
        get_or r.done.items a 0 ≡ r.high * get_or r.repetitions.now a 0
    go (inl less) =
        let pass = sw.paced.passes r.high in
        absurd (stuck_counts_mean_deadlock (wiring s r.net.now).rates (periods_of r.repetitions.now r.high)
        (λ b. get_or r.done.items b 0)
        sound still a l less pass.0 pass.1)
    go (inr all) = omega (arith, to, all)

-- queues keep their room
pub room_along : {A S T : Type 0} (s : Steps A S T) (size : ℕ) (r r' : Run A T S) → Keeps r r' →
    length r.queues.items ≡ length r.net.now.wires → HasRoom s size r → HasRoom s size r'
room_along s size r r' keeps channels has =
    subst (λ x. (c : ℕ) → c < length x.now.wires →
    (wiring s x.now).rates.initial c + size * (wiring s x.now).rates.produced c
    (get_or r'.repetitions.now ((wiring s x.now).rates.source c) 0) ≤ room r'.queues.items c) (sym keeps.net)
    (subst (λ x. (c : ℕ) → c < length r.net.now.wires →
    (wiring s r.net.now).rates.initial c + size
    * (wiring s r.net.now).rates.produced c (get_or x.now ((wiring s r.net.now).rates.source c) 0) ≤
    room r'.queues.items c) (sym keeps.repetitions)
    (λ c l. subst (λ m. (wiring s r.net.now).rates.initial c
    + size * (wiring s r.net.now).rates.produced c
    (get_or r.repetitions.now ((wiring s r.net.now).rates.source c) 0) ≤ m)
    (sym (keeps.rooms c (omega (arith, channels)))) (has c l)))

-- the next block may begin
pub block_begins : {A S T : Type 0} (s : Steps A S T) (r : Run A T S) → IsSwept s r → (next size : ℕ) → r.high ≤ next →
    next ≤ r.periods → next ≤ r.high + size →
    ((a : ℕ) → a < length r.net.now.nodes → get_or r.done.items a 0 ≡ r.high * get_or r.repetitions.now a 0) →
    HasRoom s size r → Sweeps s r.net.now (lists r.inputs.now) r.sizes r.cycles r.repetitions.now r.periods next
    r.done.items r.works.items r.queues.items r.outputs.items
block_begins s r sw next size rise under step at rooms = record {
  good = sw.good;
  apart = sw.apart;
  sizes = sw.sizes;
  cycles = sw.cycles;
  reach = sw.reach;
  paced = sw.paced;
  short = sw.short;
  under = under;
  stands = sw.stands;
  all = sw.all;
  low = r.high;
  from = λ a l. omega (arith, at a l);
  to = λ a l. let m : r.high * get_or r.repetitions.now a 0 ≤ next * get_or r.repetitions.now a 0 =
      mul-le-mul rise (let e : get_or r.repetitions.now a 0 ≤ get_or r.repetitions.now a 0 = omega arith in e) in
      omega (arith, at a l);
  fits = λ c l.
      let w = (wiring s r.net.now).rates in
      let p : ℕ = w.produced c (get_or r.repetitions.now (w.source c) 0) in
      let more : next * p ≤ (r.high + size) * p = mul-le-mul step (let e : p ≤ p = omega arith in e) in
      let split : (r.high + size) * p ≡ r.high * p + size * p = omega arith in
      omega (arith, sw.paced.put next c l, sw.paced.taken r.high c l, rooms c l);
}
