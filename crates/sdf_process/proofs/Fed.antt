-- A session of a run goes on: what it stands after, and what of that is written.
use Rattle.std.proofs.Common.{◌≡◌, ℕ, ◌+◌, ◌*◌, ◌/◌, ◌≤◌, ◌<◌, ℤ, zero, suc, List, [], ◌∷◌, length}
use Rattle.std.proofs.Common.{map, get_or, Some, None, refl, sym, ap, ◌∙◌, subst, arith}
use Rattle.std.specs.List.{range_with_len}
use Rattle.std.proofs.Math.Nat.{mul-div_left, mul-le-mul_left}
use Rattle.std.proofs.lemmas.List.FromFn.{length-map-range_with_len}
use Rattle.sdf_actor.specs.declared.sides.Lists.TheVariants.{Inputs, Outputs}
use Rattle.sdf_actor.specs.Nets.{Netlist}
use Rattle.sdf_actor.specs.NetStates.{AreJoined}
use Rattle.sdf_actor.specs.Sides.{list_count, period_samples}
use Rattle.sdf_queues.specs.RunResults.{HasInputs, periods_of as firings}
use Rattle.sdf_queues.specs.Feeds.{AreFull, HasRun}
use Rattle.sdf_queues.specs.declared.fault.RunFault.{RunFault}
use Rattle.sdf_queues.specs.declared.fault.RunFault.TheVariants as run
use Rattle.sdf_kit.specs.declared.kit.Kit.{Kit}
use Rattle.sdf_kit.specs.Kit.{kit_steps}
use Rattle.sdf_prec.specs.Tables.{TableValue}
use Rattle.sdf_run.specs.Sessions.{SessionValue, AreBlocks, AreNone, FeedsBlocks, HasFed, IsFeedFault, IsLive}
use Rattle.sdf_run.specs.Sessions.{IsModeFault, MayRun, StandsAfter}
use Rattle.sdf_run.specs.declared.mode.Mode.{Mode}
use Rattle.sdf_run.specs.declared.mode.Mode.TheVariants.{Rings, Rows}
use Rattle.sdf_sched.specs.Period.{Schedule}
use Rattle.sdf_parallel.specs.Cuts.{join}
use Rattle.sdf_parallel.proofs.Theorems.{joined_is, joined_long}
use Rattle.sdf_wav.specs.Sound.{Sound}
use Rattle.sdf_process.specs.declared.io_rates.IoRates.{IoRates}
use Rattle.sdf_process.specs.declared.portion.Portion.{Portion}
use Rattle.sdf_faults.specs.declared.fault.Fault.TheVariants.{OutOfMemory}
use Rattle.sdf_faults.specs.Faults.{of_run}
use Rattle.sdf_process.specs.Output.{channel_samples, io_rates_of, interleaved, lists_from, lists_to}
use Rattle.sdf_process.specs.Streams.{CanRun, FeedsBy, Follows, Makes, StandsAt}
use Rattle.sdf_process.proofs.Pieced.{AreRun, blank, blank_at, blank_long, blocks_made, one_list}
use Rattle.sdf_process.proofs.Played.{from_at, lists_full, lists_joined, lists_long}
use Rattle.sdf_process.proofs.Rendering.{are_inputs}
use Rattle.sdf_process.proofs.Sizes.{positive}

-- the lists of so many blocks are blocks
pub blocks_given : (v : SessionValue Kit (List ℤ) ℤ) (blocks : ℕ) (x : IoRates) (s : Sound) →
    x ≡ io_rates_of v.net v.period.repetitions → blocks ≤ 4294967295 →
    FeedsBlocks v blocks (lists_from 0 (blocks * v.blocking) x s)
blocks_given v blocks x s same few = record {
  few = few;
  count = length-map-range_with_len _ 0 x.inputs ∙ ap (λ (y : IoRates). y.inputs) same;
  each = λ e here.
      let taken : blocks * v.blocking * x.taken ≡ blocks * (v.blocking * x.taken) = omega arith in
      from_at 0 (blocks * v.blocking) x s e here ∙ (taken ∙ ap (λ (y : IoRates). blocks * (v.blocking * y.taken)) same);
}

-- so memory alone may be refused
pub feed_refused : (v : SessionValue Kit (List ℤ) ℤ) (blocks : ℕ) (inputs : List (List ℤ)) → IsLive v →
    FeedsBlocks v blocks inputs → (e : RunFault) → IsFeedFault v inputs e → of_run e ≡ OutOfMemory
feed_refused v blocks inputs live are run.OutOfMemory why = refl
feed_refused v blocks inputs live are run.InputLength why = absurd (why.1 blocks are)
feed_refused v blocks inputs live are run.NotHomed why = absurd why
feed_refused v blocks inputs live are run.Patience why = absurd why
feed_refused v blocks inputs live are run.NoWorker why = absurd why
feed_refused v blocks inputs live are run.SessionFailed why =
    absurd (let no : None ≡ Some live.0 = sym why ∙ live.1 in cc)

-- lists are so many blocks in one way alone
same_blocks : (many samples b c : ℕ) (inputs : List (List ℤ)) → 0 < many → 0 < samples →
    AreBlocks many samples b inputs → AreBlocks many samples c inputs → b ≡ c
same_blocks many samples b c inputs some sized x y =
    let here : 0 < length inputs = omega (arith, some, x.count) in
    let same : b * samples ≡ c * samples = sym (x.each 0 here) ∙ y.each 0 here in
    sym (mul-div_left b sized) ∙ (ap (λ (z : ℕ). z / samples) same ∙ mul-div_left c sized)

-- a session that was fed can be fed again
pub feeds_still : (n : Netlist Kit ℤ) (p : Schedule) (j : ℕ) (v : SessionValue Kit (List ℤ) ℤ) → FeedsBy n p j v →
    (w : SessionValue Kit (List ℤ) ℤ) (blocks : ℕ) (given on : List (List ℤ)) (rounds : ℕ) →
    HasFed kit_steps v w blocks given on rounds → FeedsBy n p j w
feeds_still n p j v by w blocks given on rounds fed = record {
  live = (fed.rest, ap (λ (z : SessionValue Kit (List ℤ) ℤ). z.rest) fed.now);
  net = ap (λ (z : SessionValue Kit (List ℤ) ℤ). z.net) fed.now ∙ by.net;
  period = ap (λ (z : SessionValue Kit (List ℤ) ℤ). z.period) fed.now ∙ by.period;
  blocking = ap (λ (z : SessionValue Kit (List ℤ) ℤ). z.blocking) fed.now ∙ by.blocking;
}

-- what was run, in the names of a session's net, period and blocks, and back
module _ (n : Netlist Kit ℤ) (p : Schedule) (j : ℕ) (v : SessionValue Kit (List ℤ) ℤ) (by : FeedsBy n p j v)
    (P : Netlist Kit ℤ → Schedule → ℕ → Type 0) where
  pub to_session : P n p j → P v.net v.period v.blocking
  to_session h = subst (λ (m : Netlist Kit ℤ). P m v.period v.blocking) (sym by.net)
      (subst (λ (y : Schedule). P n y v.blocking) (sym by.period) (subst (P n p) (sym by.blocking) h))

  pub from_session : P v.net v.period v.blocking → P n p j
  from_session h = subst (P n p) by.blocking (subst (λ (y : Schedule). P n y v.blocking) by.period
      (subst (λ (m : Netlist Kit ℤ). P m v.period v.blocking) by.net h))

-- a session stands after what was run
pub session_stands : (n : Netlist Kit ℤ) (p : Schedule) (j : ℕ) (v : SessionValue Kit (List ℤ) ℤ) →
    FeedsBy n p j v → (s : Sound) (blocks frames : ℕ) (bytes : List ℕ)
    (at : StandsAt n p j s blocks frames bytes v.rest) →
    StandsAfter kit_steps v blocks (lists_to (blocks * j) (io_rates_of n p.repetitions) s) at.made
session_stands n p j v by s blocks frames bytes at =
    let fed = lists_to (blocks * j) (io_rates_of n p.repetitions) s in
    record {
      given = to_session n p j v by (λ m y k. HasInputs m y.repetitions (blocks * k) fed)
          (are_inputs n p.repetitions s (blocks * j));
      full = to_session n p j v by (λ m y k. AreFull m y.repetitions (blocks * k) fed)
          (lists_full n p.repetitions (blocks * j) s);
      rest = at.rest;
      held = at.held;
      run = to_session n p j v by (λ m y k. HasRun kit_steps m fed (firings y.repetitions (blocks * k)) at.made at.rest)
          at.run;
    }

-- ---- a session that is fed

module _ (n : Netlist Kit ℤ) (p : Schedule) (j : ℕ) (v : SessionValue Kit (List ℤ) ℤ) (by : FeedsBy n p j v)
    (y : Portion) (can : CanRun n p j y) (blocks : ℕ) (periods : y.periods ≡ blocks * j)
    (inputs : List (List ℤ))
    (given : inputs ≡ lists_from 0 y.periods y.io y.input.now) where
  abbrev x : IoRates
  x = io_rates_of n p.repetitions

  exchange_is : x ≡ io_rates_of v.net v.period.repetitions
  exchange_is = to_session n p j v by (λ m z k. x ≡ io_rates_of m z.repetitions) refl

  few_blocks : blocks ≤ 4294967295
  few_blocks =
      let more : blocks * 1 ≤ blocks * j = mul-le-mul_left blocks (let z : 1 ≤ j = omega (arith, can.some) in z) in
      omega (arith, more, periods, y.fits)

  inputs_are : inputs ≡ lists_from 0 (blocks * j) x y.input.now
  inputs_are = given ∙ (ap (λ (k : ℕ). lists_from 0 k y.io y.input.now) periods
      ∙ ap (λ (e : IoRates). lists_from 0 (blocks * j) e y.input.now) can.io)

  blocks_fed : FeedsBlocks v blocks inputs
  blocks_fed = subst (FeedsBlocks v blocks)
      (sym (inputs_are ∙ ap (λ (k : ℕ). lists_from 0 (blocks * k) x y.input.now) (sym by.blocking)))
      (blocks_given v blocks x y.input.now exchange_is few_blocks)

  -- memory alone may be refused
  pub fed_refused : (e : RunFault) → IsFeedFault v inputs e → of_run e ≡ OutOfMemory
  fed_refused e why = feed_refused v blocks inputs by.live blocks_fed e why

  module _ (w : SessionValue Kit (List ℤ) ℤ) (on : List (List ℤ)) (rounds : ℕ)
      (found : (b : ℕ) × HasFed kit_steps v w b inputs on rounds) where
    some_inputs : 0 < list_count Inputs v.net.nodes
    some_inputs = subst (λ (m : Netlist Kit ℤ). 0 < list_count Inputs m.nodes) (sym by.net)
        (omega (arith, can.has.accepted.1.lists.input))

    some_samples : 0 < v.blocking * period_samples v.net.nodes Inputs v.period.repetitions
    some_samples =
        positive v.blocking (period_samples v.net.nodes Inputs v.period.repetitions)
        (subst (λ (k : ℕ). 0 < k) (sym by.blocking) can.some)
        (subst (λ (z : IoRates). 0 < z.taken) (can.io ∙ exchange_is) y.limits.some_taken)

    fed : HasFed kit_steps v w blocks inputs on rounds
    fed = subst (λ (b : ℕ). HasFed kit_steps v w b inputs on rounds)
        (same_blocks (list_count Inputs v.net.nodes)
        (v.blocking * period_samples v.net.nodes Inputs v.period.repetitions) found.0 blocks
        inputs some_inputs some_samples found.1.whole blocks_fed) found.1

    -- frames of what was fed
    pub fed_made : (s : Sound) (few : ℕ) (bytes : List ℕ) → Follows n p j s few blocks bytes v.rest y →
        (frames : ℕ) (list : List ℤ) → list ≡ interleaved frames on →
        Makes n p j s few blocks frames bytes (list ∷ []) w.rest
    fed_made s few bytes follows frames list is =
        let one = one_list x.outputs frames on list is count in
        blocks_made can.has are w.rest after_both.held frames (list ∷ []) one.0 one.1
      where
        count : length on ≡ list_count Outputs n.nodes
        count = fed.count ∙ ap (λ (m : Netlist Kit ℤ). list_count Outputs m.nodes) by.net

        same : length follows.stands.made ≡ length on
        same = follows.stands.run.count ∙ sym count

        all : few * j + y.periods ≡ (few + blocks) * j
        all = ap (λ (k : ℕ). few * j + k) periods
            ∙ (let z : few * j + blocks * j ≡ (few + blocks) * j = omega arith in z)

        next : lists_from (few * j) y.periods x s ≡ inputs
        next = follows.lists ∙ (ap (λ (e : IoRates). lists_from 0 y.periods e y.input.now) (sym can.io)
            ∙ sym given)

        after_both : StandsAfter kit_steps w (few + blocks) (lists_to ((few + blocks) * j) x s)
            (join follows.stands.made on)
        after_both = fed.stands few (lists_to (few * j) x s) (lists_to ((few + blocks) * j) x s) follows.stands.made
            (join follows.stands.made on) (session_stands n p j v by s few (few * j * x.made) bytes follows.stands)
            (subst (λ (g : List (List ℤ)). AreJoined (lists_to (few * j) x s) g
            (lists_to ((few + blocks) * j) x s)) next
            (subst (λ (k : ℕ). AreJoined (lists_to (few * j) x s) (lists_from (few * j) y.periods x s)
            (lists_to k x s)) all (lists_joined (few * j) y.periods x s)))
            (subst (λ (k : ℕ). length (lists_to k x s) ≡ length (lists_to (few * j) x s)) all
            (lists_long (few * j) y.periods x s))
            (joined_is follows.stands.made on (omega (arith, same))) (joined_long follows.stands.made on)

        run_both : HasRun kit_steps n (lists_to ((few + blocks) * j) x s) (firings p.repetitions ((few + blocks) * j))
            (join follows.stands.made on) after_both.rest
        run_both = from_session n p j w (feeds_still n p j v by w (found.0) inputs on rounds found.1)
            (λ m z k. HasRun kit_steps m (lists_to ((few + blocks) * j) x s)
            (firings z.repetitions ((few + blocks) * k))
            (join follows.stands.made on) after_both.rest) after_both.run

        are : AreRun n p j s few blocks bytes v.rest on after_both.rest
        are = record { stands = follows.stands; count = count; run = run_both }

-- ---- a session that was fed nothing

-- a table that can be run so is not refused, so memory alone may be
pub opened_refused : (t : TableValue) (mode : Mode) → MayRun t mode → (e : RunFault) → IsModeFault t mode e →
    of_run e ≡ OutOfMemory
opened_refused t mode may run.OutOfMemory why = refl
opened_refused t Rows may run.InputLength why = absurd why
opened_refused t Rows may run.NotHomed why = absurd why
opened_refused t Rows may run.Patience why = absurd why
opened_refused t Rows may run.NoWorker why = absurd why
opened_refused t Rows may run.SessionFailed why = absurd why
opened_refused t (Rings patience) may run.InputLength why = absurd why
opened_refused t (Rings patience) may run.NotHomed why = absurd (why may.0)
opened_refused t (Rings patience) may run.Patience why = absurd (omega (arith, may.1, why.1))
opened_refused t (Rings patience) may run.NoWorker why = absurd why
opened_refused t (Rings patience) may run.SessionFailed why = absurd why

-- it stands after nothing
pub stands_first : (n : Netlist Kit ℤ) (p : Schedule) (j : ℕ) (v : SessionValue Kit (List ℤ) ℤ) → v.net ≡ n →
    v.period ≡ p → v.blocking ≡ j →
    ((fed made : List (List ℤ)) → AreNone (list_count Inputs n.nodes) fed → AreNone (list_count Outputs n.nodes) made →
    StandsAfter kit_steps v 0 fed made) → (s : Sound) → StandsAt n p j s 0 0 [] v.rest
stands_first n p j v net period blocking stands s = record {
  made = blank (list_count Outputs n.nodes);
  rest = after.rest;
  held = after.held;
  run = from_session n p j v (record {
    live = (after.rest, after.held);
    net = net;
    period = period;
    blocking = blocking;
  })
      (λ m y k. HasRun kit_steps m (lists_to (0 * j) (io_rates_of n p.repetitions) s) (firings y.repetitions (0 * k))
      (blank (list_count Outputs n.nodes)) after.rest) after.run;
  bytes_are = refl;
}
  where
    none_at : (a k e : ℕ) → get_or (map (channel_samples s 0) (range_with_len a k)) e [] ≡ []
    none_at a zero e = refl
    none_at a (suc k) zero = refl
    none_at a (suc k) (suc e) = none_at (a + 1) k e

    after : StandsAfter kit_steps v 0 (lists_to (0 * j) (io_rates_of n p.repetitions) s)
        (blank (list_count Outputs n.nodes))
    after = stands (lists_to (0 * j) (io_rates_of n p.repetitions) s) (blank (list_count Outputs n.nodes))
        (record {
          count = length-map-range_with_len (channel_samples s (0 * j * (io_rates_of n p.repetitions).taken)) 0
              (io_rates_of n p.repetitions).inputs;
          each = λ e. ap (λ (k : ℕ). get_or (map (channel_samples s k)
              (range_with_len 0 (io_rates_of n p.repetitions).inputs)) e [])
              (let z : 0 * j * (io_rates_of n p.repetitions).taken ≡ 0 = omega arith in z)
              ∙ none_at 0 (io_rates_of n p.repetitions).inputs e;
        })
        (record { count = blank_long (list_count Outputs n.nodes); each = blank_at (list_count Outputs n.nodes) })
