use Rattle.std.proofs.Common.{◌≡◌, ℕ, ◌+◌, ◌*◌, ◌≤◌, ◌<◌, length, get_or, ap, sym, ◌∙◌, subst, arith}
use Rattle.std.proofs.Math.ListN.{get_or-map}
use Rattle.std.proofs.lemmas.List.{length-map}
use Rattle.sdf_actor.specs.declared.sides.Lists.TheVariants.{Outputs}
use Rattle.sdf_actor.specs.Sides.{period_samples}
use Rattle.sdf_queues.specs.Periods.{CanRun}
use Rattle.sdf_actor.specs.Nets.{wiring}
use Rattle.sdf_actor.specs.Wires.{lists}
use Rattle.sdf_actor.proofs.Theorems.{nets_are_wired}
use Rattle.sdf_queues.specs.RunResults.{periods_of}
use Rattle.sdf_queues.proofs.Theorems.{nets_have_facts, histories_begin, nets_can_run, nets_have_periods}
use Rattle.sdf_queues.specs.Blocks.{room}
use Rattle.sdf_one.specs.Runs.{IsState}
use Rattle.sdf_one.specs.Sweeps.{Sweeps}
use Rattle.sdf_one.proofs.Ends.{begun_stands, the_none}
use Rattle.sdf_one.proofs.run_inputs.fired.Goals as goal
use Rattle.sdf_one.proofs.run_inputs.fired.Goals.{After-run-1}

-- it can be run for its periods
can : (g : Rattle.sdf_one.proofs.run_inputs.fired.Given.Over) (c : After-run-1 g) →
    CanRun g.A.Actor.steps c.args.run_inputs.net.now c.repetitions-repetitions.result.now c.args.run_inputs.periods
    (lists c.args.run_inputs.inputs.now)
can g c =
    subst (λ q. CanRun g.A.Actor.steps c.args.run_inputs.net.now q c.args.run_inputs.periods
    (lists c.args.run_inputs.inputs.now))
    (sym c.repetitions-repetitions.ensures)
    (nets_can_run g.A.Actor.steps c.args.run_inputs.net.now c.args.run_inputs.period.now c.args.run_inputs.periods
    (lists c.args.run_inputs.inputs.now)
    (nets_have_periods g.A.Actor.steps c.args.run_inputs.net.now c.requires.run_inputs.accepted
    c.args.run_inputs.period.now c.requires.run_inputs.period)
    c.requires.run_inputs.inputs)

rooms : (g : Rattle.sdf_one.proofs.run_inputs.fired.Given.Over) (c : After-run-1 g) (d : ℕ) →
    d < length c.args.run_inputs.net.now.wires →
    (wiring g.A.Actor.steps c.args.run_inputs.net.now).rates.initial d
    + c.block_periods-size.result * (wiring g.A.Actor.steps c.args.run_inputs.net.now).rates.produced d
    (get_or c.repetitions-repetitions.result.now ((wiring g.A.Actor.steps
    c.args.run_inputs.net.now).rates.source d) 0) ≤
    room c.in_ok-queues.queues.items d
rooms g c d l = omega (
  arith,
  ap (λ x. x.room) (c.in_ok-queues.ensures.1 d l),
  ap (λ m. c.block_periods-size.result * m) ((can g c).put d l),
)

none : (g : Rattle.sdf_one.proofs.run_inputs.fired.Given.Over) (c : After-run-1 g) (a : ℕ) →
    get_or c.in_ok-done.done.items a 0 ≡ 0
none g c a = ap (λ xs. get_or xs a 0) c.in_ok-done.ensures
    ∙ get_or-map (λ (x : ℕ). the_none) c.repetitions-repetitions.result.now a 0

-- nothing has fired, and the first block has not begun
begun : (g : Rattle.sdf_one.proofs.run_inputs.fired.Given.Over) (c : After-run-1 g) →
    Sweeps g.A.Actor.steps c.args.run_inputs.net.now (lists c.args.run_inputs.inputs.now) c.in_ok-sizes.sizes
    c.in_ok-cycles.cycles c.repetitions-repetitions.result.now c.args.run_inputs.periods 0
    c.in_ok-done.done.items c.in_ok-works.works.items c.in_ok-queues.queues.items c.args.outputs.items
begun g c =
    let s = g.A.Actor.steps in
    let n = c.args.run_inputs.net.now in
    let q = c.repetitions-repetitions.result.now in
    let step = (can g c).paced in
    let net = nets_have_facts s n c.requires.run_inputs.accepted in
    record {
      good = net.net;
      apart = net.sinks.apart;
      sizes = c.in_ok-sizes.ensures;
      cycles = c.in_ok-cycles.ensures;
      reach = (can g c).reach;
      paced = step;
      short = c.requires.short;
      under = omega arith;
      stands = begun_stands s n (nets_are_wired s n net.net)
          (lists c.args.run_inputs.inputs.now)
          (periods_of q c.args.run_inputs.periods) (λ a. get_or c.in_ok-done.done.items a 0)
          c.in_ok-works.works.items c.in_ok-queues.queues.items c.args.outputs.items (none g c)
          (histories_begin s n (lists c.args.run_inputs.inputs.now)
          (λ a. get_or c.in_ok-done.done.items a 0)
          net.net (λ a l. none g c a))
          (omega (arith, c.in_ok-queues.ensures.0)) (omega (arith, c.in_ok-works.ensures.0))
          (λ d l. ap (λ x. x.samples) (c.in_ok-queues.ensures.1 d l))
          c.in_ok-works.ensures.1
          (can g c).reads
          (λ a ext block l x.
          let known = net.sinks.below a ext block l x in
          let below : ext < length c.args.outputs.items = omega (arith, known, c.requires.outputs.0) in
          let e = c.requires.outputs.1 ext known in
          let room_is = e.1 ∙ ap (λ r. c.args.run_inputs.periods * period_samples n.nodes Outputs r)
          (sym c.repetitions-repetitions.ensures) in
          (below, e.0, omega (arith, (can g c).makes a ext block l x, room_is)));
      all = ap length c.in_ok-done.ensures ∙ (length-map q (λ (x : ℕ). the_none) ∙ step.all);
      low = 0;
      from = λ a l. omega arith;
      to = λ a l. omega (arith, none g c a);
      fits = λ d l. omega (arith, step.put 0 d l, step.taken 0 d l, rooms g c d l);
    }

pub make_works-requires-clause-net : goal.make_works-requires-clause-net
make_works-requires-clause-net g c κs within =
    (nets_have_facts g.A.Actor.steps c.args.run_inputs.net.now c.requires.run_inputs.accepted).net

pub fire_all-requires-clause-swept : goal.fire_all-requires-clause-swept
fire_all-requires-clause-swept g c = λ κs within. begun g c

pub fire_all-requires-clause-room : goal.fire_all-requires-clause-room
fire_all-requires-clause-room g c = λ κs within. rooms g c

pub returns : goal.returns
returns g c =
    let s = g.A.Actor.steps in
    let made = c.fire_all.new.self in
    let keeps = c.fire_all.ensures.keeps in
    let q = c.args.run_inputs.period.now.repetitions in
    let same : (a : ℕ) → a < length c.args.run_inputs.net.now.nodes →
    get_or made.done.items a 0 ≡ periods_of q c.args.run_inputs.periods a =
    (λ a l. c.fire_all.ensures.done a l ∙ ap (λ r. c.args.run_inputs.periods * get_or r a 0)
    c.repetitions-repetitions.ensures) in
    let repetitions = ap (λ z. z.now) keeps.repetitions ∙ c.repetitions-repetitions.ensures in
    let stands : IsState s c.args.run_inputs.net.now (lists c.args.run_inputs.inputs.now)
    (periods_of q c.args.run_inputs.periods)
    (λ a. get_or made.done.items a 0) made.works.items made.queues.items made.outputs.items =
    subst (λ z. IsState s z.now (lists c.args.run_inputs.inputs.now) (periods_of q c.args.run_inputs.periods)
    (λ a. get_or made.done.items a 0)
    made.works.items made.queues.items made.outputs.items) keeps.net
    (subst (λ z. IsState s made.net.now (lists z.now) (periods_of q c.args.run_inputs.periods)
    (λ a. get_or made.done.items a 0)
    made.works.items made.queues.items made.outputs.items) keeps.inputs
    (subst (λ p. IsState s made.net.now (lists made.inputs.now) (periods_of q p) (λ a. get_or made.done.items a 0)
    made.works.items made.queues.items made.outputs.items) keeps.periods
    (subst (λ r. IsState s made.net.now (lists made.inputs.now) (periods_of r made.periods)
    (λ a. get_or made.done.items a 0) made.works.items made.queues.items made.outputs.items) repetitions
    c.fire_all.ensures.swept.stands))) in
    record {
      good = (nets_have_facts s c.args.run_inputs.net.now c.requires.run_inputs.accepted).net;
      outputs = keeps.outputs ∙ c.requires.outputs.0;
      done = same;
      stands = stands;
    }
