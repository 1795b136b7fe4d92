-- What a whole run stands on: its firings are admissible, its queues and lists have room.
use Rattle.std.proofs.Common.{◌≡◌, ℕ, zero, suc, ◌+◌, ◌*◌, ◌≤◌, ◌<◌, List, [], length, get_or, refl, sym, ap, ◌∙◌}
use Rattle.std.proofs.Common.{subst, arith}
use Rattle.std.specs.Prelude.{IsTrue, is_some}
use Rattle.std.proofs.lemmas.List.Sums.{get_or-le-sum_by}
use Rattle.std.proofs.lemmas.List.{length-map}
use Rattle.sdf_graph.specs.Rates.{Rates, rates, IsSound}
use Rattle.sdf_graph.specs.Sequences.{IsPass, IsPeriod, repeated}
use Rattle.sdf_graph.proofs.Theorems.{graphs_are_sound, graphs_have_periods, periods_repeat, alike_sequences}
use Rattle.sdf_graph.proofs.Theorems.{one_least_period}
use Rattle.sdf_sched.specs.Period.{Schedule}
use Rattle.sdf_actor.specs.declared.node.Node.{Node}
use Rattle.sdf_actor.specs.declared.node.Node.TheVariants.{Source, Sink, Inner}
use Rattle.sdf_actor.specs.declared.sides.Lists.TheVariants.{Inputs, Outputs}
use Rattle.sdf_actor.specs.Steps.{Steps}
use Rattle.sdf_actor.specs.Nets.{Netlist, node, wiring, SourceReaches, InputsReach}
use Rattle.sdf_actor.specs.Graphs.{graph_of, channel_of}
use Rattle.sdf_actor.specs.Sides.{list_of, block_of, period_samples}
use Rattle.sdf_actor.specs.NetFaults.{IsAccepted}
use Rattle.sdf_actor.proofs.Theorems.{list_below, periods_are_whole}
use Rattle.sdf_queues.specs.RunResults.{HasInputs, periods_of}
use Rattle.sdf_queues.specs.Feeds.{PeriodsMayLeave}
use Rattle.sdf_queues.specs.Laws.{NetsCanRun}
use Rattle.sdf_queues.specs.Periods.{HasPeriod, IsPaced}

-- what begins anew after each period comes to as much in each
linear : (f : ℕ → ℕ) (q : ℕ) → f 0 ≡ 0 → ((i : ℕ) → f (i + q) ≡ f i + f q) → (b : ℕ) → f (b * q) ≡ b * f q
linear f q none anew zero = ap f (let e : 0 * q ≡ 0 = omega arith in e)
    ∙ (none ∙ (let e : 0 ≡ 0 * f q = omega arith in e))
linear f q none anew (suc b) =
    let ih : f (b * q) ≡ b * f q = linear f q none anew b in
    let last : f (suc b * q) ≡ f (b * q) + f q = ap f
    (let e : suc b * q ≡ b * q + q = omega arith in e) ∙ anew (b * q) in
    let split : suc b * f q ≡ b * f q + f q = omega arith in
    omega arith

-- the samples of several periods are those of one times their number
in_all : (block times periods : ℕ) {samples : ℕ} → block * times ≡ samples →
    block * (periods * times) ≡ periods * samples
in_all block times periods one =
    (let all : block * (periods * times) ≡ periods * (block * times) = omega arith in all) ∙ ap (λ k. periods * k) one

-- the net, its period and what is known of them are one record
module _ {A S T : Type 0} {s : Steps A S T} {n : Netlist A T} {p : Schedule} (has : HasPeriod s n p) where
  abbrev q : List ℕ
  q = p.repetitions

  -- the rates of its graph, and its own
  abbrev graph : Rates
  graph = rates (graph_of s n)

  abbrev net : Rates
  net = (wiring s n).rates

  sound : IsSound graph
  sound = graphs_are_sound (graph_of s n) has.shape

  period : IsPeriod graph (λ a. get_or q a 0)
  period = graphs_have_periods (graph_of s n) q has.shape has.period.least.is

  -- any number of periods can be fired from the start
  pub passes : (b : ℕ) → (w : List ℕ) × IsPass net (periods_of q b) w
  passes b =
      let all = periods_repeat graph (λ a. get_or q a 0) p.order b sound period has.period.pass in
      (repeated b p.order, (alike_sequences graph net (repeated b p.order) has.alike all.0, all.1))

  -- what each period puts and takes on a channel
  module _ (c : ℕ) (l : c < length n.wires) where
    known : c < length (graph_of s n).channels
    known = omega (arith, length-map n.wires (channel_of s n.nodes))

    -- the graph and the net agree on it
    put : (m : ℕ → ℕ) → graph.produced c (m (graph.source c)) ≡ net.produced c (m (net.source c))
    put m = has.alike.produced c (m (graph.source c)) known ∙
        ap (λ a. net.produced c (m a)) (has.alike.source c known)

    taken : (m : ℕ → ℕ) → graph.consumed c (m (graph.target c)) ≡ net.consumed c (m (net.target c))
    taken m = has.alike.consumed c (m (graph.target c)) known ∙
        ap (λ a. net.consumed c (m a)) (has.alike.target c known)

    put_one : graph.produced c (get_or q (graph.source c) 0) ≡ net.produced c (get_or q (net.source c) 0)
    put_one = put (λ a. get_or q a 0)

    put_all : (b : ℕ) → net.produced c (periods_of q b (net.source c)) ≡
        b * net.produced c (get_or q (net.source c) 0)
    put_all b =
        sym (put (periods_of q b)) ∙ (linear (graph.produced c) (get_or q (graph.source c) 0) (sound.produced_none c)
        (λ i. period.produced_anew c i known) b ∙ ap (λ m. b * m) put_one)

    taken_all : (b : ℕ) → net.consumed c (periods_of q b (net.target c)) ≡
        b * net.produced c (get_or q (net.source c) 0)
    taken_all b =
        sym (taken (periods_of q b)) ∙ (linear (graph.consumed c) (get_or q (graph.target c) 0) (sound.consumed_none c)
        (λ i. period.consumed_anew c i known) b ∙ ap (λ m. b * m) (sym (period.balanced c known) ∙ put_one))

  pub paced : IsPaced net q
  paced = record {
    all = has.period.least.is.all;
    small = λ a l. omega (
      arith,
      get_or-le-sum_by (λ x. x) q a 0 (omega (arith, has.period.least.is.all)),
      has.period.all,
      has.period.within,
    );
    passes = passes;
    put = λ b c l. put_all c l b;
    taken = λ b c l. taken_all c l b;
  }

  pub accepted : IsAccepted s n q
  accepted = subst (IsAccepted s n)
      (one_least_period graph has.accepted.0 q has.accepted.1.period has.period.least) has.accepted.1

  module _ (periods : ℕ) where
    -- a source reads as many samples as all do
    pub asks : (a ext block : ℕ) → a < length n.nodes → node n a ≡ Source ext block →
        block * periods_of q periods a ≡ periods * period_samples n.nodes Inputs q
    asks a ext block l x = in_all block (get_or q a 0) periods
        (ap (λ b. b * get_or q a 0) (sym (ap block_of x)) ∙
        accepted.inputs a l (subst (λ y. IsTrue (is_some (list_of Inputs y))) (sym x) refl))

    -- each source finds what it reads
    pub reads : (inputs : List (List T)) → HasInputs n q periods inputs → (a ext block : ℕ) → a < length n.nodes →
        node n a ≡ Source ext block →
        (ext < length inputs) × (block * periods_of q periods a ≤ length (get_or inputs ext []))
    reads inputs given a ext block l x =
        let below : ext < length inputs = omega (
          arith,
          given.count,
          list_below Inputs n.nodes a ext l (ap (list_of Inputs) x),
        ) in
        (below, omega (arith, asks a ext block l x, given.enough ext below))

    pub all_read : (inputs : List (List T)) → HasInputs n q periods inputs → InputsReach n inputs (periods_of q periods)
    all_read inputs given a l = go (node n a) refl
      where
        go : (x : Node A) → node n a ≡ x → SourceReaches inputs (periods_of q periods) a x
        go (Source ext block) x = (reads inputs given a ext block l x).1
        go (Sink ext block) x = tt
        go (Inner y) x = tt

    -- as many samples reach each sink
    pub makes : (a ext block : ℕ) → a < length n.nodes → node n a ≡ Sink ext block →
        block * periods_of q periods a ≡ periods * period_samples n.nodes Outputs q
    makes a ext block l x = in_all block (get_or q a 0) periods
        (ap (λ b. b * get_or q a 0) (sym (ap block_of x)) ∙
        accepted.outputs a l (subst (λ y. IsTrue (is_some (list_of Outputs y))) (sym x) refl))

-- so it can be run
pub can_run : {A S T : Type 0} (s : Steps A S T) → NetsCanRun s
can_run s n p periods inputs has given = record {
  paced = paced has;
  reads = reads has periods inputs given;
  reach = all_read has periods inputs given;
  makes = makes has periods;
  put = put_one has;
}

-- and another net may begin with what is left after it
pub may_leave : {A S T : Type 0} (s : Steps A S T) → PeriodsMayLeave s
may_leave s n p periods has = periods_are_whole s n p.repetitions periods has.net has.shape has.alike (accepted has)
