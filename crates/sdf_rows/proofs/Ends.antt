-- A run by rows before its first block and after its last.
use Rattle.std.proofs.Common.{◌≡◌, ℕ, ◌+◌, ◌*◌, ◌≤◌, ◌<◌, ◌^◌, List, [], length, map, get_or, drop, refl, sym, ap}
use Rattle.std.proofs.Common.{◌∙◌, subst, arith}
use Rattle.std.specs.Prelude.{sum}
use Rattle.std.specs.List.{All, flat_map}
use Rattle.std.specs.Global.{Global}
use Rattle.std.specs.declared.vec.Vec.{Vec}
use Rattle.std.proofs.Math.Nat.{mul-le-mul_left}
use Rattle.std.proofs.lemmas.Nat.{mod_below}
use Rattle.std.proofs.lemmas.List.{get_or-map, length-map}
use Rattle.std.proofs.lemmas.List.Sums.{get_or-le-sum_by}
use Rattle.sdf_limits.specs.declared.TheConstants.{MAX_BLOCK}
use Rattle.sdf_graph.specs.Rates.{rates}
use Rattle.sdf_actor.specs.declared.node.Node.{Node}
use Rattle.sdf_actor.specs.declared.node.Node.TheVariants as node
use Rattle.sdf_actor.specs.declared.sides.Lists.TheVariants.{Outputs}
use Rattle.sdf_actor.specs.Steps.{Steps}
use Rattle.sdf_actor.specs.Histories.{IsWired, taken_before}
use Rattle.sdf_actor.specs.Nets as nets
use Rattle.sdf_actor.specs.Nets.{Netlist, wire, wiring, cycle_of, IsNet, InputsReach}
use Rattle.sdf_actor.specs.Graphs.{graph_of}
use Rattle.sdf_actor.specs.NetStates.{Leaves}
use Rattle.sdf_actor.specs.declared.net_state.NetState.{NetState}
use Rattle.sdf_actor.specs.Sides.{list_count, period_samples}
use Rattle.sdf_actor.specs.Wires.{lists}
use Rattle.sdf_node.specs.declared.node.NodeState.{NodeState}
use Rattle.sdf_node.specs.declared.node.NodeState.TheVariants.{Source, Sink, Inner}
use Rattle.sdf_node.specs.Nodes.{CanBegin, IsAt}
use Rattle.sdf_node.proofs.Theorems.{nodes_keep_states}
use Rattle.sdf_queues.proofs.Theorems.{histories_begin, sinks_make_runs}
use Rattle.sdf_rows.specs.declared.row_firing.RowFiring.{RowFiring}
use Rattle.sdf_queues.specs.RunResults.{AreOutputs, periods_of}
use Rattle.sdf_queues.specs.Feeds.{HasRun}
use Rattle.sdf_queues.specs.QueueValue.{QueueValue}
use Rattle.sdf_queues.specs.Blocks.{room, nothing}
use Rattle.sdf_queues.specs.Sizes.{SizesValue, AreSizes, phase_of}
use Rattle.sdf_rows.specs.Setup.{AreUnfired, HasPlaces}
use Rattle.sdf_rows.specs.RowStates.{HaveBlocks}
use Rattle.sdf_rows.specs.Blocks.{IsResting}
use Rattle.sdf_rows.specs.Collect.{AreCollected, AreKept}
use Rattle.sdf_rows.proofs.Readings.{some_of}
use Rattle.sdf_queues.specs.Laws.{SinksMakeOutputs}
use Rattle.sdf_queues.specs.Periods.{CanRun}

-- the blocks of a job, firing by firing
pub have_blocks : {A S T : Type 0} (s : Steps A S T) (n : Netlist A T) (z : SizesValue) → AreSizes s n z →
    (jobs : List (RowFiring A T S)) → All (HasPlaces s n) jobs → HaveBlocks s n jobs
have_blocks s n z sizes jobs places i d h = record {
  taken = λ a f l. (places i d h a (phase_of s (nets.node n a) f) l
      (mod_below f (cycle_of s (nets.node n a)) (sizes.some a l))).0;
  put = λ a f l. (places i d h a (phase_of s (nets.node n a) f) l
      (mod_below f (cycle_of s (nets.node n a)) (sizes.some a l))).1;
}

module _ {A S T : Type 0} (s : Steps A S T) (n : Netlist A T) (good : IsNet s n)
    (wired : IsWired (wiring s n)) (q : List ℕ) (j blocks : ℕ) (inputs : List (List T))
    (can : CanRun s n q (blocks * j) inputs) (short : j * sum q ≤ MAX_BLOCK) (few : blocks < 2 ^ 32) where
  abbrev many : ℕ → ℕ
  many a = blocks * (j * get_or q a 0)

  turn : (a : ℕ) → blocks * j * get_or q a 0 ≡ blocks * (j * get_or q a 0)
  turn a = omega arith

  all_small : (a : ℕ) → a < length n.nodes → many a < 2 ^ 63
  all_small a l =
      let one : get_or q a 0 ≤ sum q = get_or-le-sum_by (λ x. x) q a 0 (omega (arith, can.paced.all)) in
      let within : j * get_or q a 0 ≤ j * sum q = mul-le-mul_left j one in
      let all : blocks * (j * get_or q a 0) ≤ blocks * MAX_BLOCK =
      mul-le-mul_left blocks (omega (arith, within, short)) in
      omega (arith, all, few)

  can_begin : (space a : ℕ) → space ≡ blocks * j * period_samples n.nodes Outputs q → a < length n.nodes →
      CanBegin inputs (many a) space (nets.node n a)
  can_begin space a all l = go (nets.node n a) refl
    where
      go : (x : Node A) → nets.node n a ≡ x → CanBegin inputs (many a) space x
      go (node.Source ext block) x =
          let found = can.reads a ext block l x in
          (found.0, omega (arith, found.1, ap (λ m. block * m) (turn a)))
      go (node.Sink ext block) x =
          omega (arith, can.makes a ext block l x, ap (λ m. block * m) (turn a), all)
      go (node.Inner y) x = tt

  reach : InputsReach n inputs many
  reach a l = go (nets.node n a) refl
    where
      go : (x : Node A) → nets.node n a ≡ x → nets.SourceReaches inputs many a x
      go (node.Source ext block) x =
          let found = can.reads a ext block l x in
          omega (arith, found.1, ap (λ m. block * m) (turn a))
      go (node.Sink ext block) x = tt
      go (node.Inner y) x = tt

  -- nothing has fired
  pub begins : (space : ℕ) → space ≡ blocks * j * period_samples n.nodes Outputs q → (done : List ℕ) →
      ((a : ℕ) → get_or done a 0 ≡ 0) → (states : List (NodeState T S)) (ls : List (QueueValue T)) →
      length states ≡ length n.nodes → AreUnfired s space n states → length ls ≡ length n.wires →
      ((c : ℕ) → c < length n.wires → get_or ls c nothing ≡
      record {
        samples = (wire n c).initial;
        room = length (wire n c).initial
            + j * (rates (graph_of s n)).produced c (get_or q ((rates (graph_of s n)).source c) 0);
      }) →
      IsResting s n inputs q j blocks 0 (λ a. get_or done a 0) states ls
  begins space space_is done none states ls all begun channels queues = record {
    counts = λ a l. omega (arith, none a);
    rooms = rooms;
    between = record {
      small = all_small;
      reach = reach;
      top = λ a l. omega (arith, none a);
      history = (wiring s n).starts;
      is = histories_begin s n inputs (λ a. get_or done a 0) good (λ a l. none a);
      channels = channels;
      left = λ c l. ap (λ x. x.samples) (queues c l) ∙
          (ap (λ i. drop i (wire n c).initial) (sym (wired.sound.consumed_none c))
          ∙ ap (λ i. drop ((wiring s n).rates.consumed c i) (wire n c).initial)
          (sym (none ((wiring s n).rates.target c))));
      above = λ a l. omega arith;
      below = λ a l. omega arith;
      fits = λ c l. omega (
        arith,
        rooms c l,
        ap ((wiring s n).rates.produced c) (none ((wiring s n).rates.source c)),
        wired.sound.produced_none c,
      );
      nodes = all;
      known = λ i h. absurd (omega arith);
      apart = λ i m h. absurd (omega arith);
      idle = λ a w l free.
          subst (λ i. IsAt s inputs (many a) (nets.node n a) (taken_before (wiring s n) (wiring s n).starts a i)
          (get_or states a w)) (sym (none a))
          (begun a w l inputs (many a) (can_begin space a space_is l));
      jobs_are = λ i d f h. absurd (omega arith);
      able = λ i f h. absurd (omega arith);
      within = λ i f h. absurd (omega arith);
    };
  }
    where
      rooms : (c : ℕ) → c < length n.wires → (wiring s n).rates.initial c
          + (wiring s n).rates.produced c (j * get_or q ((wiring s n).rates.source c) 0) ≤ room ls c
      rooms c l =
          omega (arith, ap (λ x. x.room) (queues c l), ap (λ m. j * m) (can.put c l), can.paced.put j c l)

-- the list that stands in a sink's state
sink_list : {A S T : Type 0} (s : Steps A S T) (inputs : List (List T)) (many ext block : ℕ) (past : List (List T))
    (w : NodeState T S) → IsAt s inputs many (node.Sink ext block) past w →
    (made : Vec T Global) × (w ≡ Sink made) × (made.items ≡ flat_map (λ b. b) past)
sink_list s inputs many ext block past (Sink made) is = (made, refl, is.0)
sink_list s inputs many ext block past (Source next) is = absurd is
sink_list s inputs many ext block past (Inner phase state) is = absurd is

module _ {A S T : Type 0} (s : Steps A S T) (n : Netlist A T) (inputs : List (List T)) (q : List ℕ) (j blocks : ℕ)
    (k : ℕ → ℕ) (states : List (NodeState T S)) (ls : List (QueueValue T))
    (over : IsResting s n inputs q j blocks blocks k states ls) where
  -- all firings are done
  all_done : (a : ℕ) → a < length n.nodes → k a ≡ periods_of q (blocks * j) a
  all_done a l = over.counts a l ∙ (let e : blocks * (j * get_or q a 0) ≡ blocks * j * get_or q a 0 = omega arith in e)

  -- each node is where all that it took brought it
  node_at : (a : ℕ) (x : Node A) (w : NodeState T S) → a < length n.nodes → nets.node n a ≡ x →
      IsAt s inputs (blocks * (j * get_or q a 0)) x (taken_before (wiring s n) over.between.history a (k a))
      (get_or states a w)
  node_at a x w l is =
      subst (λ y. IsAt s inputs (blocks * (j * get_or q a 0)) y (taken_before (wiring s n) over.between.history a (k a))
      (get_or states a w)) is
      (over.between.idle a w l (λ i f h. absurd (omega arith)))

  -- so the list of each sink is what it took
  sinks_took : (outputs : List (Vec T Global)) → AreCollected n (length n.nodes) states outputs → (a e block : ℕ) →
      a < length n.nodes → nets.node n a ≡ node.Sink e block →
      get_or (lists outputs) e [] ≡ flat_map (λ (b : List T). b)
      (taken_before (wiring s n) over.between.history a (k a))
  sinks_took outputs collected a e block l x =
      let w : NodeState T S = some_of states a (omega (arith, over.between.nodes)) in
      let found = sink_list s inputs (blocks * (j * get_or q a 0)) e block
      (taken_before (wiring s n) over.between.history a (k a)) (get_or states a w)
      (node_at a (node.Sink e block) w l x) in
      collected a e block found.0 w l x found.1 ∙ found.2

  -- after the last block the lists of the sinks are the outputs
  pub row_outputs : SinksMakeOutputs s → IsNet s n → (outputs : List (Vec T Global)) →
      AreCollected n (length n.nodes) states outputs → length outputs ≡ list_count Outputs n.nodes →
      AreOutputs s n inputs (periods_of q (blocks * j)) (lists outputs)
  row_outputs make good outputs collected count =
      make n inputs q (blocks * j) k over.between.history (lists outputs) good over.between.is all_done
      (length-map outputs (λ v. v.items) ∙ count) (sinks_took outputs collected)

  -- copies of the actors' states and of the samples on the channels are what is left
  leaves : (rest : NetState T S) → length rest.states.items ≡ length n.nodes →
      AreKept n states rest.states.items → lists rest.held.items ≡ map (λ queue. queue.samples) ls →
      Leaves s n k over.between.history rest
  leaves rest all copies held = record {
    nodes = all;
    states = λ a l.
        let w : NodeState T S = some_of states a (omega (arith, over.between.nodes)) in
        copies a w l ∙
        nodes_keep_states s inputs (blocks * (j * get_or q a 0)) (nets.node n a)
        (taken_before (wiring s n) over.between.history a (k a))
        (get_or states a w) (node_at a (nets.node n a) w l refl);
    channels = sym (length-map rest.held.items (λ v. v.items))
        ∙ (ap length held ∙ (length-map ls (λ (q : QueueValue T). q.samples) ∙ over.between.channels));
    held = λ c l.
        ap (λ v. get_or v c []) held ∙
        (get_or-map (λ (q : QueueValue T). q.samples) ls c nothing [] (omega (arith, over.between.channels, l))
        ∙ over.between.left c l);
  }

  -- and that is a run
  pub row_run : IsNet s n → (outputs : List (Vec T Global)) →
      AreCollected n (length n.nodes) states outputs → length outputs ≡ list_count Outputs n.nodes →
      (rest : NetState T S) → length rest.states.items ≡ length n.nodes →
      AreKept n states rest.states.items → lists rest.held.items ≡ map (λ queue. queue.samples) ls →
      HasRun s n inputs (periods_of q (blocks * j)) (lists outputs) rest
  row_run good outputs collected count rest all copies held =
      sinks_make_runs s n inputs q (blocks * j) k over.between.history (lists outputs) rest good
      over.between.is all_done
      (length-map outputs (λ v. v.items) ∙ count) (sinks_took outputs collected)
      (leaves rest all copies held)

-- nobody has fired
abbrev pub the_none : ℕ
the_none = 0
