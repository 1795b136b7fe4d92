-- A row's firings settled, one by one.
use Rattle.std.proofs.Common.{◌≡◌, ℕ, ◌+◌, ◌*◌, ◌^◌, ◌≤◌, ◌<◌, List, [], ◌∷◌, ◌++◌, length, get_or, set, take, drop}
use Rattle.std.proofs.Common.{sym, ap, ◌∙◌, subst, inl, inr, ◌⊎◌, arith}
use Rattle.std.specs.List.{sum_by}
use Rattle.std.proofs.Math.Nat.{mul-le-mul_left}
use Rattle.std.proofs.lemmas.List.{length-drop, get_or-set_same, get_or-set_other, length-set}
use Rattle.std.proofs.lemmas.Nat.{mod_below}
use Rattle.std.proofs.lemmas.Bool.{cases_eq}
use Rattle.sdf_graph.specs.Rates.{Rates}
use Rattle.sdf_graph.specs.Sequences.{IsEnabled, times}
use Rattle.sdf_graph.proofs.Theorems.{last_counts_more, others_count_same}
use Rattle.sdf_actor.specs.declared.node.Node.{Node}
use Rattle.sdf_actor.specs.declared.node.Node.TheVariants.{Source, Sink, Inner}
use Rattle.sdf_actor.specs.Steps.{Steps}
use Rattle.sdf_actor.specs.Histories.{taken, taken_before, spread}
use Rattle.sdf_actor.specs.Nets.{Netlist, node, wiring, answers, cycle_of, IsNet, SourceReaches, InputsReach}
use Rattle.sdf_actor.specs.Laws.{after_firing}
use Rattle.sdf_actor.proofs.Theorems.{nets_are_wired}
use Rattle.sdf_node.specs.Nodes.{takes_of, puts_of, IsAt}
use Rattle.sdf_node.specs.declared.node.NodeState.{NodeState}
use Rattle.sdf_rows.specs.declared.row_firing.RowFiring.{RowFiring}
use Rattle.sdf_queues.specs.QueueValue.{QueueValue}
use Rattle.sdf_queues.specs.Blocks.{samples, room, at_ports, ArePorts, HoldBlocks}
use Rattle.sdf_queues.specs.Sizes.{SizesValue, IsPlan, AreSizes, at_phase, phase_of}
use Rattle.sdf_rows.specs.Loading.{CanSettle, HasSettled}
use Rattle.sdf_rows.specs.RowStates.{IsBack, IsRowState, IsSettling}
use Rattle.sdf_queues.specs.Laws.{FiringsMoveOn}
use Rattle.sdf_queues.specs.Moves.{FitsPorts, MovesOn}
use Rattle.sdf_queues.proofs.Theorems.{plans_fit}
use Rattle.sdf_rows.proofs.Jobs.{in_is, out_is}

-- inputs that are long enough are so for fewer firings
reach_within : {A T : Type 0} (inputs : List (List T)) (k m : ℕ → ℕ) (a : ℕ) (x : Node A) → k a ≤ m a →
    SourceReaches inputs m a x → SourceReaches inputs k a x
reach_within inputs k m a (Source ext block) less is = let more : block * k a ≤ block * m a =
    mul-le-mul_left block less in omega arith
reach_within inputs k m a (Sink ext block) less is = tt
reach_within inputs k m a (Inner x) less is = tt

-- an enabled actor takes what has come
enabled_within : (r : Rates) (k : ℕ → ℕ) (a : ℕ) → IsEnabled r k a → (c : ℕ) → c < r.channels → r.target c ≡ a →
    r.consumed c (k a + 1) ≤ r.initial c + r.produced c (k (r.source c))
enabled_within r k a on c l e = subst (λ n. r.consumed c (n + 1) ≤ r.initial c + r.produced c (k (r.source c)))
    (ap k e) (on c l e)

-- an actor stands at place i of a row, and its next firing is at this phase
pub record AtPlace {A S T : Type 0} (s : Steps A S T) (n : Netlist A T) (z : SizesValue) (inputs : List (List T))
    (many low high : ℕ → ℕ) (acts : List ℕ) (from i : ℕ) (k : ℕ → ℕ) (states : List (NodeState T S))
    (ls : List (QueueValue T)) (jobs : List (RowFiring A T S))
    (P : (ℕ → ℕ) → (ℕ → List T) → ℕ → RowFiring A T S → Type 0)
    (phase : ℕ) : Type 0 where
  pub good : IsNet s n
  pub sizes : AreSizes s n z
  pub st : IsRowState s n inputs many P low high acts from k states ls jobs
  pub first : from ≤ i
  pub inside : i < length acts
  pub phase_is : phase ≡ phase_of s (node n (get_or acts i 0)) (k (get_or acts i 0))

module _ {A S T : Type 0} {s : Steps A S T} {n : Netlist A T} {z : SizesValue} {inputs : List (List T)}
    {many low high : ℕ → ℕ} {acts : List ℕ} {from i : ℕ} {k : ℕ → ℕ} {states : List (NodeState T S)}
    {ls : List (QueueValue T)} {jobs : List (RowFiring A T S)}
    {P : (ℕ → ℕ) → (ℕ → List T) → ℕ → RowFiring A T S → Type 0} {phase : ℕ}
    (x : AtPlace s n z inputs many low high acts from i k states ls jobs P phase) where
  abbrev pub who : ℕ
  who = get_or acts i 0

  who_known : who < length n.nodes
  who_known = x.st.known i x.inside

  who_on : IsEnabled (wiring s n).rates k who
  who_on = x.st.able i x.first x.inside

  pub plan : IsPlan s n who (k who) (at_phase z.takes phase) (at_phase z.puts phase)
  plan = subst (λ p. IsPlan s n who (k who) (at_phase z.takes p) (at_phase z.puts p)) (sym x.phase_is)
      (x.sizes.plan who (k who) who_known)

  -- what stands on a channel
  standing : (c : ℕ) → c < length n.wires → length (samples ls c)
      + (wiring s n).rates.consumed c (k ((wiring s n).rates.target c)) ≡
      (wiring s n).rates.initial c + (wiring s n).rates.produced c (k ((wiring s n).rates.source c))
  standing c l =
      let q : length (samples ls c) ≡ length (drop ((wiring s n).rates.consumed c (k ((wiring s n).rates.target c)))
      (x.st.history c)) = ap length (x.st.left c l) in
      omega (
        arith,
        length-drop ((wiring s n).rates.consumed c (k ((wiring s n).rates.target c))) (x.st.history c),
        x.st.is.enough c l,
        x.st.is.lengths c l,
      )

  pub held : HoldBlocks ((wiring s n).ins who) (at_phase z.takes phase) ls
  held p l =
      let c : ℕ = get_or ((wiring s n).ins who) p 0 in
      let is = (nets_are_wired s n x.good).ins_are who p who_known l in
      let own : (wiring s n).rates.consumed c (k ((wiring s n).rates.target c)) ≡
      (wiring s n).rates.consumed c (k who) = ap (λ b. (wiring s n).rates.consumed c (k b)) is.1 in
      omega (
        arith,
        own,
        standing c is.0,
        enabled_within (wiring s n).rates k who who_on c is.0 is.1,
        plan.taken c is.0 is.1,
      )

  pub fits : (p : ℕ) → p < length ((wiring s n).outs who) → length (samples ls (get_or ((wiring s n).outs who) p 0))
      + get_or (at_phase z.puts phase) (get_or ((wiring s n).outs who) p 0) 0 ≤
      room ls (get_or ((wiring s n).outs who) p 0)
  fits p l =
      let c : ℕ = get_or ((wiring s n).outs who) p 0 in
      let is = (nets_are_wired s n x.good).outs_are who p who_known l in
      let was : (wiring s n).rates.produced c (k ((wiring s n).rates.source c)) ≡
      (wiring s n).rates.produced c (k who) = ap (λ b. (wiring s n).rates.produced c (k b)) is.1 in
      let end : (wiring s n).rates.produced c (high ((wiring s n).rates.source c)) ≡
      (wiring s n).rates.produced c (high who) = ap (λ b. (wiring s n).rates.produced c (high b)) is.1 in
      let left = x.st.within i x.first x.inside in
      let rise : (wiring s n).rates.produced c (k who + 1) ≤ (wiring s n).rates.produced c (high who) =
      (nets_are_wired s n x.good).sound.produced_rises c (k who + 1) (high who) (omega arith) in
      let drawn : (wiring s n).rates.consumed c (low ((wiring s n).rates.target c)) ≤
      (wiring s n).rates.consumed c (k ((wiring s n).rates.target c)) =
      (nets_are_wired s n x.good).sound.consumed_rises c (low ((wiring s n).rates.target c))
      (k ((wiring s n).rates.target c))
      (x.st.above ((wiring s n).rates.target c) ((nets_are_wired s n x.good).sound.target_in c is.0)) in
      omega (arith, was, end, rise, drawn, standing c is.0, x.st.fits c is.0, plan.put c is.0 is.1)

  own_ports : FitsPorts s n who (k who) (at_phase z.takes phase) (at_phase z.puts phase)
  own_ports = plans_fit s n who (k who) (at_phase z.takes phase) (at_phase z.puts phase) x.good who_known plan

  pub ports_in : ArePorts ((wiring s n).ins who) (at_phase z.takes phase) (length ls)
  ports_in = subst (ArePorts ((wiring s n).ins who) (at_phase z.takes phase)) (sym x.st.channels) own_ports.ins_are

  pub ports_out : ArePorts ((wiring s n).outs who) (at_phase z.puts phase) (length ls)
  ports_out = subst (ArePorts ((wiring s n).outs who) (at_phase z.puts phase)) (sym x.st.channels) own_ports.outs_are

  pub in_cycle : phase < cycle_of s (node n who)
  in_cycle = omega (arith, x.phase_is, mod_below (k who) (cycle_of s (node n who)) (x.sizes.some who who_known))

  pub takes_in : phase < length z.takes
  takes_in = omega (arith, x.phase_is, x.sizes.takes_known who (k who) who_known)

  pub puts_in : phase < length z.puts
  puts_in = omega (arith, x.phase_is, x.sizes.puts_known who (k who) who_known)

  -- a whole block has the length of its phase
  pub takes_are : sum_by (λ c. get_or (at_phase z.takes phase) c 0) ((wiring s n).ins who) ≡
      takes_of s (node n who) phase
  takes_are = own_ports.taken ∙ (in_is s (node n who) (k who) ∙ ap (takes_of s (node n who)) (sym x.phase_is))

  pub puts_are : sum_by (λ c. get_or (at_phase z.puts phase) c 0) ((wiring s n).outs who) ≡ puts_of s (node n who) phase
  puts_are = own_ports.put ∙ (out_is s (node n who) (k who) ∙ ap (puts_of s (node n who)) (sym x.phase_is))

-- the firings of a row are settled up to place i, and one stands there
pub record Settling {A S T : Type 0} (s : Steps A S T) (n : Netlist A T) (z : SizesValue) (inputs : List (List T))
    (many low high : ℕ → ℕ) (acts : List ℕ) (i : ℕ) (done : List ℕ) (states : List (NodeState T S))
    (ls : List (QueueValue T))
    (jobs : List (RowFiring A T S)) : Type 0 where
  pub good : IsNet s n
  pub moves : FiringsMoveOn s
  pub sizes : AreSizes s n z
  pub so_far : IsSettling s n inputs many low high acts i (λ b. get_or done b 0) states ls jobs
  pub inside : i < length acts
  pub counted : length done ≡ length n.nodes

module _ {A S T : Type 0} {s : Steps A S T} {n : Netlist A T} {z : SizesValue} {inputs : List (List T)}
    {many low high : ℕ → ℕ} {acts : List ℕ} {i : ℕ} {done : List ℕ} {states : List (NodeState T S)}
    {ls : List (QueueValue T)} {jobs : List (RowFiring A T S)}
    (x : Settling s n z inputs many low high acts i done states ls jobs) (d : RowFiring A T S) where
  abbrev k : ℕ → ℕ
  k b = get_or done b 0

  abbrev st : IsSettling s n inputs many low high acts i k states ls jobs
  st = x.so_far

  abbrev h : i < length acts
  h = x.inside

  abbrev a : ℕ
  a = get_or acts i 0

  abbrev job : RowFiring A T S
  job = get_or jobs i d

  abbrev V : ℕ → List T
  V = st.history

  known : a < length n.nodes
  known = st.known i h

  on : IsEnabled (wiring s n).rates k a
  on = st.able i (omega arith) h

  back : IsBack s n inputs many k V a job
  back = st.jobs_are i d (omega arith) h

  here : AtPlace s n z inputs many low high acts i i k states ls jobs (IsBack s n inputs many) job.phase
  here = record {
    good = x.good;
    sizes = x.sizes;
    st = st;
    first = omega arith;
    inside = h;
    phase_is = back.phase;
  }

  sized : IsPlan s n a (k a) (at_phase z.takes job.phase) (at_phase z.puts job.phase)
  sized = plan here

  can_at : CanSettle s n z (record job { actor = a }) ls
  can_at = record {
    known = known;
    in_cycle = in_cycle here;
    takes_known = takes_in here;
    puts_known = puts_in here;
    ins_are = ports_in here;
    outs_are = ports_out here;
    held = held here;
    fits = λ p l. omega (arith, fits here p l);
    long = back.long;
    whole = sym (puts_are here);
  }

  same_job : record job { actor = a } ≡ job
  same_job = λ e. record job { actor = sym back.actor e }

  pub can_settle : CanSettle s n z job ls
  can_settle = subst (λ j. CanSettle s n z j ls) same_job can_at

  pub has_state : job.actor < length states
  has_state = omega (arith, back.actor, known, st.nodes)

  pub has_count : job.actor < length done
  has_count = omega (arith, back.actor, known, x.counted)

  pub count_small : get_or done job.actor 0 < 2 ^ 63
  count_small =
      let left = st.within i (omega arith) h in
      omega (arith, ap k back.actor, left, st.top a known, st.small a known)

  -- the firing is settled
  module _ {ls' : List (QueueValue T)} (did : HasSettled s n z job ls ls') {states' : List (NodeState T S)}
      (states_are : states' ≡ set states job.actor job.state) {done' : List ℕ}
      (done_is : done' ≡ set done job.actor (get_or done job.actor 0 + 1)) (job' : RowFiring A T S) where
    abbrev m : ℕ → ℕ
    m b = get_or done' b 0

    states_at : states' ≡ set states a job.state
    states_at = states_are ∙ ap (λ b. set states b job.state) back.actor

    done_at : done' ≡ set done a (get_or done a 0 + 1)
    done_at = done_is ∙ ap (λ b. set done b (get_or done b 0 + 1)) back.actor

    one : m a ≡ k a + 1
    one = ap (λ xs. get_or xs a 0) done_at
        ∙ get_or-set_same done a (get_or done a 0 + 1) 0 (omega (arith, known, x.counted))

    others : (b : ℕ) → (a ≡ b → ⊥) → m b ≡ k b
    others b ne = ap (λ xs. get_or xs b 0) done_at
        ∙ get_or-set_other done a b (get_or done a 0 + 1) 0 (λ e. ne (sym e))

    own : (w : NodeState T S) → get_or states' a w ≡ job.state
    own w = ap (λ xs. get_or xs a w) states_at
        ∙ get_or-set_same states a job.state w (omega (arith, known, st.nodes))

    rest : (b : ℕ) (w : NodeState T S) → (a ≡ b → ⊥) → get_or states' b w ≡ get_or states b w
    rest b w ne = ap (λ xs. get_or xs b w) states_at
        ∙ get_or-set_other states a b job.state w (λ e. ne (sym e))

    less : (b : ℕ) → b < length n.nodes → m b ≤ high b
    less b l = go (cases_eq a b)
      where
        go : (a ≡ b) ⊎ (a ≡ b → ⊥) → m b ≤ high b
        go (inl e) = subst (λ b. m b ≤ high b) e (let left = st.within i (omega arith) h in omega (arith, one))
        go (inr ne) = omega (arith, others b ne, st.below b l)

    more : (b : ℕ) → b < length n.nodes → k b ≤ m b
    more b l = go (cases_eq a b)
      where
        go : (a ≡ b) ⊎ (a ≡ b → ⊥) → k b ≤ m b
        go (inl e) = subst (λ b. k b ≤ m b) e (omega (arith, one))
        go (inr ne) = omega (arith, others b ne)

    reach : InputsReach n inputs m
    reach b l = reach_within inputs m many b (node n b) (omega (arith, less b l, st.top b l)) (st.reach b l)

    abbrev W : ℕ → List T
    W = after_firing s n inputs k V a

    moves : MovesOn s n inputs k m a V (at_phase z.takes job.phase) (at_phase z.puts job.phase) (samples ls)
    moves = x.moves n inputs k m a V (at_phase z.takes job.phase) (at_phase z.puts job.phase) (samples ls) x.good
        known on one others reach st.is sized st.left

    left_then : (c : ℕ) → c < length n.wires → samples ls' c ≡
        drop ((wiring s n).rates.consumed c (m ((wiring s n).rates.target c))) (W c)
    left_then c l =
        let size : ℕ = get_or (at_phase z.takes job.phase) c 0 in
        let shares : ℕ → ℕ = λ e. get_or (at_phase z.puts job.phase) e 0 in
        let all : samples ls' c ≡ drop (at_ports ((wiring s n).ins a) size c) (samples ls c)
        ++ spread shares ((wiring s n).outs a) (take (puts_of s (node n a) job.phase) job.put.items) c =
        subst (λ b. samples ls' c ≡ drop (at_ports ((wiring s n).ins b) size c) (samples ls c)
        ++ spread shares ((wiring s n).outs b) (take (puts_of s (node n b) job.phase) job.put.items) c) back.actor
        (did.left c (omega (arith, st.channels))) in
        all ∙ (ap (λ ys. drop (at_ports ((wiring s n).ins a) size c) (samples ls c)
        ++ spread shares ((wiring s n).outs a) ys c) back.put ∙ moves.left c l)

    idle_then : (b : ℕ) (w : NodeState T S) → b < length n.nodes →
        ((p : ℕ) → i + 1 ≤ p → p < length acts → get_or acts p 0 ≡ b → ⊥) → (a ≡ b) ⊎ (a ≡ b → ⊥) →
        IsAt s inputs (many b) (node n b) (taken_before (wiring s n) W b (m b)) (get_or states' b w)
    idle_then b w l none (inl e) =
        subst (λ b. IsAt s inputs (many b) (node n b) (taken_before (wiring s n) W b (m b)) (get_or states' b w)) e
        (subst (IsAt s inputs (many a) (node n a) (taken_before (wiring s n) W a (m a))) (sym (own w))
        (subst (λ past. IsAt s inputs (many a) (node n a) past job.state) (sym moves.own) back.state))
    idle_then b w l none (inr ne) =
        subst (IsAt s inputs (many b) (node n b) (taken_before (wiring s n) W b (m b))) (sym (rest b w ne))
        (subst (λ past. IsAt s inputs (many b) (node n b) past (get_or states b w)) (sym (moves.others b l ne))
        (st.idle b w l (λ p from q e. go p from q e (cases_eq i p))))
      where
        go : (p : ℕ) → i ≤ p → p < length acts → get_or acts p 0 ≡ b → (i ≡ p) ⊎ (i ≡ p → ⊥) → ⊥
        go p from q e (inl same) = ne (ap (λ r. get_or acts r 0) same ∙ e)
        go p from q e (inr other) = none p (omega arith) q e

    -- the next ones of the row
    module _ (p : ℕ) (from : i + 1 ≤ p) (q : p < length acts) where
      abbrev b : ℕ
      b = get_or acts p 0

      ne : a ≡ b → ⊥
      ne e = let same : i ≡ p = st.apart i p h q e in absurd (omega arith)

      b_known : b < length n.nodes
      b_known = st.known p q

      b_on : IsEnabled (wiring s n).rates k b
      b_on = st.able p (omega arith) q

      back_then : (j : RowFiring A T S) → IsBack s n inputs many m W b (get_or (set jobs i job') p j)
      back_then j =
          let was = st.jobs_are p j (omega arith) q in
          let e : taken_before (wiring s n) V b (k b) ≡ taken_before (wiring s n) W b (m b) =
          sym (moves.others b b_known ne) in
          let t : taken (wiring s n) V b (k b) ≡ taken (wiring s n) W b (m b) = sym (moves.ahead b b_known ne b_on) in
          subst (IsBack s n inputs many m W b) (sym (get_or-set_other jobs i p job' j (λ f. absurd (omega arith))))
          (record {
            actor = was.actor;
            phase = was.phase ∙ ap (phase_of s (node n b)) (sym (others b ne));
            long = was.long;
            state = subst (λ past. IsAt s inputs (many b) (node n b) past (get_or jobs p j).state)
                (λ x. e x ++ t x ∷ []) was.state;
            put = was.put ∙ (λ x. answers s n inputs b (e x) (t x));
          })

      able_then : IsEnabled (wiring s n).rates m b
      able_then c l e =
          let source_in = (nets_are_wired s n x.good).sound.source_in c l in
          let rise : (wiring s n).rates.produced c (k ((wiring s n).rates.source c)) ≤
          (wiring s n).rates.produced c (m ((wiring s n).rates.source c)) =
          (nets_are_wired s n x.good).sound.produced_rises c (k ((wiring s n).rates.source c))
          (m ((wiring s n).rates.source c))
          (more ((wiring s n).rates.source c) source_in) in
          let same : m ((wiring s n).rates.target c) ≡ k ((wiring s n).rates.target c) =
          ap m e ∙ (others b ne ∙ ap k (sym e)) in
          let was = b_on c l e in
          let at : (wiring s n).rates.consumed c (m ((wiring s n).rates.target c) + 1) ≡
          (wiring s n).rates.consumed c (k ((wiring s n).rates.target c) + 1) =
          ap (λ x. (wiring s n).rates.consumed c (x + 1)) same in
          omega (arith, was, rise, at)

    pub settled_next : IsSettling s n inputs many low high acts (i + 1) m states' ls' (set jobs i job')
    settled_next = record {
      small = st.small;
      reach = st.reach;
      top = st.top;
      history = W;
      is = moves.is;
      channels = did.all ∙ st.channels;
      left = left_then;
      above = λ b l. omega (arith, st.above b l, more b l);
      below = less;
      fits = λ c l. omega (arith, st.fits c l, did.rooms c (omega (arith, st.channels)));
      nodes = ap length states_are ∙ (length-set states job.actor job.state ∙ st.nodes);
      known = st.known;
      apart = st.apart;
      idle = λ b w l none. idle_then b w l none (cases_eq a b);
      jobs_are = λ p j from q. back_then p from q j;
      able = λ p from q. able_then p from q;
      within = λ p from q. omega (arith, others (get_or acts p 0) (ne p from q), st.within p (omega arith) q);
    }

    pub counts_next : (was : List ℕ) → ((b : ℕ) → get_or done b 0 ≡ get_or was b 0 + times (take i acts) b) →
        (b : ℕ) → get_or done' b 0 ≡ get_or was b 0 + times (take (i + 1) acts) b
    counts_next was before b = go (cases_eq a b)
      where
        go : (a ≡ b) ⊎ (a ≡ b → ⊥) → get_or done' b 0 ≡ get_or was b 0 + times (take (i + 1) acts) b
        go (inl e) =
            let here : get_or done' b 0 ≡ get_or done b 0 + 1 =
            subst (λ b. get_or done' b 0 ≡ get_or done b 0 + 1) e one in
            omega (arith, here, last_counts_more acts i b h e, before b)
        go (inr ne) = omega (arith, others b ne, others_count_same acts i b h ne, before b)
