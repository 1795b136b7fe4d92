-- A net that begins with what a history left.
use Rattle.std.proofs.Common.{◌≡◌, ℕ, suc, ◌+◌, ◌*◌, ◌%◌, ◌<◌, List, [], ◌∷◌, ◌++◌, length, map, get_or, take, drop}
use Rattle.std.proofs.Common.{eqb, ◌&&◌, Bool, not, cond, Option, Some, None, refl, sym, ap, ◌∙◌, subst, arith}
use Rattle.std.specs.List.{between, position_or_len, range_with_len}
use Rattle.std.proofs.Math.Nat.{mul-add, add-mul-mod_self_right}
use Rattle.std.proofs.lemmas.List.{drop_at, take_at, length-append}
use Rattle.sdf_graph.specs.Periods.{Divides}
use Rattle.sdf_graph.specs.Rates.{sum_to}
use Rattle.sdf_actor.specs.declared.node.Node.{Node}
use Rattle.sdf_actor.specs.declared.node.Node.TheVariants.{Source, Sink, Inner}
use Rattle.sdf_actor.specs.declared.net_state.NetState.{NetState}
use Rattle.sdf_actor.specs.Resumed.{BeginsIn}
use Rattle.sdf_actor.specs.Histories.{AnswersAgree, taken_before}
use Rattle.sdf_actor.specs.Nets.{Wire, Netlist, no_wire, wire, node, inputs_of, outputs_of, consumed_at, produced_at}
use Rattle.sdf_actor.specs.Nets.{cycle_of, from_port, to_port, wiring, answers, answer_of, arrived, IsHistoryOf}
use Rattle.sdf_actor.specs.Nets.{SourceReaches, InputsReach}
use Rattle.sdf_actor.specs.Steps.{Steps, phase, state_from, state_after}
use Rattle.sdf_actor.specs.NetStates.{state_left, Leaves, IsResumedNode, AreJoined}
use Rattle.sdf_actor.specs.GoingOn.{GoesOn, in_all}
use Rattle.sdf_actor.proofs.Agree.{length_taken_before}
use Rattle.sdf_actor.proofs.ResumedGraphs.{held_as_many}
use Rattle.sdf_actor.proofs.GoesOn.{Going, SameWiring, between_past, past_late, goes_on, left_on, arrived_on}
use Rattle.sdf_actor.proofs.Netlists.{wired, agree, to_port_is}

-- an actor's state after some blocks and then others
state_append : {A S T : Type 0} (s : Steps A S T) (x : A) (j : ℕ) (state : S) (past more : List (List T)) →
    state_from s x j state (past ++ more) ≡ state_from s x (j + length past) (state_from s x j state past) more
state_append s x j state [] more = ap (λ n. state_from s x n state more) (let e : j ≡ j + 0 = omega arith in e)
state_append s x j state (b ∷ past) more =
    state_append s x (j + 1) (s.next x (phase s x j) state b) past more ∙
    ap (λ n. state_from s x n (state_from s x (j + 1) (s.next x (phase s x j) state b) past) more)
    (let e : j + 1 + length past ≡ j + suc (length past) = omega arith in e)

module _ {A B S T : Type 0} {s : Steps A S T} {r : Steps B S T} {x : A} {now : S} {b : B}
    (same : BeginsIn s r x now b) (whole : ℕ) (cycles : Divides (s.cycle x) whole) where
  -- after whole cycles the phases begin anew
  pub phases : (j : ℕ) → phase s x (whole + j) ≡ phase r b j
  phases j =
      ap (λ n. n % s.cycle x) (let e : whole + j ≡ j + cycles.0 * s.cycle x = omega (arith, cycles.1) in e) ∙
      (add-mul-mod_self_right j cycles.0 (s.cycle x) ∙ ap (λ n. j % n) (sym same.cycle))

  states_on : (state : S) (n j : ℕ) → n ≡ whole + j → (more : List (List T)) →
      state_from s x n state more ≡ state_from r b j state more
  states_on state n j e [] = refl
  states_on state n j e (c ∷ more) =
      let at : phase s x n ≡ phase r b j = ap (phase s x) e ∙ phases j in
      let one : s.next x (phase s x n) state c ≡ r.next b (phase r b j) state c = λ κ. sym same.next κ (at κ) state c in
      ap (λ t. state_from s x (n + 1) t more) one ∙ states_on (r.next b (phase r b j) state c) (n + 1) (j + 1)
      (omega (arith, e)) more

  -- so its states are those of the actor that begins there
  pub state_on : (past more : List (List T)) → length past ≡ whole → now ≡ state_after s x past →
      state_after s x (past ++ more) ≡ state_after r b more
  state_on past more long is =
      state_append s x 0 (s.start x) past more ∙
      (states_on (state_after s x past) (0 + length past) 0 (omega (arith, long)) more ∙
      ap (λ t. state_from r b 0 t more) (sym is ∙ sym same.start))

  puts_on : (past more : List (List T)) (block : List T) → length past ≡ whole → now ≡ state_after s x past →
      s.puts x (phase s x (length (past ++ more))) (state_after s x (past ++ more)) block ≡
      r.puts b (phase r b (length more)) (state_after r b more) block
  puts_on past more block long is =
      let at : phase s x (length (past ++ more)) ≡ phase r b (length more) =
      ap (phase s x) (let e : length (past ++ more) ≡ whole + length more =
      omega (arith, length-append past more, long) in e) ∙ phases (length more) in
      let state = state_on past more long is in
      λ κ. sym same.puts κ (at κ) (state κ) block

-- the ports and rates of a node that begins in a state
module _ {A B S T : Type 0} (s : Steps A S T) (r : Steps B S T) (state : Option S) where
  inputs_same : (x : Node A) (y : Node B) → IsResumedNode s r state x y → inputs_of r y ≡ inputs_of s x
  inputs_same (Source ext block) y e = ap (inputs_of r) e
  inputs_same (Sink ext block) y e = ap (inputs_of r) e
  inputs_same (Inner x) y (b, now, e, _, same) = ap (inputs_of r) e ∙ same.inputs

  outputs_same : (x : Node A) (y : Node B) → IsResumedNode s r state x y → outputs_of r y ≡ outputs_of s x
  outputs_same (Source ext block) y e = ap (outputs_of r) e
  outputs_same (Sink ext block) y e = ap (outputs_of r) e
  outputs_same (Inner x) y (b, now, e, _, same) = ap (outputs_of r) e ∙ same.outputs

  consumed_same : (x : Node A) (y : Node B) → IsResumedNode s r state x y → (p i : ℕ) →
      consumed_at r y p i ≡ consumed_at s x p i
  consumed_same (Source ext block) y e p i = ap (λ t. consumed_at r t p i) e
  consumed_same (Sink ext block) y e p i = ap (λ t. consumed_at r t p i) e
  consumed_same (Inner x) y (b, now, e, _, same) p i =
      ap (λ t. consumed_at r t p i) e ∙ (λ κ. sum_to (λ j. same.take κ p (j % same.cycle κ)) i)

  produced_same : (x : Node A) (y : Node B) → IsResumedNode s r state x y → (p i : ℕ) →
      produced_at r y p i ≡ produced_at s x p i
  produced_same (Source ext block) y e p i = ap (λ t. produced_at r t p i) e
  produced_same (Sink ext block) y e p i = ap (λ t. produced_at r t p i) e
  produced_same (Inner x) y (b, now, e, _, same) p i =
      ap (λ t. produced_at r t p i) e ∙ (λ κ. sum_to (λ j. same.put κ p (j % same.cycle κ)) i)

-- the first wire that passes a test, in two lists whose wires pass it alike
first_same : {T : Type 0} (test : Wire T → Bool) (xs ys : List (Wire T)) → length xs ≡ length ys →
    ((c : ℕ) → c < length ys → test (get_or xs c no_wire) ≡ test (get_or ys c no_wire)) →
    position_or_len test xs ≡ position_or_len test ys
first_same test [] [] e h = refl
first_same test [] (y ∷ ys) e h = absurd (omega arith)
first_same test (x ∷ xs) [] e h = absurd (omega arith)
first_same test (x ∷ xs) (y ∷ ys) e h =
    let here : test x ≡ test y = h 0 (omega arith) in
    let more : position_or_len test xs ≡ position_or_len test ys =
    first_same test xs ys (omega arith) (λ c l. h (suc c) (omega arith)) in
    λ κ. cond (not (here κ)) (1 + more κ) 0

module _ {A B S T : Type 0} {s : Steps A S T} {r : Steps B S T} {n : Netlist A T} {m : Netlist B T}
    {first later : List (List T)} {k i : ℕ → ℕ} {V U : ℕ → List T} {rest : NetState T S}
    (h : GoesOn s r n m first later k i V U rest) where
  from_same : (c : ℕ) → c < length n.wires → (wire m c).from ≡ (wire n c).from
  from_same c l = h.begins.from c l

  to_same : (c : ℕ) → c < length n.wires → (wire m c).to ≡ (wire n c).to
  to_same c l = h.begins.to c l

  from_ports : (a p : ℕ) → from_port m a p ≡ from_port n a p
  from_ports a p = first_same (λ w. eqb w.from.0 a && eqb w.from.1 p) m.wires n.wires h.begins.wires
      (λ c l κ. eqb (from_same c l κ).0 a && eqb (from_same c l κ).1 p)

  to_ports : (a p : ℕ) → to_port m a p ≡ to_port n a p
  to_ports a p = first_same (λ w. eqb w.to.0 a && eqb w.to.1 p) m.wires n.wires h.begins.wires
      (λ c l κ. eqb (to_same c l κ).0 a && eqb (to_same c l κ).1 p)

  begins_with : (c : ℕ) → c < length n.wires → (wire m c).initial ≡
      drop ((wiring s n).rates.consumed c (k ((wiring s n).rates.target c))) (V c)
  begins_with c l = h.begins.initial c l ∙ h.left.held c l

  as_many : (c : ℕ) → c < length n.wires → length (wire m c).initial ≡ length (wire n c).initial
  as_many c l = ap length (begins_with c l) ∙ held_as_many h.before h.whole.period c l

  same_wiring : SameWiring (wiring s n) (wiring r m)
  same_wiring = record {
    actors = h.begins.nodes;
    channels = h.begins.wires;
    source = λ c l. ap (λ e. e.0) (from_same c l);
    target = λ c l. ap (λ e. e.0) (to_same c l);
    initial = as_many;
    produced = λ c j l.
        ap (λ e. produced_at r (node m e.0) e.1 j) (from_same c l) ∙
        produced_same s r (get_or rest.states.items (wire n c).from.0 None) (node n (wire n c).from.0)
        (node m (wire n c).from.0) (h.begins.each (wire n c).from.0 (h.net.from_in c l).0) (wire n c).from.1 j;
    consumed = λ c j l.
        ap (λ e. consumed_at r (node m e.0) e.1 j) (to_same c l) ∙
        consumed_same s r (get_or rest.states.items (wire n c).to.0 None) (node n (wire n c).to.0)
        (node m (wire n c).to.0) (h.begins.each (wire n c).to.0 (h.net.to_in c l).0) (wire n c).to.1 j;
    ins = λ a l.
        let many = inputs_same s r (get_or rest.states.items a None) (node n a) (node m a) (h.begins.each a l) in
        λ κ. map (λ p. to_ports a p κ) (range_with_len 0 (many κ));
    outs = λ a l.
        let many = outputs_same s r (get_or rest.states.items a None) (node n a) (node m a) (h.begins.each a l) in
        λ κ. map (λ p. from_ports a p κ) (range_with_len 0 (many κ));
  }

  abbrev going : Going T
  going = record {
    f = wiring s n;
    g = wiring r m;
    wired = wired s n h.net;
    same = same_wiring;
    x = answers s n first;
    y = answers r m later;
    k = k;
    i = i;
    V = V;
    U = U;
    period = h.whole.period;
    before = h.before;
    on = h.on;
    starts = begins_with;
  }

  abbrev before : ℕ → List (List T)
  before a = taken_before (wiring s n) V a (k a)

  -- an actor of the net begins in the state that it was left in
  module _ (a : ℕ) (known : a < length n.nodes) (x : A) (is : node n a ≡ Inner x) (b : B) (now : S)
      (given : get_or rest.states.items a None ≡ Some now) (same : BeginsIn s r x now b) where
    left_in : now ≡ state_after s x (before a)
    left_in = let e : Some now ≡ Some (state_after s x (before a)) =
        sym given ∙ (h.left.states a known ∙ ap (λ y. state_left s y (before a)) is) in cc

    cycles : Divides (s.cycle x) (k a)
    cycles = subst (λ y. Divides (cycle_of s y) (k a)) is (h.whole.cycles a known)

    pub puts_as : (past : List (List T)) (block : List T) →
        s.puts x (phase s x (length (before a ++ past))) (state_after s x (before a ++ past)) block ≡
        r.puts b (phase r b (length past)) (state_after r b past) block
    puts_as past block = puts_on same (k a) cycles (before a) past block
        (length_taken_before (wiring s n) V a (k a)) left_in

    pub state_as : (past : List (List T)) → state_after s x (before a ++ past) ≡ state_after r b past
    state_as past = state_on same (k a) cycles (before a) past
        (length_taken_before (wiring s n) V a (k a)) left_in

  module _ (all : List (List T)) (joined : AreJoined first later all) where
    reach : InputsReach n first k
    reach a l = go (node n a) (λ _. node n a)
      where
        go : (x : Node A) → node n a ≡ x → SourceReaches first k a x
        go (Source ext block) e = omega (arith, h.read a ext block l e)
        go (Sink ext block) e = tt
        go (Inner x) e = tt

    early : AnswersAgree (wiring s n) (answers s n first) (answers s n all) k
    early = agree s n h.net first all k reach (λ e. sym
        (ap (take (length (get_or first e []))) (joined e)
        ∙ take_at (get_or first e []) (get_or later e []) (length (get_or first e []))
        (λ _. length (get_or first e []))))

    late : (a : ℕ) (past : List (List T)) (now : List T) → a < length n.nodes → length past < i a →
        answers s n all a (before a ++ past) now ≡ answers r m later a past now
    late a past now l _ = go (node n a) (node m a) (λ _. node n a) (h.begins.each a l)
      where
        go : (x : Node A) (y : Node B) → node n a ≡ x → IsResumedNode s r (get_or rest.states.items a None) x y →
            answer_of s all x (before a ++ past) now ≡ answer_of r later y past now
        go (Source ext block) y e is =
            let read : length (get_or first ext []) ≡ block * k a = h.read a ext block l e in
            let many : length (before a ++ past) ≡ length past + k a =
            omega (arith, length-append (before a) past, length_taken_before (wiring s n) V a (k a)) in
            let from : block * length (before a ++ past) ≡ block * length past + block * k a =
            ap (λ j. block * j) many ∙ mul-add block (length past) (k a) in
            let to : block * (length (before a ++ past) + 1) ≡ block * (length past + 1) + block * k a =
            ap (λ j. block * j) (let e : length (before a ++ past) + 1 ≡ length past + 1 + k a = omega (arith, many) in
            e) ∙ mul-add block (length past + 1) (k a) in
            (λ κ. between (from κ) (to κ) (joined ext κ)) ∙
            (between_past (get_or first ext [] ++ get_or later ext []) (block * k a) (block * length past)
            (block * (length past + 1)) ∙
            (ap (between (block * length past) (block * (length past + 1)))
            (drop_at (get_or first ext []) (get_or later ext []) (block * k a) read) ∙
            ap (λ t. answer_of r later t past now) (sym is)))
        go (Sink ext block) y e is = ap (λ t. answer_of r later t past now) (sym is)
        go (Inner x) y e (b, state, is, given, same) =
            puts_as a l x e b state given same past now ∙ ap (λ t. answer_of r later t past now) (sym is)

    pub history_goes_on : IsHistoryOf s n all (λ a. k a + i a) (in_all s n V U)
    history_goes_on = goes_on going (answers s n all) early late

  abbrev over : ℕ → List (List T)
  over a = taken_before (wiring s n) (in_all s n V U) a (k a + i a)

  pub rest_goes_on : (last : NetState T S) → Leaves r m i U last → Leaves s n (λ a. k a + i a) (in_all s n V U) last
  rest_goes_on last left = record {
    nodes = left.nodes ∙ h.begins.nodes;
    states = λ a l. at a l (node n a) refl (h.begins.each a l);
    channels = left.channels ∙ h.begins.wires;
    held = λ c l.
        left.held c (subst (λ j. c < j) (sym h.begins.wires) l) ∙
        sym (left_on going c l);
  }
    where
      at_end : (a : ℕ) → a < length n.nodes →
          get_or last.states.items a None ≡ state_left r (node m a) (taken_before (wiring r m) U a (i a))
      at_end a l = left.states a (subst (λ j. a < j) (sym h.begins.nodes) l)

      at : (a : ℕ) → a < length n.nodes → (x : Node A) → node n a ≡ x →
          IsResumedNode s r (get_or rest.states.items a None) (node n a) (node m a) →
          get_or last.states.items a None ≡ state_left s (node n a) (over a)
      at a l x is each = go x is (subst (λ y. IsResumedNode s r (get_or rest.states.items a None) y (node m a)) is each)
        where
          go : (x : Node A) → node n a ≡ x → IsResumedNode s r (get_or rest.states.items a None) x (node m a) →
              get_or last.states.items a None ≡ state_left s (node n a) (over a)
          go (Source ext block) is there =
              at_end a l ∙ (ap (λ y. state_left r y (taken_before (wiring r m) U a (i a))) there ∙
              ap (λ y. state_left s y (over a)) (sym is))
          go (Sink ext block) is there =
              at_end a l ∙ (ap (λ y. state_left r y (taken_before (wiring r m) U a (i a))) there ∙
              ap (λ y. state_left s y (over a)) (sym is))
          go (Inner x) is (b, now, there, given, same) =
              at_end a l ∙ (ap (λ y. state_left r y (taken_before (wiring r m) U a (i a))) there ∙
              (ap Some (sym (state_as a l x is b now given same (taken_before (wiring r m) U a (i a))) ∙
              ap (state_after s x) (sym (past_late going a l (i a)))) ∙
              ap (λ y. state_left s y (over a)) (sym is)))

  pub arrivals_go_on : (a e block : ℕ) → a < length n.nodes → node n a ≡ Sink e block →
      arrived s n (λ b. k b + i b) (in_all s n V U) a ≡ arrived s n k V a ++ arrived r m i U a
  arrivals_go_on a e block l is =
      let port : 0 < inputs_of s (node n a) = subst (λ x. 0 < inputs_of s x) (sym is) (omega arith) in
      let c : ℕ = to_port n a 0 in
      let there : c < length n.wires = h.net.to_all a 0 l port in
      arrived_on going a c there (to_port_is s n h.net a 0 l port).0 ∙
      ap (λ d. arrived s n k V a ++ take ((wiring r m).rates.consumed d (i a)) (U d)) (sym (to_ports a 0))
