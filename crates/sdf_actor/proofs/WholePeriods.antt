-- After whole periods the rates and phases of a net begin anew.
use Rattle.std.proofs.Common.{◌≡◌, ℕ, zero, suc, ◌+◌, ◌*◌, ◌<◌, List, length, get_or, refl, sym, ap, ◌∙◌, subst, inl}
use Rattle.std.proofs.Common.{inr, ◌⊎◌, arith, Some}
use Rattle.std.proofs.Math.Nat.{mul_assoc}
use Rattle.std.proofs.lemmas.Bool.{cases_eq}
use Rattle.std.proofs.lemmas.List.{get_or-map, length-map}
use Rattle.std.proofs.lemmas.List.FromFn.{length-map-range_with_len}
use Rattle.sdf_graph.specs.Laws.{GraphsHavePeriods}
use Rattle.sdf_graph.specs.Periods.{IsPeriodVector}
use Rattle.sdf_graph.specs.Rates.{GraphValue, ChannelValue, IsShape, IsSound, IsAlike, IsReached, start, along, back}
use Rattle.sdf_graph.specs.Rates.{rates, channel}
use Rattle.sdf_graph.specs.Rates.{cycle, no_channel}
use Rattle.sdf_graph.specs.Sequences.{IsPeriod}
use Rattle.sdf_actor.specs.declared.node.Node.{Node}
use Rattle.sdf_actor.specs.declared.node.Node.TheVariants.{Source, Sink, Inner}
use Rattle.sdf_actor.specs.declared.sides.Side.TheVariants.{Input, Output}
use Rattle.sdf_actor.specs.declared.sides.Lists.TheVariants.{Outputs}
use Rattle.sdf_actor.specs.Graphs.{graph_of, channel_of, rate_of}
use Rattle.sdf_actor.specs.NetFaults.{IsAccepted, HasLists}
use Rattle.sdf_actor.specs.Nets.{Netlist, node, wire, no_wire, wiring, cycle_of, inputs_of, outputs_of, from_port}
use Rattle.sdf_actor.specs.Nets.{to_port, IsNet}
use Rattle.sdf_actor.specs.NetStates.{AreWhole}
use Rattle.sdf_actor.specs.Sides.{list_of}
use Rattle.sdf_actor.specs.Steps.{Steps}
use Rattle.sdf_actor.proofs.Netlists.{from_port_is, to_port_is, wired}

-- what begins anew after a period does so after several
several : (f : ℕ → ℕ) (q : ℕ) → f 0 ≡ 0 → ((i : ℕ) → f (i + q) ≡ f i + f q) → (b i : ℕ) →
    f (i + b * q) ≡ f i + f (b * q)
several f q none anew zero i =
    let nothing : f (0 * q) ≡ 0 = ap f (let e : 0 * q ≡ 0 = omega arith in e) ∙ none in
    let same : f (i + 0 * q) ≡ f i = ap f (let e : i + 0 * q ≡ i = omega arith in e) in
    omega arith
several f q none anew (suc b) i =
    let here : f (i + suc b * q) ≡ f (i + b * q) + f q =
    ap f (let e : i + suc b * q ≡ i + b * q + q = omega arith in e) ∙ anew (i + b * q) in
    let before : f (i + b * q) ≡ f i + f (b * q) = several f q none anew b i in
    let whole : f (suc b * q) ≡ f (b * q) + f q = ap f
    (let e : suc b * q ≡ b * q + q = omega arith in e) ∙ anew (b * q) in
    omega arith

-- two that come to as much in a period do so in several
as_much : (f g : ℕ → ℕ) (p q : ℕ) → f 0 ≡ 0 → g 0 ≡ 0 → ((i : ℕ) → f (i + p) ≡ f i + f p) →
    ((i : ℕ) → g (i + q) ≡ g i + g q) → f p ≡ g q → (b : ℕ) → f (b * p) ≡ g (b * q)
as_much f g p q none nothing anew again same zero =
    ap f (let e : 0 * p ≡ 0 = omega arith in e) ∙ (none ∙ sym (ap g (let e : 0 * q ≡ 0 = omega arith in e) ∙ nothing))
as_much f g p q none nothing anew again same (suc b) =
    let before = as_much f g p q none nothing anew again same b in
    let one : f (suc b * p) ≡ f (b * p) + f p = ap f
    (let e : suc b * p ≡ b * p + p = omega arith in e) ∙ anew (b * p) in
    let other : g (suc b * q) ≡ g (b * q) + g q = ap g
    (let e : suc b * q ≡ b * q + q = omega arith in e) ∙ again (b * q) in
    omega arith

-- an actor at a channel has a cycle of its rates' length
cycle_at : (g : GraphValue) → IsShape g → (a many : ℕ) →
    (c : ℕ) × (c < length g.channels) × ((((channel g c).from ≡ a) × (length (channel g c).put ≡ many))
    ⊎ (((channel g c).to ≡ a) × (length (channel g c).take ≡ many))) → cycle g a ≡ many
cycle_at g shape a many (c, h, inl here) = ap (cycle g) (sym here.0) ∙ (sym (shape.put c h).all ∙ here.1)
cycle_at g shape a many (c, h, inr here) = ap (cycle g) (sym here.0) ∙ (sym (shape.take c h).all ∙ here.1)

-- a channel ends at the actor
abbrev Touches : GraphValue → ℕ → Type 0
Touches g b = (c : ℕ) × (c < length g.channels) × (((channel g c).from ≡ b) ⊎ ((channel g c).to ≡ b))

touched : (g : GraphValue) (b : ℕ) → IsReached g b → (0 ≡ b) ⊎ Touches g b
touched g _ start = inl refl
touched g _ (along c h r) = inr (c, h, inr refl)
touched g _ (back c h r) = inr (c, h, inl refl)

-- one ends at actor 0, where that is not alone
first_touched : (g : GraphValue) (b : ℕ) → IsReached g b → (0 ≡ b → ⊥) → Touches g 0
first_touched g _ start ne = absurd (ne refl)
first_touched g _ (along c h r) ne = go (cases_eq 0 (channel g c).from) (first_touched g (channel g c).from r)
  where
    go : (0 ≡ (channel g c).from) ⊎ (0 ≡ (channel g c).from → ⊥) → ((0 ≡ (channel g c).from → ⊥) → Touches g 0) →
        Touches g 0
    go (inl e) on = (c, h, inl (sym e))
    go (inr f) on = on f
first_touched g _ (back c h r) ne = go (cases_eq 0 (channel g c).to) (first_touched g (channel g c).to r)
  where
    go : (0 ≡ (channel g c).to) ⊎ (0 ≡ (channel g c).to → ⊥) → ((0 ≡ (channel g c).to → ⊥) → Touches g 0) → Touches g 0
    go (inl e) on = (c, h, inr (sym e))
    go (inr f) on = on f

module _ {A S T : Type 0} (s : Steps A S T) (n : Netlist A T) where
  wires_all : length (graph_of s n).channels ≡ length n.wires
  wires_all = length-map n.wires (channel_of s n.nodes)

  channel_is : (c : ℕ) → c < length n.wires → channel (graph_of s n) c ≡ channel_of s n.nodes (wire n c)
  channel_is c l = get_or-map (channel_of s n.nodes) n.wires c no_wire no_channel l

  put_long : (c a : ℕ) → c < length n.wires → (channel (graph_of s n) c).from ≡ a →
      length (channel (graph_of s n) c).put ≡ cycle_of s (node n a)
  put_long c a l e =
      ap (λ (x : ChannelValue). length x.put) (channel_is c l) ∙
      (length-map-range_with_len (rate_of s Output (node n (wire n c).from.0) (wire n c).from.1) 0
      (cycle_of s (node n (wire n c).from.0)) ∙
      ap (λ b. cycle_of s (node n b)) (sym (ap (λ (x : ChannelValue). x.from) (channel_is c l)) ∙ e))

  take_long : (c a : ℕ) → c < length n.wires → (channel (graph_of s n) c).to ≡ a →
      length (channel (graph_of s n) c).take ≡ cycle_of s (node n a)
  take_long c a l e =
      ap (λ (x : ChannelValue). length x.take) (channel_is c l) ∙
      (length-map-range_with_len (rate_of s Input (node n (wire n c).to.0) (wire n c).to.1) 0
      (cycle_of s (node n (wire n c).to.0)) ∙
      ap (λ b. cycle_of s (node n b)) (sym (ap (λ (x : ChannelValue). x.to) (channel_is c l)) ∙ e))

  cycle_here : IsShape (graph_of s n) → (a : ℕ) → Touches (graph_of s n) a →
      cycle (graph_of s n) a ≡ cycle_of s (node n a)
  cycle_here shape a (c, h, inl e) = cycle_at (graph_of s n) shape a (cycle_of s (node n a))
      (c, h, inl (e, put_long c a (omega (arith, wires_all, h)) e))
  cycle_here shape a (c, h, inr e) = cycle_at (graph_of s n) shape a (cycle_of s (node n a))
      (c, h, inr (e, take_long c a (omega (arith, wires_all, h)) e))

  -- each node is at a channel
  at_channel : IsNet s n → IsShape (graph_of s n) → HasLists n.nodes → (a : ℕ) → a < length n.nodes →
      Touches (graph_of s n) a
  at_channel good shape has a known = go (node n a) refl
    where
      go : (x : Node A) → node n a ≡ x → Touches (graph_of s n) a
      go (Source ext block) is =
          let port : 0 < outputs_of s (node n a) = subst (λ y. 0 < outputs_of s y) (sym is) (omega arith) in
          let low : from_port n a 0 < length n.wires = good.from_all a 0 known port in (
            from_port n a 0,
            omega (arith, wires_all, low),
            inl (ap (λ (x : ChannelValue). x.from) (channel_is (from_port n a 0) low)
                ∙ (from_port_is s n good a 0 known port).0),
          )
      go (Sink ext block) is =
          let port : 0 < inputs_of s (node n a) = subst (λ y. 0 < inputs_of s y) (sym is) (omega arith) in
          let low : to_port n a 0 < length n.wires = good.to_all a 0 known port in (
            to_port n a 0,
            omega (arith, wires_all, low),
            inr (ap (λ (x : ChannelValue). x.to) (channel_is (to_port n a 0) low)
                ∙ (to_port_is s n good a 0 known port).0),
          )
      go (Inner x) is = at (touched (graph_of s n) a (shape.connected a known))
        where
          at : (0 ≡ a) ⊎ Touches (graph_of s n) a → Touches (graph_of s n) a
          at (inr here) = here
          at (inl e) =
              let sink = has.outputs 0 has.output in
              let other : 0 ≡ sink.0 → ⊥ = λ f. apart (sym (ap (λ b. list_of Outputs (node n b)) (sym e ∙ f) ∙ sink.2)
              ∙ ap (list_of Outputs) is) in
              subst (Touches (graph_of s n)) e (first_touched (graph_of s n) sink.0
              (shape.connected sink.0 sink.1) other)
            where
              apart : Some 0 ≡ list_of Outputs (Inner x) → ⊥
              apart same = cc

  module _ (periods : GraphsHavePeriods) (good : IsNet s n) (shape : IsShape (graph_of s n))
      (alike : IsAlike (rates (graph_of s n)) (wiring s n).rates) (q : List ℕ) (accepted : IsAccepted s n q) where
    vector : IsPeriodVector (rates (graph_of s n)) q
    vector = accepted.period.is

    period : IsPeriod (rates (graph_of s n)) (λ a. get_or q a 0)
    period = periods (graph_of s n) q shape vector

    -- a period of its graph is one of the net
    own : IsPeriod (wiring s n).rates (λ a. get_or q a 0)
    own = record {
      balanced = λ c l. let h = known c l in put_one c h ∙ (period.balanced c h ∙ sym (take_one c h));
      produced_anew = λ c i l.
          let h = known c l in
          let at : (wiring s n).rates.produced c (i + get_or q ((wiring s n).rates.source c) 0) ≡
          (rates (graph_of s n)).produced c (i + get_or q ((rates (graph_of s n)).source c) 0) =
          sym (alike.produced c (i + get_or q ((rates (graph_of s n)).source c) 0) h
          ∙ ap (λ b. (wiring s n).rates.produced c (i + get_or q b 0)) (alike.source c h)) in
          omega (arith, at, period.produced_anew c i h, alike.produced c i h, put_one c h);
      consumed_anew = λ c i l.
          let h = known c l in
          let at : (wiring s n).rates.consumed c (i + get_or q ((wiring s n).rates.target c) 0) ≡
          (rates (graph_of s n)).consumed c (i + get_or q ((rates (graph_of s n)).target c) 0) =
          sym (alike.consumed c (i + get_or q ((rates (graph_of s n)).target c) 0) h
          ∙ ap (λ b. (wiring s n).rates.consumed c (i + get_or q b 0)) (alike.target c h)) in
          omega (arith, at, period.consumed_anew c i h, alike.consumed c i h, take_one c h);
    }
      where
        known : (c : ℕ) → c < length n.wires → c < length (graph_of s n).channels
        known c l = omega (arith, wires_all, l)

        put_one : (c : ℕ) → c < length (graph_of s n).channels →
            (wiring s n).rates.produced c (get_or q ((wiring s n).rates.source c) 0) ≡
            (rates (graph_of s n)).produced c (get_or q ((rates (graph_of s n)).source c) 0)
        put_one c h = sym (alike.produced c (get_or q ((rates (graph_of s n)).source c) 0) h
            ∙ ap (λ b. (wiring s n).rates.produced c (get_or q b 0)) (alike.source c h))

        take_one : (c : ℕ) → c < length (graph_of s n).channels →
            (wiring s n).rates.consumed c (get_or q ((wiring s n).rates.target c) 0) ≡
            (rates (graph_of s n)).consumed c (get_or q ((rates (graph_of s n)).target c) 0)
        take_one c h = sym (alike.consumed c (get_or q ((rates (graph_of s n)).target c) 0) h
            ∙ ap (λ b. (wiring s n).rates.consumed c (get_or q b 0)) (alike.target c h))

    -- several periods are whole
    pub are_whole : (b : ℕ) → AreWhole s n (λ a. b * get_or q a 0)
    are_whole b = record {
      period = record {
        balanced = λ c l. as_much ((wiring s n).rates.produced c) ((wiring s n).rates.consumed c)
            (get_or q ((wiring s n).rates.source c) 0) (get_or q ((wiring s n).rates.target c) 0)
            (sound.produced_none c) (sound.consumed_none c) (λ i. own.produced_anew c i l)
            (λ i. own.consumed_anew c i l) (own.balanced c l) b;
        produced_anew = λ c i l. several ((wiring s n).rates.produced c) (get_or q ((wiring s n).rates.source c) 0)
            (sound.produced_none c) (λ j. own.produced_anew c j l) b i;
        consumed_anew = λ c i l. several ((wiring s n).rates.consumed c) (get_or q ((wiring s n).rates.target c) 0)
            (sound.consumed_none c) (λ j. own.consumed_anew c j l) b i;
      };
      cycles = λ a l.
          let whole = vector.whole a l in
          let same = cycle_here shape a (at_channel good shape accepted.lists a l) in (
            b * whole.0,
            ap (λ m. b * m) (whole.1 ∙ ap (λ m. whole.0 * m) same)
                ∙ sym (mul_assoc b whole.0 (cycle_of s (node n a))),
          );
    }
      where
        sound : IsSound (wiring s n).rates
        sound = (wired s n good).sound
