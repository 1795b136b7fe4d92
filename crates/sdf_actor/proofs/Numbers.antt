-- The numbers of the channels of a net's graph.
use Rattle.std.proofs.Common.{◌≡◌, ℕ, zero, suc, ◌+◌, ◌<◌, ◌≤◌, ◌&&◌, ◌⊎◌, inl, inr, Bool, true, false, Option, Some}
use Rattle.std.proofs.Common.{None, List, [], ◌∷◌, length, get_or, map, sum, cond, eqb, leb, ltb, refl, sym, ap, ◌∙◌}
use Rattle.std.proofs.Common.{subst, arith}
use Rattle.std.proofs.lemmas.Bool.{and_from, and_left, both_ways, cases_eq, cond_both, cond-true, cond-false, le-leb}
use Rattle.std.proofs.lemmas.Bool.{lt-leb, lt-ltb, eq-eqb, ne_eqb}
use Rattle.std.proofs.Math.Bool.{and-false, and-true}
use Rattle.std.proofs.lemmas.List.FromFn.{length-map-range_with_len, get_or-map-range_with_len}
use Rattle.std.proofs.lemmas.List.Sums.{get_or-le-sum_by, sum_by-cons}
use Rattle.sdf_graph.specs.Rates.{ChannelValue, channel, no_channel, cycle_length}
use Rattle.sdf_graph.specs.Faults.{are_small, are_rates, is_within, is_cycle, has_rates, joins_actors, channel_fault}
use Rattle.sdf_graph.specs.Faults.{channels_fault, numbers_fault, or_else, IsFirstFault}
use Rattle.sdf_graph.specs.declared.fault.GraphFault.{GraphFault}
use Rattle.sdf_graph.specs.declared.fault.GraphFault.TheVariants.{OutOfMemory, BadRate, CycleLength, InitialCount}
use Rattle.sdf_graph.specs.declared.fault.GraphFault.TheVariants.{NotConnected}
use Rattle.sdf_actor.specs.declared.sides.Side.{Side}
use Rattle.sdf_actor.specs.declared.sides.Side.TheVariants.{Input, Output}
use Rattle.sdf_actor.specs.declared.node.Node.{Node}
use Rattle.sdf_actor.specs.declared.node.Node.TheVariants.{Sink}
use Rattle.sdf_actor.specs.Steps.{Steps}
use Rattle.sdf_actor.specs.Nets.{Wire, Netlist, no_wire, wire, node, cycle_of}
use Rattle.sdf_actor.specs.Graphs.{channel_of, graph_of, rate_of, rates_at}
use Rattle.sdf_actor.specs.declared.link.Link.{Link}
use Rattle.sdf_actor.specs.Wires.{wire_of, netlist}
use Rattle.sdf_actor.specs.NetFaults.{HasCounts, HasLinks, HasEnds}
use Rattle.sdf_actor.proofs.Readings.{wire_read}
use Rattle.sdf_actor.proofs.Making.{channel_here, many_channels}

small_is : (xs : List ℕ) → ((i : ℕ) → i < length xs → get_or xs i 0 ≤ 1024) → are_small xs ≡ true
small_is [] all = refl
small_is (x ∷ xs) all = and_from _ _ (le-leb x 1024 (all 0 (omega arith)))
    (small_is xs (λ i l. all (suc i) (omega arith)))

small_not : (xs : List ℕ) (i : ℕ) → i < length xs → 1024 < get_or xs i 0 → are_small xs ≡ false
small_not [] i l h = absurd (omega arith)
small_not (x ∷ xs) zero l h = and_left _ _ (lt-leb x 1024 h)
small_not (x ∷ xs) (suc i) l h = ap (λ b. leb x 1024 && b) (small_not xs i (omega arith) h) ∙ and-false (leb x 1024)

none_moved : (xs : List ℕ) → ((i : ℕ) → i < length xs → get_or xs i 0 ≡ 0) → sum xs ≡ 0
none_moved [] all = refl
none_moved (x ∷ xs) all = omega (
  arith,
  sum_by-cons (λ m. m) x xs,
  all 0 (omega arith),
  none_moved xs (λ i l. all (suc i) (omega arith)),
)

-- the rates of a node at a port, which are looked at one by one
module _ {A S T : Type 0} (s : Steps A S T) (side : Side) (x : Node A) (p : ℕ) where
  pub length_rates : length (rates_at s side x p) ≡ cycle_of s x
  length_rates = length-map-range_with_len (rate_of s side x p) 0 (cycle_of s x)

  rate_is : (i : ℕ) → i < cycle_of s x → get_or (rates_at s side x p) i 0 ≡ rate_of s side x p i
  rate_is i l = get_or-map-range_with_len (rate_of s side x p) 0 (cycle_of s x) i i 0 l (omega arith)

  pub too_large : (i : ℕ) → i < cycle_of s x → 1024 < rate_of s side x p i → are_rates (rates_at s side x p) ≡ false
  too_large i l h = and_left _ _ (small_not (rates_at s side x p) i (omega (arith, length_rates))
      (omega (arith, rate_is i l)))

  all_small : ((i : ℕ) → i < cycle_of s x → rate_of s side x p i ≤ 1024) → are_small (rates_at s side x p) ≡ true
  all_small small = small_is (rates_at s side x p)
      (λ i l. let k : i < cycle_of s x = omega (arith, length_rates) in omega (arith, small i k, rate_is i k))

  pub some_moved : ((i : ℕ) → i < cycle_of s x → rate_of s side x p i ≤ 1024) → (i : ℕ) → i < cycle_of s x →
      0 < rate_of s side x p i →
      are_rates (rates_at s side x p) ≡ true
  some_moved small i l h =
      let k : i < length (rates_at s side x p) = omega (arith, length_rates) in
      let some : 0 < sum (rates_at s side x p) = omega
      (arith, rate_is i l, get_or-le-sum_by (λ m. m) (rates_at s side x p) i 0 k) in
      let some_b : ltb 0 (sum (rates_at s side x p)) ≡ true = lt-ltb 0 (sum (rates_at s side x p)) some in
      let small_b : are_small (rates_at s side x p) ≡ true = all_small small in
      grind arith

  pub none_moves : ((i : ℕ) → i < cycle_of s x → rate_of s side x p i ≡ 0) →
      are_rates (rates_at s side x p) ≡ eqb (cycle_of s x) 0
  none_moves none =
      let zero : sum (rates_at s side x p) ≡ 0 = none_moved (rates_at s side x p)
      (λ i l. let k : i < cycle_of s x = omega (arith, length_rates) in rate_is i k ∙ none i k) in
      let small_b : are_small (rates_at s side x p) ≡ true = all_small (λ i l. omega (arith, none i l)) in
      let long = length_rates in
      grind arith

-- the cycle that the channels of a net give to a node that is an end of one of them
among : {A S T : Type 0} (s : Steps A S T) (nodes : List (Node A)) (ws : List (Wire T)) (a c : ℕ) → c < length ws →
    ((get_or ws c no_wire).from.0 ≡ a) ⊎ ((get_or ws c no_wire).to.0 ≡ a) →
    cycle_length (map (channel_of s nodes) ws) a ≡ cycle_of s (get_or nodes a (Sink 0 0))
among s nodes [] a c l end = absurd (omega arith)
among {T = T} s nodes (w ∷ ws) a c l end =
    go (cases_eq w.from.0 a) (cases_eq w.to.0 a) c l end (λ d h e. among s nodes ws a d h e)
  where
    go : (w.from.0 ≡ a) ⊎ (w.from.0 ≡ a → ⊥) → (w.to.0 ≡ a) ⊎ (w.to.0 ≡ a → ⊥) → (c : ℕ) → c < length (w ∷ ws) →
        ((get_or (w ∷ ws) c no_wire).from.0 ≡ a) ⊎ ((get_or (w ∷ ws) c no_wire).to.0 ≡ a) →
        ((d : ℕ) → d < length ws → ((get_or ws d no_wire).from.0 ≡ a) ⊎ ((get_or ws d no_wire).to.0 ≡ a) →
        cycle_length (map (channel_of s nodes) ws) a ≡ cycle_of s (get_or nodes a (Sink 0 0))) →
        cycle_length (map (channel_of s nodes) (w ∷ ws)) a ≡ cycle_of s (get_or nodes a (Sink 0 0))
    go (inl e) other c l end ih =
        cond-true (eqb w.from.0 a) _ _ (eq-eqb w.from.0 a e) ∙
        (length_rates s Output (get_or nodes w.from.0 (Sink 0 0)) w.from.1
        ∙ ap (λ b. cycle_of s (get_or nodes b (Sink 0 0))) e)
    go (inr n) (inl e) c l end ih =
        cond-false (eqb w.from.0 a) _ _ (ne_eqb w.from.0 a n) ∙
        (cond-true (eqb w.to.0 a) _ _ (eq-eqb w.to.0 a e) ∙
        (length_rates s Input (get_or nodes w.to.0 (Sink 0 0)) w.to.1
        ∙ ap (λ b. cycle_of s (get_or nodes b (Sink 0 0))) e))
    go (inr n) (inr m) zero l (inl e) ih = absurd (n e)
    go (inr n) (inr m) zero l (inr e) ih = absurd (m e)
    go (inr n) (inr m) (suc c) l end ih =
        cond-false (eqb w.from.0 a) _ _ (ne_eqb w.from.0 a n) ∙
        (cond-false (eqb w.to.0 a) _ _ (ne_eqb w.to.0 a m) ∙ ih c (omega arith) end)

-- a list as long as its cycle need only be short
own_length : (n : ℕ) (xs : List ℕ) → n ≡ length xs → is_cycle n xs ≡ is_within 1 64 (length xs)
own_length n xs e = ap (λ b. is_within 1 64 (length xs) && b) (eq-eqb (length xs) n (sym e))
    ∙ and-true (is_within 1 64 (length xs))

-- the first fault of the numbers of a channel whose ends are nodes, and whose lists are as long as their cycles
abbrev pub own_fault : ℕ → ChannelValue → Option GraphFault
own_fault c e =
    cond (are_rates e.put && are_rates e.take)
    (cond (is_within 1 64 (length e.put) && is_within 1 64 (length e.take))
    (cond (leb e.initial 65536) None (Some (InitialCount c))) (Some (CycleLength c)))
    (Some (BadRate c))

module _ {A S T : Type 0} (s : Steps A S T) (n : Netlist A T) (links : HasLinks s n (length n.wires)) where
  -- so it is with those of a net
  pub fault_here : (c : ℕ) → c < length n.wires →
      channel_fault (length n.nodes) (graph_of s n).channels c (channel (graph_of s n) c) ≡
      own_fault c (channel_of s n.nodes (wire n c))
  fault_here c l =
      let e : ChannelValue = channel_of s n.nodes (wire n c) in
      let all : List ChannelValue = (graph_of s n).channels in
      let joined : joins_actors (length n.nodes) e ≡ true =
      and_from _ _ (lt-ltb (wire n c).from.0 (length n.nodes) (links c l).0.from.0)
      (lt-ltb (wire n c).to.0 (length n.nodes) (links c l).0.to.0) in
      let put : cycle_length all e.from ≡ length e.put =
      among s n.nodes n.wires e.from c l (inl refl)
      ∙ sym (length_rates s Output (node n e.from) (wire n c).from.1) in
      let take : cycle_length all e.to ≡ length e.take =
      among s n.nodes n.wires e.to c l (inr refl) ∙ sym (length_rates s Input (node n e.to) (wire n c).to.1) in
      ap (channel_fault (length n.nodes) all c) (channel_here s n c l) ∙
      (cond-true (joins_actors (length n.nodes) e) _ _ joined ∙
      ap (λ b. cond (has_rates e) (cond b (cond (leb e.initial 65536) None (Some (InitialCount c)))
      (Some (CycleLength c))) (Some (BadRate c)))
      (λ i. own_length (cycle_length all e.from) e.put put i && own_length (cycle_length all e.to) e.take take i))

-- the first fault of a list of channels is that of the first channel that has one
none_among : (actors : ℕ) (all : List ChannelValue) (k : ℕ) (es : List ChannelValue) →
    ((i : ℕ) → i < length es → channel_fault actors all (k + i) (get_or es i no_channel) ≡ None) →
    channels_fault actors all k es ≡ None
none_among actors all k [] none = refl
none_among actors all k (e ∷ es) none =
    ap (λ o. or_else o (channels_fault actors all (k + 1) es))
    (subst (λ j. channel_fault actors all j e ≡ None) (omega arith) (none 0 (omega arith))) ∙
    none_among actors all (k + 1) es
    (λ i l. subst (λ j. channel_fault actors all j (get_or es i no_channel) ≡ None) (omega arith)
    (none (suc i) (omega arith)))

first_among : (actors : ℕ) (all : List ChannelValue) (k : ℕ) (es : List ChannelValue) (c : ℕ) (f : GraphFault) →
    c < length es →
    ((i : ℕ) → i < c → channel_fault actors all (k + i) (get_or es i no_channel) ≡ None) →
    channel_fault actors all (k + c) (get_or es c no_channel) ≡ Some f → channels_fault actors all k es ≡ Some f
first_among actors all k [] c f l before here = absurd (omega arith)
first_among actors all k (e ∷ es) zero f l before here =
    ap (λ o. or_else o (channels_fault actors all (k + 1) es))
    (subst (λ j. channel_fault actors all j e ≡ Some f) (omega arith) here)
first_among actors all k (e ∷ es) (suc c) f l before here =
    ap (λ o. or_else o (channels_fault actors all (k + 1) es))
    (subst (λ j. channel_fault actors all j e ≡ None) (omega arith) (before 0 (omega arith))) ∙
    first_among actors all (k + 1) es c f (omega arith)
    (λ i h. subst (λ j. channel_fault actors all j (get_or es i no_channel) ≡ None) (omega arith)
    (before (suc i) (omega arith)))
    (subst (λ j. channel_fault actors all j (get_or es c no_channel) ≡ Some f) (omega arith) here)

-- an own fault is never that of an actor that is not joined
abbrev is_unjoined : Option GraphFault → Bool
is_unjoined (Some (NotConnected a)) = true
is_unjoined o = false

own_of_numbers : (c : ℕ) (e : ChannelValue) → is_unjoined (own_fault c e) ≡ false
own_of_numbers c e =
    cond_both (are_rates e.put && are_rates e.take) _ _ (λ o. is_unjoined o ≡ false)
    (λ _. cond_both (is_within 1 64 (length e.put) && is_within 1 64 (length e.take)) _ _ (λ o. is_unjoined o ≡ false)
    (λ _. cond_both (leb e.initial 65536) _ _ (λ o. is_unjoined o ≡ false) (λ _. refl) (λ _. refl)) (λ _. refl))
    (λ _. refl)

-- the same, where the nodes at the ends have been read
pub own_read : {A S T : Type 0} (s : Steps A S T) (nodes : List (Node A)) (c : ℕ) (w : Wire T) (from to : Node A) →
    get_or nodes w.from.0 (Sink 0 0) ≡ from → get_or nodes w.to.0 (Sink 0 0) ≡ to →
    own_fault c (channel_of s nodes w) ≡
    cond (are_rates (rates_at s Output from w.from.1) && are_rates (rates_at s Input to w.to.1))
    (cond (is_within 1 64 (cycle_of s from) && is_within 1 64 (cycle_of s to))
    (cond (leb (length w.initial) 65536) None (Some (InitialCount c))) (Some (CycleLength c)))
    (Some (BadRate c))
own_read s nodes c w from to f t =
    (λ i. own_fault c (record {
      from = w.from.0;
      put = rates_at s Output (f i) w.from.1;
      to = w.to.0;
      take = rates_at s Input (t i) w.to.1;
      initial = length w.initial;
    })) ∙
    (λ i. cond (are_rates (rates_at s Output from w.from.1) && are_rates (rates_at s Input to w.to.1))
    (cond (is_within 1 64 (length_rates s Output from w.from.1 i) && is_within 1 64 (length_rates s Input to w.to.1 i))
    (cond (leb (length w.initial) 65536) None (Some (InitialCount c))) (Some (CycleLength c)))
    (Some (BadRate c)))

module _ {A S T : Type 0} (s : Steps A S T) (n : Netlist A T) (counts : HasCounts n)
    (links : HasLinks s n (length n.wires)) where
  numbers_are : numbers_fault (graph_of s n) ≡ channels_fault (length n.nodes) (graph_of s n).channels 0
      (graph_of s n).channels
  numbers_are =
      let many = many_channels s n in
      let some : 1 ≤ length n.nodes = omega (arith, counts.some) in
      let within : is_within 1 64 (length n.nodes) ≡ true =
      and_from _ _ (le-leb 1 (length n.nodes) some) (le-leb (length n.nodes) 64 counts.few) in
      let narrow : length (graph_of s n).channels ≤ 256 = omega (arith, counts.narrow) in
      cond-true (is_within 1 64 (length n.nodes)) _ _ within
      ∙ cond-true (leb (length (graph_of s n).channels) 256)
      _ _ (le-leb (length (graph_of s n).channels) 256 narrow)

  pub no_number_fault : ((c : ℕ) → c < length n.wires → own_fault c (channel_of s n.nodes (wire n c)) ≡ None) →
      numbers_fault (graph_of s n) ≡ None
  no_number_fault none =
      let many = many_channels s n in
      numbers_are ∙
      none_among (length n.nodes) (graph_of s n).channels 0 (graph_of s n).channels
      (λ c l. let k : c < length n.wires = omega arith in
      subst (λ j. channel_fault (length n.nodes) (graph_of s n).channels j (channel (graph_of s n) c) ≡ None)
      (omega arith) (fault_here s n links c k ∙ none c k))

  pub first_number_fault : (c : ℕ) (f : GraphFault) → c < length n.wires →
      ((k : ℕ) → k < c → own_fault k (channel_of s n.nodes (wire n k)) ≡ None) →
      own_fault c (channel_of s n.nodes (wire n c)) ≡ Some f → IsFirstFault (graph_of s n) f
  first_number_fault c f l before here = go f here all
    where
      all : numbers_fault (graph_of s n) ≡ Some f
      all =
          let many = many_channels s n in
          numbers_are ∙
          first_among (length n.nodes) (graph_of s n).channels 0 (graph_of s n).channels c f (omega arith)
          (λ k h. let low : k < length n.wires = omega arith in
          subst (λ j. channel_fault (length n.nodes) (graph_of s n).channels j (channel (graph_of s n) k) ≡ None)
          (omega arith) (fault_here s n links k low ∙ before k h))
          (subst (λ j. channel_fault (length n.nodes) (graph_of s n).channels j (channel (graph_of s n) c) ≡ Some f)
          (omega arith) (fault_here s n links c l ∙ here))

      go : (f : GraphFault) → own_fault c (channel_of s n.nodes (wire n c)) ≡ Some f →
          numbers_fault (graph_of s n) ≡ Some f → IsFirstFault (graph_of s n) f
      go OutOfMemory here found = tt
      go (NotConnected a) here found = absurd (both_ways (is_unjoined (own_fault c (channel_of s n.nodes (wire n c))))
          (own_of_numbers c (channel_of s n.nodes (wire n c))) (ap is_unjoined here))
      go f here found = found

-- the ends of a link that is read
pub link_ends : {A S T : Type 0} (s : Steps A S T) (nodes : List (Node A)) (ls : List (Link T)) (m c : ℕ) (x : Link T) →
    HasLinks s (netlist nodes ls) m → c < m →
    c < length ls → x ≡ get_or ls c x → HasEnds s nodes (wire_of x)
link_ends s nodes ls m c x links low l is = subst (HasEnds s nodes) (wire_read ls c x l is) (links c low).0
