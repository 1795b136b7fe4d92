-- The graph of a net that begins with what a history left.
use Rattle.std.proofs.Common.{◌≡◌, ℕ, ◌+◌, ◌≤◌, ◌<◌, List, [], ◌∷◌, ◌++◌, length, map, get_or, drop, Option, None, sym}
use Rattle.std.proofs.Common.{ap, ◌∙◌, subst, inl, inr, ◌⊎◌, arith}
use Rattle.std.specs.List.{range_with_len}
use Rattle.std.proofs.lemmas.Bool.{cases_lt}
use Rattle.std.proofs.lemmas.List.{get_or-map, length-map, length-drop, same_lists, get_or_append_left}
use Rattle.std.proofs.lemmas.List.{get_or_push}
use Rattle.sdf_graph.specs.Sequences.{IsPeriod}
use Rattle.sdf_actor.specs.declared.node.Node.{Node}
use Rattle.sdf_actor.specs.declared.node.Node.TheVariants.{Source, Sink, Inner}
use Rattle.sdf_actor.specs.declared.sides.Side.{Side}
use Rattle.sdf_actor.specs.declared.sides.Side.TheVariants.{Input, Output}
use Rattle.sdf_actor.specs.declared.link.Link.{Link}
use Rattle.sdf_actor.specs.declared.net_state.NetState.{NetState}
use Rattle.sdf_actor.specs.Graphs.{rates_at, channel_of, graph_of}
use Rattle.sdf_actor.specs.Nets.{Wire, Netlist, no_wire, wire, node, wiring, IsNet, IsHistoryOf}
use Rattle.sdf_actor.specs.Histories.{Wiring, Answers, IsHistory}
use Rattle.sdf_actor.specs.NetStates.{IsNetState, IsResumedNode, IsResumedNet}
use Rattle.sdf_actor.specs.Steps.{Steps}
use Rattle.sdf_actor.specs.Wires.{wires, lists, netlist}
use Rattle.sdf_actor.specs.Nets.{answers}
use Rattle.sdf_actor.proofs.Exists.{history_begins}
use Rattle.sdf_actor.proofs.Netlists.{wired}
use Rattle.sdf_actor.proofs.Readings.{length-wires}

-- what holds of each item holds with one more
pub each_pushed : {X : Type 0} (P : ℕ → X → Type 0) (xs : List X) (y d : X) (n : ℕ) → length xs ≡ n →
    ((i : ℕ) → i < n → P i (get_or xs i d)) → P n y →
    (i : ℕ) → i < n + 1 → P i (get_or (xs ++ y ∷ []) i d)
each_pushed {X} P xs y d n long each last i h = go (cases_lt i n)
  where
    go : (i < n) ⊎ (n ≤ i) → P i (get_or (xs ++ y ∷ []) i d)
    go (inl low) = subst (P i) (sym (get_or_append_left xs (y ∷ []) d i (omega (arith, long)))) (each i low)
    go (inr high) =
        let at : n ≡ i = omega arith in
        subst (P i) (sym (get_or_push xs y d i (long ∙ at))) (subst (λ j. P j y) at last)

-- before its first firing the channels have what they begin with
pub no_firing : {A S T : Type 0} (s : Steps A S T) (n : Netlist A T) → IsNet s n → (inputs : List (List T)) →
    IsHistoryOf s n inputs (λ _. 0) (wiring s n).starts
no_firing s n good inputs = history_begins (wired s n good) (answers s n inputs)

-- after a whole period a channel holds as many samples as at first
pub held_as_many : {T : Type 0} {f : Wiring T} {x : Answers T} {k : ℕ → ℕ} {V : ℕ → List T} → IsHistory f x k V →
    IsPeriod f.rates k → (c : ℕ) → c < f.rates.channels →
    length (drop (f.rates.consumed c (k (f.rates.target c))) (V c)) ≡ f.rates.initial c
held_as_many {T} {f} {x} {k} {V} r period c l =
    omega (arith, length-drop (f.rates.consumed c (k (f.rates.target c))) (V c), r.lengths c l, period.balanced c l)

-- a node that begins in a state has its rates
rates_same : {A B S T : Type 0} (s : Steps A S T) (r : Steps B S T) (state : Option S) (x : Node A) (y : Node B) →
    IsResumedNode s r state x y → (side : Side) (p : ℕ) →
    rates_at r side y p ≡ rates_at s side x p
rates_same s r state (Source ext block) y e Input p = ap (λ t. rates_at r Input t p) e
rates_same s r state (Source ext block) y e Output p = ap (λ t. rates_at r Output t p) e
rates_same s r state (Sink ext block) y e Input p = ap (λ t. rates_at r Input t p) e
rates_same s r state (Sink ext block) y e Output p = ap (λ t. rates_at r Output t p) e
rates_same s r state (Inner x) y (b, now, e, _, same) Input p =
    ap (λ t. rates_at r Input t p) e ∙ (λ κ. map (same.take κ p) (range_with_len 0 (same.cycle κ)))
rates_same s r state (Inner x) y (b, now, e, _, same) Output p =
    ap (λ t. rates_at r Output t p) e ∙ (λ κ. map (same.put κ p) (range_with_len 0 (same.cycle κ)))

-- a net that begins with what whole periods of another leave
module _ {A B S T : Type 0} {s : Steps A S T} {r : Steps B S T} {n : Netlist A T} (good : IsNet s n)
    {inputs : List (List T)} {k : ℕ → ℕ} (period : IsPeriod (wiring s n).rates k) {rest : NetState T S}
    (is : IsNetState s n inputs k rest) {m : Netlist B T} (begins : IsResumedNet s r n rest m) where
  channel_same : (c : ℕ) → c < length n.wires → channel_of r m.nodes (wire m c) ≡ channel_of s n.nodes (wire n c)
  channel_same c l =
      let from = begins.from c l in
      let to = begins.to c l in
      let put : rates_at r Output (node m (wire m c).from.0) (wire m c).from.1 ≡
      rates_at s Output (node n (wire n c).from.0) (wire n c).from.1 =
      ap (λ e. rates_at r Output (node m e.0) e.1) from ∙
      rates_same s r (get_or rest.states.items (wire n c).from.0 None) (node n (wire n c).from.0)
      (node m (wire n c).from.0) (begins.each (wire n c).from.0 (good.from_in c l).0) Output (wire n c).from.1 in
      let take : rates_at r Input (node m (wire m c).to.0) (wire m c).to.1 ≡
      rates_at s Input (node n (wire n c).to.0) (wire n c).to.1 =
      ap (λ e. rates_at r Input (node m e.0) e.1) to ∙
      rates_same s r (get_or rest.states.items (wire n c).to.0 None) (node n (wire n c).to.0) (node m (wire n c).to.0)
      (begins.each (wire n c).to.0 (good.to_in c l).0) Input (wire n c).to.1 in
      let initial : length (wire m c).initial ≡ length (wire n c).initial =
      ap length (begins.initial c l ∙ is.left.held c l) ∙ held_as_many is.is period c l in
      λ κ. record { from = (from κ).0; put = put κ; to = (to κ).0; take = take κ; initial = initial κ }

  -- so the graph is the same
  pub graph_same : graph_of r m ≡ graph_of s n
  graph_same =
      let nodes = begins.nodes in
      let channels : map (channel_of r m.nodes) m.wires ≡ map (channel_of s n.nodes) n.wires =
      same_lists (map (channel_of r m.nodes) m.wires) (map (channel_of s n.nodes) n.wires)
      (length-map m.wires (channel_of r m.nodes) ∙ (begins.wires ∙ sym (length-map n.wires (channel_of s n.nodes))))
      (λ c d h.
      let here : c < length m.wires = omega (arith, length-map m.wires (channel_of r m.nodes), h) in
      let there : c < length n.wires = omega (arith, begins.wires, here) in
      get_or-map (channel_of r m.nodes) m.wires c no_wire d here
      ∙ (channel_same c there ∙ sym (get_or-map (channel_of s n.nodes) n.wires c no_wire d there))) in
      λ κ. record { actors = nodes κ; channels = channels κ }

-- a net of nodes and links that were made one by one
pub begins_with : {A B S T : Type 0} (s : Steps A S T) (r : Steps B S T) (nodes : List (Node A)) (links : List (Link T))
    (rest : NetState T S) (made : List (Node B)) (joined : List (Link T)) →
    length made ≡ length nodes → ((a : ℕ) → a < length nodes →
    IsResumedNode s r (get_or rest.states.items a None) (get_or nodes a (Sink 0 0)) (get_or made a (Sink 0 0))) →
    length joined ≡ length links →
    ((c : ℕ) → c < length links → get_or (wires joined) c no_wire ≡
    record {
      from = (get_or (wires links) c no_wire).from;
      to = (get_or (wires links) c no_wire).to;
      initial = get_or (lists rest.held.items) c [];
    }) →
    IsResumedNet s r (netlist nodes links) rest (netlist made joined)
begins_with {A} {B} {S} {T} s r nodes links rest made joined nodes_all nodes_each links_all links_each = record {
  nodes = nodes_all;
  each = nodes_each;
  wires = length-wires joined ∙ (links_all ∙ sym (length-wires links));
  from = λ c h. ap (λ (w : Wire T). w.from) (links_each c (low c h));
  to = λ c h. ap (λ (w : Wire T). w.to) (links_each c (low c h));
  initial = λ c h. ap (λ (w : Wire T). w.initial) (links_each c (low c h));
}
  where
    low : (c : ℕ) → c < length (wires links) → c < length links
    low c h = omega (arith, length-wires links)
