-- Where all ends are synchronized, the nodes' own equations are a history.
use Rattle.std.proofs.Common.{◌≡◌, ℕ, ◌≤◌, ◌<◌, List, [], ◌++◌, length, get_or, take, drop, Bool, true, false, cond}
use Rattle.std.proofs.Common.{eqb, refl, sym, ap, ◌∙◌, subst, arith, inl, inr, ◌⊎◌, length-append, take_at, drop_at}
use Rattle.std.specs.Global.{Global}
use Rattle.std.proofs.lemmas.Bool.{cases_lt, eqb-true, eq-eqb, cond-true}
use Rattle.std.proofs.lemmas.List.{get_or_default, length-take-le}
use Rattle.rtrb.specs.Ring.{sent, received, known_items}
use Rattle.rtrb.specs.declared.producer.Producer.{Producer}
use Rattle.rtrb.specs.declared.consumer.Consumer.{Consumer}
use Rattle.rtrb.specs.declared.AnyItems.{AnyItems}
use Rattle.sdf_actor.specs.Steps.{Steps}
use Rattle.sdf_actor.specs.Histories.{taken_before}
use Rattle.sdf_actor.specs.Nets.{wire, node, wiring, answers}
use Rattle.sdf_actor.specs.Locals.{IsLocal}
use Rattle.sdf_actor.proofs.Theorems.{locals_meet, taken_stays}
use Rattle.sdf_node.specs.Nodes.{IsAt}
use Rattle.sdf_rings.specs.declared.seat.ring_node.RingNode.{RingNode}
use Rattle.sdf_rings.specs.declared.seat.Seat.{Seat}
use Rattle.sdf_rings.specs.RingNodes.{IsRingNode}
use Rattle.sdf_rings.specs.Rests.{ring_node_of, producer_of, consumer_of, RingsValue, HaveMet, AreAtRestAfter, AreRings}
use Rattle.sdf_rings.specs.Rests.{AreAtRest}
use Rattle.sdf_rings.proofs.Looking.{vec_in}
use Rattle.sdf_rings.proofs.Known.{as_local, sent_at, received_at}

-- a front, or nothing, begins a list that goes on so
begins : {X : Type 0} (t : Bool) (m : ℕ) (xs ys : List X) → (t ≡ true → (m ≤ length xs) × (take m xs ≡ take m ys)) →
    cond t (take m xs) [] ≡ take (length (cond t (take m xs) [])) ys
begins true m xs ys h = let is = h refl in is.1 ∙ ap (λ i. take i ys) (sym (length-take-le m xs is.0))
begins false m xs ys h = refl

module _ {A S T : Type 0} {s : Steps A S T} {hand : RingsValue A S T} (r : AreRings s hand)
    (met : HaveMet hand.net hand.seats hand.places)
    -- a seat, a ring node and ends to read lists with
    (e0 : Seat A T S) (d0 : RingNode A T S) (x0 : Consumer T Global AnyItems) (y0 : Producer T Global AnyItems)
    {done : ℕ → ℕ} (counts : (a : ℕ) → a < length hand.net.nodes →
    (ring_node_of hand.net hand.seats hand.places e0 d0 a).done ≡ done a) where
  open hand use {net as n, inputs, seats, places}

  ring_node : (a : ℕ) → a < length n.nodes → IsRingNode s n inputs (ring_node_of n seats places e0 d0 a)
  ring_node a l = (r.each (get_or places a (0, 0)).0 e0 (r.placed.seat_in a l)).each (get_or places a (0, 0)).1 d0
      (r.placed.ring_node_in a e0 l)

  -- what a node knows of its channels
  abbrev pick : (a : ℕ) → (a < length n.nodes) ⊎ (length n.nodes ≤ a) → ℕ → List T
  pick a (inl l) c = (ring_node a l).own c
  pick a (inr l) c = []

  abbrev own : ℕ → ℕ → List T
  own a = pick a (cases_lt a (length n.nodes))

  own_local : (a : ℕ) → a < length n.nodes → (t : (a < length n.nodes) ⊎ (length n.nodes ≤ a)) →
      IsLocal (wiring s n) (answers s n inputs) a (done a) (pick a t)
  own_local a l (inl h) = subst (λ i. IsLocal (wiring s n) (answers s n inputs) a i (ring_node a h).own) (counts a l)
      (as_local r.is_net (ring_node a h) (r.placed.is a e0 d0 h))
  own_local a l (inr h) = absurd (omega arith)

  own_sent : (a : ℕ) → a < length n.nodes → (t : (a < length n.nodes) ⊎ (length n.nodes ≤ a)) →
      (c : ℕ) (y : Producer T Global AnyItems) → c < length n.wires → (wire n c).from.0 ≡ a →
      sent (get_or (ring_node_of n seats places e0 d0 a).outs.items (wire n c).from.1 y) ≡ pick a t c
  own_sent a l (inl h) c y m e = sent_at r.is_net (ring_node a h) (r.placed.is a e0 d0 h) c y m e
  own_sent a l (inr h) c y m e = absurd (omega arith)

  own_received : (a : ℕ) → a < length n.nodes → (t : (a < length n.nodes) ⊎ (length n.nodes ≤ a)) →
      (c : ℕ) (x : Consumer T Global AnyItems) → c < length n.wires → (wire n c).to.0 ≡ a →
      received (get_or (ring_node_of n seats places e0 d0 a).ins.items (wire n c).to.1 x) ≡
      take ((wiring s n).rates.consumed c (done a)) (pick a t c)
  own_received a l (inl h) c x m e = received_at r.is_net (ring_node a h) (r.placed.is a e0 d0 h) c x m e
      ∙ ap (λ i. take ((wiring s n).rates.consumed c i) ((ring_node a h).own c)) (counts a l)
  own_received a l (inr h) c x m e = absurd (omega arith)

  own_at : (a : ℕ) → a < length n.nodes → (t : (a < length n.nodes) ⊎ (length n.nodes ≤ a)) →
      IsAt s inputs (ring_node_of n seats places e0 d0 a).asked (node n a)
      (taken_before (wiring s n) (pick a t) a (done a)) (ring_node_of n seats places e0 d0 a).state
  own_at a l (inl h) =
      let z = ring_node_of n seats places e0 d0 a in
      subst (λ i. IsAt s inputs z.asked (node n a) (taken_before (wiring s n) (ring_node a h).own a i)
      z.state) (counts a l)
      (subst (λ b. IsAt s inputs z.asked (node n b) (taken_before (wiring s n) (ring_node a h).own b z.done) z.state)
      (r.placed.is a e0 d0 h) (ring_node a h).at)
  own_at a l (inr h) = absurd (omega arith)

  module _ (c : ℕ) (l : c < length n.wires) where
    from_known : (wire n c).from.0 < length n.nodes
    from_known = (r.is_net.from_in c l).0

    to_known : (wire n c).to.0 < length n.nodes
    to_known = (r.is_net.to_in c l).0

    put_is : (y : Producer T Global AnyItems) → sent (producer_of n seats places e0 d0 y c) ≡ own (wire n c).from.0 c
    put_is y = own_sent (wire n c).from.0 from_known (cases_lt (wire n c).from.0 (length n.nodes)) c y l refl

    got_is : (x : Consumer T Global AnyItems) → received (consumer_of n seats places e0 d0 x c) ≡
        take ((wiring s n).rates.consumed c (done (wire n c).to.0)) (own (wire n c).to.0 c)
    got_is x = own_received (wire n c).to.0 to_known (cases_lt (wire n c).to.0 (length n.nodes)) c x l refl

    got_long : (x : Consumer T Global AnyItems) → length (received (consumer_of n seats places e0 d0 x c)) ≡
        (wiring s n).rates.consumed c (done (wire n c).to.0)
    got_long x =
        ap length (got_is x) ∙
        length-take-le ((wiring s n).rates.consumed c (done (wire n c).to.0)) (own (wire n c).to.0 c)
        ((own_local (wire n c).to.0 to_known (cases_lt (wire n c).to.0 (length n.nodes))).got c l refl)

    whole : (x : Consumer T Global AnyItems) (y : Producer T Global AnyItems) →
        received (consumer_of n seats places e0 d0 x c) ++ known_items (consumer_of n seats places e0 d0 x c) ≡
        own (wire n c).from.0 c
    whole x y = (met c e0 d0 x y l).all_known ∙ put_is y

    enough : (wiring s n).rates.consumed c (done (wire n c).to.0) ≤ length (own (wire n c).from.0 c)
    enough =
        let a = ap length (whole x0 y0) in
        let b = length-append (received (consumer_of n seats places e0 d0 x0 c))
        (known_items (consumer_of n seats places e0 d0 x0 c)) in
        let d = got_long x0 in
        omega arith

    meets : take ((wiring s n).rates.consumed c (done (wire n c).to.0)) (own (wire n c).to.0 c) ≡
        take ((wiring s n).rates.consumed c (done (wire n c).to.0)) (own (wire n c).from.0 c)
    meets =
        sym (got_is x0) ∙ (sym (take_at (received (consumer_of n seats places e0 d0 x0 c))
        (known_items (consumer_of n seats places e0 d0 x0 c))
        ((wiring s n).rates.consumed c (done (wire n c).to.0)) (got_long x0)) ∙
        ap (take ((wiring s n).rates.consumed c (done (wire n c).to.0))) (whole x0 y0))

    left_is : (x : Consumer T Global AnyItems) → known_items (consumer_of n seats places e0 d0 x c) ≡
        drop ((wiring s n).rates.consumed c (done (wire n c).to.0)) (own (wire n c).from.0 c)
    left_is x =
        sym (drop_at (received (consumer_of n seats places e0 d0 x c))
        (known_items (consumer_of n seats places e0 d0 x c))
        ((wiring s n).rates.consumed c (done (wire n c).to.0)) (got_long x)) ∙
        ap (drop ((wiring s n).rates.consumed c (done (wire n c).to.0))) (whole x y0)

  -- what a node took is what was put there
  module _ (a : ℕ) (l : a < length n.nodes) where
    abbrev front : ℕ → List T
    front c = cond (eqb (wire n c).to.0 a) (take ((wiring s n).rates.consumed c (done a)) (own a c)) []

    got : (c : ℕ) → c < length n.wires → (wire n c).to.0 ≡ a →
        (wiring s n).rates.consumed c (done a) ≤ length (own a c)
    got c m e = (own_local a l (cases_lt a (length n.nodes))).got c m e

    front_long : (c : ℕ) → c < length n.wires → (wire n c).to.0 ≡ a →
        (wiring s n).rates.consumed c (done a) ≤ length (front c)
    front_long c m e =
        let is = ap length (cond-true (eqb (wire n c).to.0 a)
        (take ((wiring s n).rates.consumed c (done a)) (own a c)) [] (eq-eqb (wire n c).to.0 a e)) in
        let long = length-take-le ((wiring s n).rates.consumed c (done a)) (own a c) (got c m e) in
        omega arith

    same_taken : taken_before (wiring s n) (own a) a (done a) ≡
        taken_before (wiring s n) (λ c. own (wire n c).from.0 c) a (done a)
    same_taken =
        sym (taken_stays s n front (own a) a (done a) r.is_net l front_long
        (λ c m. begins (eqb (wire n c).to.0 a) ((wiring s n).rates.consumed c (done a)) (own a c) (own a c)
        (λ t. (got c m (eqb-true (wire n c).to.0 a t), refl)))) ∙
        taken_stays s n front (λ c. own (wire n c).from.0 c) a (done a) r.is_net l front_long
        (λ c m. begins (eqb (wire n c).to.0 a) ((wiring s n).rates.consumed c (done a)) (own a c)
        (own (wire n c).from.0 c)
        (λ t. let e = eqb-true (wire n c).to.0 a t in (
          got c m e,
          subst (λ b. take ((wiring s n).rates.consumed c (done b)) (own b c) ≡
              take ((wiring s n).rates.consumed c (done b)) (own (wire n c).from.0 c)) e (meets c m),
        )))

  same_ring_node : (a : ℕ) (e : Seat A T S) (d : RingNode A T S) → a < length n.nodes →
      ring_node_of n seats places e d a ≡ ring_node_of n seats places e0 d0 a
  same_ring_node a e d l =
      let seat : get_or seats (get_or places a (0, 0)).0 e ≡ get_or seats (get_or places a (0, 0)).0 e0 =
      get_or_default seats (get_or places a (0, 0)).0 e e0 (r.placed.seat_in a l) in
      ap (λ (z : Seat A T S). get_or z.ring_nodes.items (get_or places a (0, 0)).1 d) seat ∙
      get_or_default (get_or seats (get_or places a (0, 0)).0 e0).ring_nodes.items (get_or places a (0, 0)).1 d d0
      (vec_in (get_or seats (get_or places a (0, 0)).0 e0).ring_nodes (get_or places a (0, 0)).1
      (r.placed.ring_node_in a e0 l))

  pub is_rest : AreAtRestAfter s n inputs seats places done
  is_rest = record {
    history = λ c. own (wire n c).from.0 c;
    is = locals_meet s n inputs done own r.is_net (λ a l. own_local a l (cases_lt a (length n.nodes))) enough meets;
    dones = λ a e d l. ap (λ (z : RingNode A T S). z.done) (same_ring_node a e d l) ∙ counts a l;
    put = λ c e d y l. ap (λ (z : RingNode A T S). sent (get_or z.outs.items (wire n c).from.1 y))
        (same_ring_node (wire n c).from.0 e d (from_known c l)) ∙ put_is c l y;
    left = λ c e d x l. ap (λ (z : RingNode A T S). known_items (get_or z.ins.items (wire n c).to.1 x))
        (same_ring_node (wire n c).to.0 e d (to_known c l)) ∙ left_is c l x;
    states = λ a e d l. subst (λ (z : RingNode A T S). IsAt s inputs z.asked (node n a)
        (taken_before (wiring s n) (λ c. own (wire n c).from.0 c) a (done a)) z.state) (sym (same_ring_node a e d l))
        (subst (λ past. IsAt s inputs (ring_node_of n seats places e0 d0 a).asked (node n a) past
        (ring_node_of n seats places e0 d0 a).state) (same_taken a l) (own_at a l (cases_lt a (length n.nodes))));
  }

-- where all ends are synchronized, each ring node is at rest
pub are_at_rest : {A S T : Type 0} {s : Steps A S T} {hand : RingsValue A S T} → AreRings s hand →
    HaveMet hand.net hand.seats hand.places → AreAtRest s hand.net hand.inputs hand.seats hand.places
are_at_rest rings met e d x y k counts = is_rest rings met e d x y counts
