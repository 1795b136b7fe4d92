-- Where all ends are synchronized, the state of the ring machine that is made of the ring nodes is quiescent.
use Rattle.std.proofs.Common.{◌≡◌, ◌≢◌, ℕ, zero, suc, ◌+◌, ◌-◌, ◌≤◌, ◌<◌, List, [], ◌∷◌, length, get_or, take, eqb}
use Rattle.std.proofs.Common.{Some, inl, inr, refl, sym, ap, ◌∙◌, subst, arith, length-drop}
use Rattle.std.specs.Global.{Global}
use Rattle.std.proofs.lemmas.Bool.Decides.{eqb_tells}
use Rattle.std.proofs.lemmas.List.{take_all}
use Rattle.std.proofs.lemmas.Option.{same_Some}
use Rattle.rtrb.specs.Ring.{known_items, producer_capacity}
use Rattle.rtrb.specs.declared.producer.Producer.{Producer}
use Rattle.rtrb.specs.declared.consumer.Consumer.{Consumer}
use Rattle.rtrb.specs.declared.AnyItems.{AnyItems}
use Rattle.sdf_graph.specs.Sequences.{times}
use Rattle.sdf_actor.specs.declared.node.Node.{Node}
use Rattle.sdf_actor.specs.declared.node.Node.TheVariants as kind
use Rattle.sdf_actor.specs.Histories.{taken_before}
use Rattle.sdf_actor.specs.NetFaults.{IsAccepted}
use Rattle.sdf_actor.specs.Nets.{node, wire, wiring}
use Rattle.sdf_actor.specs.Steps.{Steps, state_after}
use Rattle.sdf_node.specs.declared.node.NodeState.{NodeState}
use Rattle.sdf_node.specs.Nodes.{IsAt}
use Rattle.sdf_rings.specs.Asks.{IsPlanned}
use Rattle.sdf_rings.specs.Ends.{IsMet}
use Rattle.sdf_rings.specs.MachineLaws.{Idle, resting, state_on, taken_on, IsStateOf, IsWithin, IsQuiescent, HasGrown}
use Rattle.sdf_rings.specs.Quiescence.{IsMadeOf, AreQuiescent}
use Rattle.sdf_rings.specs.Rests.{ring_node_of, state_in, producer_of, consumer_of, RingsValue, AreRings, HaveMet}
use Rattle.sdf_rings.specs.Rests.{AreAtRestAfter}
use Rattle.sdf_rings.specs.Rests.{AreAtRest}
use Rattle.sdf_rings.proofs.Dealt.{bit, times_cons}
use Rattle.sdf_rings.proofs.Plans.{plan_sequence}
use Rattle.sdf_rings.proofs.Quiescent.{quiescent_later, quiescent_is_reached}
use Rattle.sdf_rings.proofs.Reading.{state_is, a_seat, a_ring_node, taker, putter, rest_at}
use Rattle.sdf_rings.proofs.Rests.{are_at_rest}

-- a front of a sequence has as many firings of an actor as one likes, up to all
front_times : (a : ℕ) (w : List ℕ) (m : ℕ) → m ≤ times w a → (i : ℕ) × (i ≤ length w) × (times (take i w) a ≡ m)
front_times a w zero h = (0, omega arith, refl)
front_times a [] (suc m) h = absurd (omega (arith, h))
front_times a (b ∷ w) (suc m) h = elim (eqb_tells b a) as (λ _. (i : ℕ) × (i ≤ length (b ∷ w))
    × (times (take i (b ∷ w)) a ≡ suc m)) [
      | inl e ↦
          let one : bit (eqb b a) ≡ 1 = ap bit e.0 in
          let all = times_cons b w a in
          let ih = front_times a w m (omega (arith, h, all, one)) in
          let more = times_cons b (take ih.0 w) a in
          let is = ih.2 in
          (suc ih.0, (let l = ih.1 in omega (arith, l)), omega (arith, more, one, is))
      | inr e ↦
          let none : bit (eqb b a) ≡ 0 = ap bit e.0 in
          let all = times_cons b w a in
          let ih = front_times a w (suc m) (omega (arith, h, all, none)) in
          let more = times_cons b (take ih.0 w) a in
          let is = ih.2 in
          (suc ih.0, (let l = ih.1 in omega (arith, l)), omega (arith, more, none, is))
    ]

-- what a ring holds, its channel may hold
held_few : {T : Type 0} (p : Producer T Global AnyItems) (x : Consumer T Global AnyItems) → IsMet p x →
    length (known_items x) ≤ producer_capacity p
held_few p x met =
    let one : x.capacity ≡ p.capacity = x.reads.2 ∙ (ap (λ (m : _). m.0) met.pair.2 ∙ sym p.writes.2) in
    omega (arith, x.counts, one)

-- no firings change no state
state_none : {A S T : Type 0} (s : Steps A S T) (x : Node A) (i : ℕ) (state : S) → state_on s x i state [] ≡ state
state_none s (kind.Source ext size) i state = refl
state_none s (kind.Sink ext size) i state = refl
state_none s (kind.Inner x) i state = refl

-- the state of an actor at work is that after all that it took
state_made : {A S T : Type 0} (s : Steps A S T) (inputs : List (List T)) (many : ℕ) (x : Node A) (past : List (List T))
    (w : NodeState T S) (state : S) →
    IsAt s inputs many x past w → ((z : A) → x ≡ kind.Inner z → state_in w ≡ Some state) → IsStateOf s x past state
state_made s inputs many (kind.Source ext size) past w state at is = tt
state_made s inputs many (kind.Sink ext size) past w state at is = tt
state_made s inputs many (kind.Inner z) past w state at is =
    same_Some state (state_after s z past) (sym (is z refl) ∙ state_is s inputs many z past w at)

module _ {A S T : Type 0} {s : Steps A S T} {hand : RingsValue A S T} (r : AreRings s hand)
    (met : HaveMet hand.net hand.seats hand.places)
    (at_rest : AreAtRest s hand.net hand.inputs hand.seats hand.places)
    {q : List ℕ} (accepted : IsAccepted s hand.net q) {order : List ℕ} {cap : ℕ → ℕ}
    (plan : IsPlanned s hand.net hand.seats hand.places order cap) {x : Idle S T}
    (made : IsMadeOf hand.net hand.seats hand.places x) where
  open hand use {net as n, inputs, seats, places}

  at : AreAtRestAfter s n inputs seats places x.done
  at = rest_at r at_rest accepted (λ a e d l. sym (made.dones a e d l))

  -- no more is done than is asked
  pub done_few : (a : ℕ) → a < length n.nodes → x.done a ≤ times order a
  done_few a l =
      let e = a_seat r l in
      let d = a_ring_node r l in
      let ring_node = (r.each (get_or places a (0, 0)).0 e (r.placed.seat_in a l)).each (get_or places a (0, 0)).1 d
      (r.placed.ring_node_in a e l) in
      omega (arith, ring_node.within, made.dones a e d l, plan.asks.asked a e d l)

  module _ (c : ℕ) (l : c < length n.wires) where
    abbrev a : ℕ
    a = (wire n c).from.0

    abbrev b : ℕ
    b = (wire n c).to.0

    list_is : x.lists c ≡ at.history c
    list_is =
        let from = r.is_net.from_in c l in
        let e = a_seat r from.0 in
        let d = a_ring_node r from.0 in
        let y = putter r l e d in
        made.lists c e d y l ∙ at.put c e d y l

    long : length (x.lists c) ≡ (wiring s n).rates.initial c + (wiring s n).rates.produced c (x.done a)
    long = ap length list_is ∙ at.is.lengths c l

    -- from an actor to itself: the firings done are those of a front of the sequence
    own_within : a ≡ b → length (x.lists c) ≤ cap c + (wiring s n).rates.consumed c (x.done b)
    own_within same =
        let front = front_times a order (x.done a) (done_few a (r.is_net.from_in c l).0) in
        let fits = plan.fits front.0 front.1 c l in
        let put : (wiring s n).rates.produced c (times (take front.0 order) a) ≡
        (wiring s n).rates.produced c (x.done a) = ap ((wiring s n).rates.produced c) front.2 in
        let taken : (wiring s n).rates.consumed c (times (take front.0 order) b) ≡
        (wiring s n).rates.consumed c (x.done b) =
        subst (λ z. (wiring s n).rates.consumed c (times (take front.0 order) z) ≡
        (wiring s n).rates.consumed c (x.done z)) same (ap ((wiring s n).rates.consumed c) front.2) in
        omega (arith, long, fits, put, taken)

    -- between two actors: a ring holds no more than it takes
    other_within : a ≢ b → length (x.lists c) ≤ cap c + (wiring s n).rates.consumed c (x.done b)
    other_within apart =
        let to = r.is_net.to_in c l in
        let from = r.is_net.from_in c l in
        let eb = a_seat r to.0 in
        let db = a_ring_node r to.0 in
        let w = taker r l eb db in
        let y = putter r l eb db in
        let few = held_few (producer_of n seats places eb db y c) (consumer_of n seats places eb db w c)
        (met c eb db w y l) in
        let room = (plan.capacities c eb db y l).between_two apart in
        let left = ap length (at.left c eb db w l) ∙ length-drop ((wiring s n).rates.consumed c (x.done b))
        (at.history c) in
        let same = ap length list_is in
        omega (arith, few, room, left, same)

    within_one : length (x.lists c) ≤ cap c + (wiring s n).rates.consumed c (x.done b)
    within_one = elim (eqb_tells a b) as (λ _. length (x.lists c) ≤ cap c + (wiring s n).rates.consumed c (x.done b))
        [ inl e ↦ own_within e.1 | inr e ↦ other_within e.1 ]

  pub within : IsWithin s n cap (resting s n x)
  within c l = within_one c l

  -- the same with the lists of the history
  abbrev past : Idle S T
  past = record { done = x.done; states = x.states; lists = at.history }

  past_quiet : IsQuiescent s n inputs cap past
  past_quiet = record {
    history = at.is;
    states = λ a l.
        let e = a_seat r l in
        let d = a_ring_node r l in
        let z = ring_node_of n seats places e d a in
        state_made s inputs z.asked (node n a) (taken_before (wiring s n) at.history a (x.done a)) z.state (x.states a)
        (at.states a e d l) (λ y is. made.states a y e d l is);
    within = λ c l. subst (λ (v : List T). length v ≤ cap c + (wiring s n).rates.consumed c (x.done (wire n c).to.0))
        (list_is c l) (within c l);
  }

  grown : HasGrown s n inputs past x
  grown = record {
    more = λ a l. omega arith;
    kept = λ c l. sym (ap (take (length (at.history c))) (list_is c l)
        ∙ take_all (length (at.history c)) (at.history c) (omega arith));
    lengths = λ c l. long c l;
    enough = λ c l. omega (arith, long c l, at.is.enough c l);
    states = λ a l.
        let none : x.done a - x.done a ≡ 0 = omega arith in
        sym (ap (λ j. state_on s (node n a) (x.done a) (x.states a) (taken_on (wiring s n) x.lists a (x.done a) j)) none
        ∙ state_none s (node n a) (x.done a) (x.states a));
    puts = λ a j l h. absurd (omega (arith, h));
  }

  pub quiet : IsQuiescent s n inputs cap x
  quiet = quiescent_later s n r.is_net inputs cap past x past_quiet grown within

-- where all ends are synchronized, the machine's state that is made of the ring nodes is quiescent, and a run leads to
-- it
pub are_quiescent : {A S T : Type 0} {s : Steps A S T} {hand : RingsValue A S T} → AreRings s hand →
    HaveMet hand.net hand.seats hand.places → {q : List ℕ} → IsAccepted s hand.net q → AreQuiescent s hand
are_quiescent {s} {hand} rings met accepted p b x plan planned made =
    let rest = are_at_rest rings met in
    let is = quiet rings met rest accepted planned made in
    let few = done_few rings met rest accepted planned made in
    let seq = plan_sequence s hand.net p b plan in
    (is, quiescent_is_reached s hand.net hand.inputs p b x plan is (λ a l. omega (arith, few a l, seq.counts a l)))
