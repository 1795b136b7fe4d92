-- Where all ends are synchronized and firings are left, the first firing of some seat is known to be possible.
use Rattle.std.proofs.Common.{◌≡◌, ℕ, ◌+◌, ◌-◌, ◌≤◌, ◌<◌, ◌⊎◌, List, length, get_or, take, map, cond, eqb, refl, sym}
use Rattle.std.proofs.Common.{ap, ◌∙◌, subst, arith, inl, inr}
use Rattle.std.specs.Global.{Global}
use Rattle.std.proofs.lemmas.Bool.{cases_eq, ne_eqb, cond-false}
use Rattle.std.proofs.lemmas.List.{get_or_default, get_or-map, get_or-take, take-map, take_all, length-take-le}
use Rattle.std.proofs.lemmas.List.{length-map, length-drop}
use Rattle.std.proofs.lemmas.Slice.{between_from_start}
use Rattle.rtrb.specs.Ring.{known_items, known_free}
use Rattle.rtrb.specs.declared.producer.Producer.{Producer}
use Rattle.rtrb.specs.declared.consumer.Consumer.{Consumer}
use Rattle.rtrb.specs.declared.AnyItems.{AnyItems}
use Rattle.sdf_graph.specs.Sequences.{times, IsEnabled, tokens}
use Rattle.sdf_prec.specs.Next.{HasRoom}
use Rattle.sdf_prec.proofs.Theorems.{next_may_fire}
use Rattle.sdf_actor.specs.Steps.{Steps}
use Rattle.sdf_actor.specs.Nets.{wire, node, wiring, inputs_of, outputs_of, consumed_at, produced_at, to_port}
use Rattle.sdf_actor.specs.Nets.{from_port}
use Rattle.sdf_actor.specs.declared.sides.Side.TheVariants.{Input, Output}
use Rattle.sdf_actor.proofs.Theorems.{nets_are_wired, ports_have_channels}
use Rattle.sdf_queues.specs.Sizes.{sizes}
use Rattle.sdf_rings.specs.declared.seat.ring_node.RingNode.{RingNode}
use Rattle.sdf_rings.specs.declared.seat.Seat.{Seat}
use Rattle.sdf_rings.specs.RingNodes.{CanFire}
use Rattle.sdf_rings.specs.Seats.{CanFireFirst, times_between}
use Rattle.sdf_rings.specs.Rests.{ring_node_of, producer_of, consumer_of, RingsValue, AreRings, HaveMet, AreAtRest}
use Rattle.sdf_rings.specs.Asks.{IsPlanned, SomeFirst}
use Rattle.sdf_rings.specs.Totals.{total_left}
use Rattle.sdf_rings.proofs.Dealt.{part, done, IsFirst, first_left, part_times, part_all, times_map}
use Rattle.sdf_rings.proofs.Totals.{which_left}
use Rattle.sdf_rings.proofs.Times.{times_to}
use Rattle.sdf_rings.proofs.Looking.{vec_in}
use Rattle.sdf_rings.proofs.Syncs.{some}
use Rattle.sdf_rings.proofs.Placed.{outs_of, ins_of, one_node}

module _ {A S T : Type 0} {s : Steps A S T} {hand : RingsValue A S T} (r : AreRings s hand)
    (met : HaveMet hand.net hand.seats hand.places)
    (at_rest : AreAtRest s hand.net hand.inputs hand.seats hand.places)
    {order : List ℕ} {cap : ℕ → ℕ} (plan : IsPlanned s hand.net hand.seats hand.places order cap) where
  open hand use {net as n, inputs, seats, places}

  abbrev home : ℕ → ℕ
  home a = (get_or places a (0, 0)).0

  abbrev ring_node : ℕ → ℕ
  ring_node a = (get_or places a (0, 0)).1

  module _ (e0 : Seat A T S) where
    abbrev next : ℕ → ℕ
    next i = (get_or seats i e0).next

    -- the firings done by the sequence
    abbrev past : ℕ → ℕ
    past b = done home order next b

    part_apart : (b : ℕ) → RingNode A T S → b < length n.nodes → (j : ℕ) → j < length (part home order (home b)) →
        ring_node (get_or (part home order (home b)) j 0) ≡ ring_node b → get_or (part home order (home b)) j 0 ≡ b
    part_apart b d l j h e =
        let is = part_all home order (home b) (λ a. a < length n.nodes) (λ i m. (plan.admissible i m).0) j h in
        one_node r.placed e0 d is.0 l is.1 e

    -- so many of the firings of b stand in the first m of its seat's list
    counted : (b : ℕ) → RingNode A T S → b < length n.nodes → (m : ℕ) → m ≤ length (part home order (home b)) →
        times_between (ring_node b) (get_or seats (home b) e0).left 0 m ≡ times (take m (part home order (home b))) b
    counted b d l m fits =
        let P = part home order (home b) in
        let is : (get_or seats (home b) e0).left ≡ map ring_node P =
        plan.asks.lists (home b) e0 (r.placed.seat_in b l) in
        ap (λ xs. times xs (ring_node b)) (between_from_start (get_or seats (home b) e0).left m ∙ ap (take m) is
        ∙ take-map ring_node m P) ∙
        times_map ring_node b (take m P) (λ j h e.
        let len = length-take-le m P fits in
        let same : get_or (take m P) j 0 ≡ get_or P j 0 = get_or-take m P j 0 (omega arith) in
        same ∙ part_apart b d l j (omega arith) (ap ring_node (sym same) ∙ e))

    module _ (d0 : RingNode A T S) where
      -- the firings done
      abbrev k : ℕ → ℕ
      k a = (ring_node_of n seats places e0 d0 a).done

      done_is : (b : ℕ) → b < length n.nodes → k b ≡ past b
      done_is b l =
          let P = part home order (home b) in
          let x = get_or seats (home b) e0 in
          let ok = r.each (home b) e0 (r.placed.seat_in b l) in
          let is : x.left ≡ map ring_node P = plan.asks.lists (home b) e0 (r.placed.seat_in b l) in
          let len : length x.left ≡ length P = ap (λ (xs : List ℕ). length xs) is ∙ length-map P ring_node in
          let fits = ok.next_fits in
          let c = ok.counts (ring_node b) d0 (r.placed.ring_node_in b e0 l) in
          let all = times_to (ring_node b) x.left 0 x.next (length x.left) (omega arith) (omega arith)
          (omega arith) in
          let some_done = counted b d0 l x.next (omega arith) in
          let every = counted b d0 l (length x.left) (omega arith) in
          let whole = ap (λ xs. times xs b) (take_all (length x.left) P (omega arith))
          ∙ part_times home order (home b) b refl in
          let asked = plan.asks.asked b e0 d0 l in
          omega arith

      module _ (f : IsFirst home order next) where
        abbrev first : ℕ
        first = get_or order f.at 0

        known : first < length n.nodes
        known = (plan.admissible f.at f.is.within).0

        fires : (past first ≡ times (take f.at order) first) × IsEnabled (wiring s n).rates past first
            × HasRoom (wiring s n).rates cap past first
        fires = next_may_fire (wiring s n).rates past cap order f.at (nets_are_wired s n r.is_net).sound plan.admissible
            plan.fits f.is

        -- a channel holds what was put on it and not taken
        held : (c : ℕ) (x : Consumer T Global AnyItems) (y : Producer T Global AnyItems) → c < length n.wires →
            length (known_items (consumer_of n seats places e0 d0 x c))
            + (wiring s n).rates.consumed c (k (wire n c).to.0) ≡
            (wiring s n).rates.initial c + (wiring s n).rates.produced c (k (wire n c).from.0)
        held c x y l =
            let rest = at_rest e0 d0 x y k (λ a m. refl) in
            let left = ap length (rest.left c e0 d0 x l)
            ∙ length-drop ((wiring s n).rates.consumed c (k (wire n c).to.0)) (rest.history c) in
            let long = rest.is.lengths c l in
            let enough = rest.is.enough c l in
            omega arith

        -- what channel c holds where the first is its target
        hold_at : (c : ℕ) (x : Consumer T Global AnyItems) → c < length n.wires → (wire n c).to.0 ≡ first →
            (wiring s n).rates.consumed c (k (wire n c).to.0 + 1) - (wiring s n).rates.consumed c (k (wire n c).to.0) ≤
            length (known_items (consumer_of n seats places e0 d0 x c))
        hold_at c x l e =
            let from = r.is_net.from_in c l in
            let to = r.is_net.to_in c l in
            let outs = ring_node_of n seats places e0 d0 (wire n c).from.0 in
            let all = outs_of r e0 d0 from.0 in
            let y = some outs.outs.items (wire n c).from.1
            (vec_in outs.outs (wire n c).from.1 (omega (arith, from.1))) in
            let there = held c x y l in
            let can = fires.1 c l e in
            let t : (wiring s n).rates.consumed c (k (wire n c).to.0 + 1) ≡
            (wiring s n).rates.consumed c (past (wire n c).to.0 + 1) =
            ap (λ (i : ℕ). (wiring s n).rates.consumed c (i + 1)) (done_is (wire n c).to.0 to.0) in
            let u : (wiring s n).rates.produced c (k (wire n c).from.0) ≡
            (wiring s n).rates.produced c (past (wire n c).from.0) =
            ap ((wiring s n).rates.produced c) (done_is (wire n c).from.0 from.0) in
            omega arith

        -- and what room it has where the first is its source
        room_at : (c : ℕ) (y : Producer T Global AnyItems) → c < length n.wires → (wire n c).from.0 ≡ first →
            (wiring s n).rates.produced c (k (wire n c).from.0 + 1)
            - (wiring s n).rates.produced c (k (wire n c).from.0) ≤
            known_free (producer_of n seats places e0 d0 y c)
        room_at c y l e = go (cases_eq (wire n c).from.0 (wire n c).to.0)
          where
            from : (wire n c).from.0 < length n.nodes
            from = (r.is_net.from_in c l).0

            to : (wire n c).to.0 < length n.nodes
            to = (r.is_net.to_in c l).0

            x : Consumer T Global AnyItems
            x =
                let ins = (ring_node_of n seats places e0 d0 (wire n c).to.0).ins in
                let all = ins_of r e0 d0 to in
                some ins.items (wire n c).to.1 (vec_in ins (wire n c).to.1 (omega (arith, (r.is_net.to_in c l).1)))

            go : ((wire n c).from.0 ≡ (wire n c).to.0) ⊎ ((wire n c).from.0 ≡ (wire n c).to.0 → ⊥) →
                (wiring s n).rates.produced c (k (wire n c).from.0 + 1)
                - (wiring s n).rates.produced c (k (wire n c).from.0) ≤
                known_free (producer_of n seats places e0 d0 y c)
            go (inr ne) =
                let there = held c x y l in
                let can = fires.2 c l e in
                let free = (met c e0 d0 x y l).all_free in
                let size = (plan.capacities c e0 d0 y l).between_two ne in
                let other : eqb (wire n c).to.0 first ≡ _ = ne_eqb (wire n c).to.0 first (λ z. ne (e ∙ sym z)) in
                let drawn : (wiring s n).rates.consumed c
                (cond (eqb (wire n c).to.0 first) (past first + 1) (past (wire n c).to.0)) ≡
                (wiring s n).rates.consumed c (k (wire n c).to.0) =
                ap ((wiring s n).rates.consumed c) (cond-false (eqb (wire n c).to.0 first) (past first + 1)
                (past (wire n c).to.0) other ∙ sym (done_is (wire n c).to.0 to)) in
                let t : (wiring s n).rates.produced c (k (wire n c).from.0 + 1) ≡
                (wiring s n).rates.produced c (past first + 1) =
                ap (λ (i : ℕ). (wiring s n).rates.produced c (i + 1))
                (done_is (wire n c).from.0 from ∙ ap past e) in
                omega arith
            -- one to itself has room for a block more than it may hold
            go (inl own) =
                let there = held c x y l in
                let free = (met c e0 d0 x y l).all_free in
                let size = (plan.capacities c e0 d0 y l).own own in
                let most = size.1.above (k (wire n c).from.0) in
                let places_are = size.2 in
                let fits : tokens (wiring s n).rates (times (take f.at order)) c ≤ cap c =
                plan.fits f.at (let h = f.is.within in omega arith) c l in
                let here : k (wire n c).from.0 ≡ times (take f.at order) (wire n c).from.0 =
                done_is (wire n c).from.0 from ∙ subst (λ b. past b ≡ times (take f.at order) b) (sym e) fires.0 in
                let put : (wiring s n).rates.produced c (k (wire n c).from.0) ≡
                (wiring s n).rates.produced c (times (take f.at order) (wire n c).from.0) =
                ap ((wiring s n).rates.produced c) here in
                let taken : (wiring s n).rates.consumed c (k (wire n c).to.0) ≡
                (wiring s n).rates.consumed c (times (take f.at order) (wire n c).to.0) =
                ap ((wiring s n).rates.consumed c) (subst (λ b. k b ≡ times (take f.at order) b) own here) in
                omega arith

        can_fire : CanFire s n (ring_node_of n seats places e0 d0 first)
        can_fire =
            let z = ring_node_of n seats places e0 d0 first in
            let is : z.actor ≡ first = r.placed.is first e0 d0 known in
            record {
              holds = λ p x h.
                  let l : p < inputs_of s (node n first) = let all =
                  ins_of r e0 d0 known in omega arith in
                  let c : ℕ = to_port n first p in
                  let at = (ports_have_channels s n first p r.is_net known).0 l in
                  let h' = hold_at c x (r.is_net.to_all first p known l) at.0 in
                  let moved : consumed_at s (node n first) p (k first + 1) - consumed_at s (node n first) p (k first) ≤
                  length (known_items (get_or z.ins.items p x)) =
                  subst (λ (q : ℕ × ℕ). consumed_at s (node n q.0) q.1 (k q.0 + 1)
                  - consumed_at s (node n q.0) q.1 (k q.0) ≤
                  length (known_items (get_or (ring_node_of n seats places e0 d0 q.0).ins.items q.1 x)))
                  (λ i. (at.0 i, at.1 i)) h' in
                  subst (λ (b : ℕ). sizes s Input (node n b) z.done p ≤ length (known_items (get_or z.ins.items p x)))
                  (sym is) moved;
              has_room = λ p y h.
                  let l : p < outputs_of s (node n first) = let all =
                  outs_of r e0 d0 known in omega arith in
                  let c : ℕ = from_port n first p in
                  let at = (ports_have_channels s n first p r.is_net known).1 l in
                  let h' = room_at c y (r.is_net.from_all first p known l) at.0 in
                  let moved : produced_at s (node n first) p (k first + 1) - produced_at s (node n first) p (k first) ≤
                  known_free (get_or z.outs.items p y) =
                  subst (λ (q : ℕ × ℕ). produced_at s (node n q.0) q.1 (k q.0 + 1)
                  - produced_at s (node n q.0) q.1 (k q.0) ≤
                  known_free (get_or (ring_node_of n seats places e0 d0 q.0).outs.items q.1 y))
                  (λ i. (at.0 i, at.1 i)) h' in
                  subst (λ (b : ℕ). sizes s Output (node n b) z.done p ≤ known_free (get_or z.outs.items p y))
                  (sym is) moved;
            }

    -- the next in its seat's list is its ring node
    named : (f : IsFirst home order next) → get_or (get_or seats (home (get_or order f.at 0)) e0).left
        (next (home (get_or order f.at 0))) 0 ≡ ring_node (get_or order f.at 0)
    named f =
        let a : ℕ = get_or order f.at 0 in
        let l = (plan.admissible f.at f.is.within).0 in
        let P = part home order (home a) in
        ap (λ xs. get_or xs (next (home a)) 0) (plan.asks.lists (home a) e0 (r.placed.seat_in a l))
        ∙ get_or-map ring_node P (next (home a)) 0 0 f.left ∙ ap ring_node f.names

    some_at : IsFirst home order next → SomeFirst s n seats
    some_at f =
        let a : ℕ = get_or order f.at 0 in
        let l = (plan.admissible f.at f.is.within).0 in
        let inside = r.placed.seat_in a l in
        let P = part home order (home a) in
        let same : (e : Seat A T S) → get_or seats (home a) e0 ≡ get_or seats (home a) e =
        λ e. get_or_default seats (home a) e0 e inside in
        let len : length (get_or seats (home a) e0).left ≡ length P =
        ap (λ (xs : List ℕ). length xs) (plan.asks.lists (home a) e0 inside) ∙ length-map P ring_node in
        let more : (get_or seats (home a) e0).next < length (get_or seats (home a) e0).left = let h = f.left in
        omega arith in
        record {
          which = home a;
          which_in = inside;
          which_left = λ e. subst (λ (z : Seat A T S). z.next < length z.left) (same e) more;
          which_can = λ e. subst (CanFireFirst s n) (same e)
              (λ d. subst (λ (j : ℕ). CanFire s n (get_or (get_or seats (home a) e0).ring_nodes.items j d))
              (sym (named f))
              (can_fire d f));
        }

  pub can_go_on : 0 < total_left seats → SomeFirst s n seats
  can_go_on more =
      let w = which_left seats more in
      let e0 = some seats w.0 w.1 in
      let P = part home order w.0 in
      let len : length (get_or seats w.0 e0).left ≡ length P =
      ap (λ (xs : List ℕ). length xs) (plan.asks.lists w.0 e0 w.1) ∙ length-map P ring_node in
      let h = w.2 e0 in
      some_at e0 (first_left home order (λ i. (get_or seats i e0).next) w.0 (omega arith))
