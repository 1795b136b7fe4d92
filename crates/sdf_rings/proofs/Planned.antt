-- What is asked stays so while seats work.
use Rattle.std.proofs.Common.{◌≡◌, ℕ, ◌<◌, List, length, get_or, sym, ◌∙◌, subst, arith}
use Rattle.sdf_actor.specs.Steps.{Steps}
use Rattle.sdf_actor.specs.Nets.{wire, wiring}
use Rattle.sdf_rings.specs.declared.seat.Seat.{Seat}
use Rattle.sdf_rings.specs.Seats.{HasWorked}
use Rattle.sdf_rings.specs.Rests.{ring_node_of, RingsValue, AreRings}
use Rattle.sdf_rings.specs.Asks.{IsRoomOf, IsPlanned}
use Rattle.sdf_rings.proofs.Looking.{vec_in}
use Rattle.sdf_rings.proofs.Placed.{outs_of}

module _ {A S T : Type 0} {s : Steps A S T} {hand : RingsValue A S T} (r : AreRings s hand)
    (new : List (Seat A T S)) where
  open hand use {net as n, inputs, seats, places}

  pub planned_kept : length new ≡ length seats →
      ((j : ℕ) (e : Seat A T S) → j < length seats → HasWorked s n (get_or seats j e) (get_or new j e)) →
      {order : List ℕ} {cap : ℕ → ℕ} → IsPlanned s n seats places order cap → IsPlanned s n new places order cap
  planned_kept len worked {order} {cap} p = record {
    admissible = p.admissible;
    fits = p.fits;
    asks = record {
      lists = λ i e h. let l : i < length seats = omega arith in (worked i e l).left_kept ∙ p.asks.lists i e l;
      asked = λ a e d l. ((worked (get_or places a (0, 0)).0 e (r.placed.seat_in a l)).moved (get_or places a (0, 0)).1
          d (r.placed.ring_node_in a e l)).asked_kept ∙ p.asks.asked a e d l;
    };
    capacities = λ c e d y l.
        let from = r.is_net.from_in c l in
        let a : ℕ = (wire n c).from.0 in
        let outs = outs_of r e d from.0 in
        let gave = ((worked (get_or places a (0, 0)).0 e (r.placed.seat_in a from.0)).moved (get_or places a (0, 0)).1 d
        (r.placed.ring_node_in a e from.0)).gave (wire n c).from.1 y
        (vec_in (ring_node_of n seats places e d a).outs (wire n c).from.1 (omega (arith, from.1))) in
        subst (IsRoomOf (wiring s n).rates cap c) (sym gave.ring.1) (p.capacities c e d y l);
  }
