-- A round of all seats does a firing, where all ends are synchronized and firings of a plan are left.
use Rattle.std.proofs.Common.{◌≡◌, ◌≤◌, List, length, ap, arith}
use Rattle.sdf_actor.specs.Steps.{Steps}
use Rattle.sdf_actor.specs.Nets.{Netlist}
use Rattle.sdf_rings.specs.declared.seat.Seat.{Seat}
use Rattle.sdf_rings.specs.Changes.{AllBecame}
use Rattle.sdf_rings.specs.Laws.{SomeSeatGoesOn, RoundsFire}
use Rattle.sdf_rings.specs.Seats.{HasIdled}
use Rattle.sdf_rings.specs.Totals.{total_left}
use Rattle.sdf_rings.proofs.CanGo.{can_go_on}
use Rattle.sdf_rings.proofs.Rests.{are_at_rest}
use Rattle.sdf_rings.proofs.Totals.{total_le, total_lt}

module _ {A S T : Type 0} (s : Steps A S T) where
  pub some_seat_goes_on : SomeSeatGoesOn s
  some_seat_goes_on r order cap left =
      can_go_on left.rings left.met (are_at_rest left.rings left.met) left.planned left.some

  pub rounds_fire : RoundsFire s
  rounds_fire r order cap seats left len worked =
      let first = some_seat_goes_on r order cap left in
      total_lt r.seats seats first.which first.which_in len
      (λ i e h. let w = (worked i e h).worked in let n = w.next_grows in let l = ap length w.left_kept in omega arith)
      (λ e. let w = worked first.which e first.which_in in
      let n = w.progress (first.which_left e) (first.which_can e) in let l = ap length w.worked.left_kept in
      omega arith)

  -- no more is left of seats that did nothing
  pub idle_leaves : (n : Netlist A T) (old new : List (Seat A T S)) → length new ≡ length old →
      AllBecame (HasIdled s n) old new → total_left new ≤ total_left old
  idle_leaves n old new len idle = total_le old new len
      (λ i e h. let w = idle i e h in let n = w.1 in let l = ap length w.0.left_kept in omega arith)
