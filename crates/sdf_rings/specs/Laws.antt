-- The laws of rounds, whoever makes them.
use Rattle.std.specs.Prelude.{ℕ, ◌≡◌, ◌<◌, List, length}
use Rattle.sdf_actor.specs.Steps.{Steps}
use Rattle.sdf_actor.specs.Nets.{Netlist}
use Rattle.sdf_rings.specs.declared.seat.Seat.{Seat}
use Rattle.sdf_rings.specs.Asks.{IsPlanned, SomeFirst}
use Rattle.sdf_rings.specs.Changes.{AllBecame}
use Rattle.sdf_rings.specs.Rests.{RingsValue, AreRings, HaveMet}
use Rattle.sdf_rings.specs.Seats.{CanFireFirst, HasWorked}
use Rattle.sdf_rings.specs.Totals.{total_left}

-- all ends are synchronized, and firings of a plan are left
pub record AreLeft {A S T : Type 0} (s : Steps A S T) (r : RingsValue A S T) (order : List ℕ)
    (cap : ℕ → ℕ) : Type 0 where
  pub rings : AreRings s r
  pub met : HaveMet r.net r.seats r.places
  pub planned : IsPlanned s r.net r.seats r.places order cap
  pub some : 0 < total_left r.seats

-- if firings are left, some seat has a firing left, and its first is known to be possible
abbrev pub SomeSeatGoesOn : {A S T : Type 0} → Steps A S T → Type 0
SomeSeatGoesOn {A} {S} {T} s = (r : RingsValue A S T) (order : List ℕ) (cap : ℕ → ℕ) → AreLeft s r order cap →
    SomeFirst s r.net r.seats

-- a seat was worked: firings of its list were done, at least one of them if the first was known to be possible
pub record WasWorked {A S T : Type 0} (s : Steps A S T) (n : Netlist A T) (x y : Seat A T S) : Type 0 where
  pub worked : HasWorked s n x y
  pub progress : x.next < length x.left → CanFireFirst s n x → x.next < y.next

-- if firings are left, a round in which each seat was worked leaves fewer of them
abbrev pub RoundsFire : {A S T : Type 0} → Steps A S T → Type 0
RoundsFire {A} {S} {T} s =
    (r : RingsValue A S T) (order : List ℕ) (cap : ℕ → ℕ) (seats : List (Seat A T S)) → AreLeft s r order cap →
    length seats ≡ length r.seats → AllBecame (WasWorked s r.net) r.seats seats →
    total_left seats < total_left r.seats
