-- Every run goes on until it is over.
use Rattle.std.proofs.Common.{ℕ, ◌≤◌, ◌<◌, ◌⊎◌, inl, inr, length, arith}
use Rattle.sdf_actor.specs.Steps.{Steps}
use Rattle.sdf_actor.specs.Nets.{wiring, answers}
use Rattle.sdf_actor.proofs.Theorems.{nets_are_wired}
use Rattle.sdf_rings.specs.Machine.{Event, at_start, IsAllowed}
use Rattle.sdf_rings.specs.MachineLaws.{firings, capacity, reached, IsOver, RunsGoOn}
use Rattle.sdf_rings.proofs.Counts.{IsCounted, count_start, count_run}
use Rattle.sdf_rings.proofs.Plans.{sequence_of, plan_sequence, room_first, room_all, enough_all}
use Rattle.sdf_rings.proofs.Progress.{goes_on}

pub runs_go_on : {A S T : Type 0} (s : Steps A S T) → RunsGoOn s
runs_go_on {A} {S} {T} s n inputs p b es plan run =
    let f = wiring s n in
    let k : ℕ → ℕ = firings p b in
    let here = nets_are_wired s n plan.net in
    let is = plan_sequence s n p b plan in
    let m = reached s n inputs es in
    let counted : IsCounted f k (capacity p) m = count_run f here.sound (answers s n inputs) k (capacity p)
    (at_start f) es
    (count_start f here.sound (answers s n inputs) k (capacity p)
    (room_first f.rates k (capacity p) (sequence_of p b) here.sound is)) run in
    over counted
    (goes_on f here k (capacity p) (sequence_of p b) is.admissible
    (enough_all f.rates k (capacity p) (sequence_of p b) here.sound is)
    (room_all f.rates k (capacity p) (sequence_of p b) here.sound is) is.room m (λ a l. omega (arith, is.counts a l)))
  where
    over : IsCounted (wiring s n) (firings p b) (capacity p) (reached s n inputs es) →
        ((c : ℕ) → c < length n.wires → (firings p b ((wiring s n).rates.target c) ≤ (reached s n inputs es).took c)
        × (firings p b ((wiring s n).rates.source c) ≤ (reached s n inputs es).gave c)) ⊎
        ((e : Event) × IsAllowed (wiring s n) (firings p b) (capacity p) (reached s n inputs es) e) →
        IsOver s n (firings p b) (reached s n inputs es)
        ⊎ ((e : Event) × IsAllowed (wiring s n) (firings p b) (capacity p) (reached s n inputs es) e)
    over counted (inr found) = inr found
    over counted (inl all) = inl (λ c l. (
      omega (arith, counted.took_in c l, (all c l).0),
      omega (arith, counted.gave_in c l, (all c l).1),
    ))
