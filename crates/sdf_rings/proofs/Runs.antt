-- What every run has put, that it keeps within the capacities, and where it ends.
use Rattle.std.proofs.Common.{◌≡◌, ◌+◌, ap, ◌∙◌, ℕ, List, sym, arith}
use Rattle.std.proofs.lemmas.List.{take_all}
use Rattle.sdf_actor.specs.Steps.{Steps}
use Rattle.sdf_actor.specs.Nets.{Netlist, wiring, IsHistoryOf}
use Rattle.sdf_actor.specs.Laws.{HistoryExists}
use Rattle.sdf_actor.proofs.Theorems.{nets_are_wired}
use Rattle.sdf_rings.specs.Machine.{Event, at_start}
use Rattle.sdf_rings.specs.MachineLaws.{MachinePlan, IsMachinePlan, IsRunOf, firings, capacity, reached}
use Rattle.sdf_rings.specs.MachineLaws.{RunsPutPrefixes}
use Rattle.sdf_rings.specs.MachineLaws.{RunsKeepWithin, RunsEndInHistories}
use Rattle.sdf_rings.proofs.Kept.{Keeps, keeps_start, keeps_run, long, begins}
use Rattle.sdf_rings.proofs.Plans.{plan_sequence, sequence_of, room_first}

module _ {A S T : Type 0} (s : Steps A S T) where
  kept : (n : Netlist A T) (inputs : List (List T)) (p : MachinePlan) (b : ℕ) (V : ℕ → List T) (es : List Event) →
      IsMachinePlan s n p → IsHistoryOf s n inputs (firings p b) V → IsRunOf s n inputs p b es →
      Keeps (wiring s n) (firings p b) (capacity p) V (reached s n inputs es)
  kept n inputs p b V es plan history run =
      keeps_run s n plan.net inputs (firings p b) (capacity p) V history (at_start (wiring s n)) es
      (keeps_start s n plan.net inputs (firings p b) (capacity p) V history
      (room_first (wiring s n).rates (firings p b) (capacity p) (sequence_of p b) (nets_are_wired s n plan.net).sound
      (plan_sequence s n p b plan))) run

  pub runs_put_prefixes : RunsPutPrefixes s
  runs_put_prefixes n inputs p b V es plan history run c l =
      let keep = kept n inputs p b V es plan history run in (
        begins s n plan.net inputs (firings p b) (capacity p) V history (reached s n inputs es) keep c l,
        long s n plan.net inputs (firings p b) (capacity p) V history (reached s n inputs es) keep c l,
      )

  pub runs_keep_within : HistoryExists s → RunsKeepWithin s
  runs_keep_within exists n inputs p b es plan reach run c l =
      let is = plan_sequence s n p b plan in
      let V = exists n inputs (sequence_of p b) (firings p b) plan.net is.admissible
      (λ a k. sym (is.counts a k)) reach in
      let keep = kept n inputs p b V.0 es plan V.1 run in
      omega (
        arith,
        keep.counts.room c l,
        long s n plan.net inputs (firings p b) (capacity p) V.0 V.1
            (reached s n inputs es) keep c l,
      )

  pub runs_end_in_histories : RunsEndInHistories s
  runs_end_in_histories n inputs p b V es plan history run over c l =
      let keep = kept n inputs p b V es plan history run in
      let gave = (over c l).1 in
      let size : (wiring s n).rates.produced c ((reached s n inputs es).gave c) ≡
      (wiring s n).rates.produced c (firings p b ((wiring s n).rates.source c)) =
      ap ((wiring s n).rates.produced c) gave in
      keep.lists c l ∙ take_all ((wiring s n).rates.initial c
      + (wiring s n).rates.produced c ((reached s n inputs es).gave c)) (V c) (omega (arith, history.lengths c l))
