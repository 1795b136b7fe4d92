use Rattle.std.proofs.Common.{ℕ, ◌<◌, length, get_or, sum, Some, sym, ap, ◌∙◌, subst, arith}
use Rattle.std.proofs.lemmas.Result.{IfOk-weaker}
use Rattle.sdf_graph.specs.Rates.{GraphValue, rates}
use Rattle.sdf_graph.proofs.Theorems.{lists_sum_within}
use Rattle.sdf_prec.specs.Floor.{AreEnded, IsNextEnd}
use Rattle.sdf_prec.specs.Numbers.{number}
use Rattle.sdf_prec.specs.Floor.{IsNextReady}
use Rattle.sdf_prec.specs.Queued.{IsUnmarked}
use Rattle.sdf_prec.specs.Simulations.{SimulationValue, IsDoneBy, AreInputsFor, IsQueued}
use Rattle.sdf_prec.proofs.Queues.{queue_later}
use Rattle.sdf_prec.proofs.Readies.{ready_on, ready_before}
use Rattle.sdf_prec.proofs.Floors.{columns_at, at_next}
use Rattle.sdf_prec.proofs.Shifts.{room_left, shift_turn, shift_sum, shift_early}
use Rattle.sdf_prec.proofs.Turns.{due_next}
use Rattle.sdf_prec.proofs.hu.simulation.Simulation.advance.Goals as goal
use Rattle.sdf_prec.proofs.hu.simulation.Simulation.advance.Goals.{After-self, In_ok-end_firings}

-- The simulation at the start of the call.
abbrev state : After-self → SimulationValue
state c = let i = c.self.inside in record {
  time = i.time;
  counts = i.counts;
  started = i.started.items;
  whose = i.whose.items;
  until = i.until.items;
  homes = i.homes.items;
  queue = i.queue.items;
  marks = i.marks;
}

-- No ready firing can start at the simulation's time, after the rows so far.
done : (c : After-self) → IsDoneBy c.args.inputs.now (state c) c.requires.done.0
done c = subst (λ x. IsDoneBy c.args.inputs.now x c.requires.done.0) (sym c.self.view_is) c.requires.done.2

-- The next time is the first at which a processor ends its firing.
next : (c : After-self) → IsNextEnd (state c).until (state c).time (length (state c).until) (Some c.args.next)
next c = subst (λ (x : SimulationValue). IsNextEnd x.until x.time (length x.until) (Some c.args.next))
    (sym c.self.view_is)
    c.requires.next

-- By the next time, each actor whose firing ends then has ended one more.
ended : (c : In_ok-end_firings) → let i = c.self.inside in AreEnded c.args.next (length i.until.items)
    (λ j. get_or i.whose.items j 0) (λ j. get_or i.until.items j 0) i.counts.fired c.end_firings.new.counts.fired
ended c = rw (c.deref.ensures.value, c.deref-2.ensures.value) at c.in_ok-end_firings.ensures.ended

pub end_firings-requires-clause-at_work : goal.end_firings-requires-clause-at_work
end_firings-requires-clause-at_work c =
    let start = (goal.at.end_firings-requires-clause-at_work c).After-self in
    rw (c.deref.ensures.value, c.deref-2.ensures.value) (columns_at (done start).floor c.args.next (next start).0)

pub end_firings-requires-clause-room : goal.end_firings-requires-clause-room
end_firings-requires-clause-room c =
    let start = (goal.at.end_firings-requires-clause-room c).After-self in
    let inputs = subst (λ (x : SimulationValue). AreInputsFor x.counts.graph c.args.inputs.now) (sym c.self.view_is)
    c.requires.inputs in
    room_left _ _ (done start).floor c.self.invariant.fired_all inputs.firings_all inputs.few

-- while the columns' firings end
pub invariant_of-self : goal.invariant_of-self
invariant_of-self c =
    let i = c.self.inside in
    let k = c.self.invariant in
    let same = ap (λ (g : GraphValue). g.actors) (sym c.end_firings.ensures.same) in
    record {
      sound = rw c.end_firings.ensures.same k.sound;
      fired_all = c.end_firings.ensures.all ∙ (k.fired_all ∙ same);
      started_all = k.started_all ∙ same;
      whose_all = k.whose_all;
      homes_all = k.homes_all ∙ same;
      marks_all = c.end_firings.ensures.marked ∙ (k.marks_all ∙ same);
      inside = k.inside;
      early = omega (
        arith,
        k.early,
        lists_sum_within i.counts.fired c.end_firings.new.counts.fired (sym c.end_firings.ensures.all)
            c.end_firings.ensures.rises,
      );
      soon = k.soon;
    }

pub invariant_of-self-2 : goal.invariant_of-self-2
invariant_of-self-2 c =
    let k = c.self.invariant in
    let at = goal.at.invariant_of-self-2 c in
    let early = shift_early _ (next at.After-self) (ended at.In_ok-end_firings) c.end_firings.ensures.rises
    c.end_firings.ensures.all
    k.early k.soon in
    let same = ap (λ (g : GraphValue). g.actors) (sym c.end_firings.ensures.same) in
    record {
      sound = rw c.end_firings.ensures.same k.sound;
      fired_all = c.end_firings.ensures.all ∙ (k.fired_all ∙ same);
      started_all = k.started_all ∙ same;
      whose_all = k.whose_all;
      homes_all = k.homes_all ∙ same;
      marks_all = c.end_firings.ensures.marked ∙ (k.marks_all ∙ same);
      inside = k.inside;
      early = early.0;
      soon = early.1;
    }

pub add_row-requires-clause-due : goal.add_row-requires-clause-due
add_row-requires-clause-due c =
    let at = goal.at.add_row-requires-clause-due c in
    let start = at.After-self in
    let advance = shift_turn _ (next start) (ended at.In_ok-end_firings) c.end_firings.ensures.rises in
    let due = due_next c.self.invariant.sound (done start) advance (next start).1 in
    (c.requires.done.0, c.requires.done.1, rw c.end_firings.ensures.same due)

pub returns-clause-more : goal.returns-clause-more
returns-clause-more c =
    let at = goal.at.returns-clause-more c in
    let more = shift_sum _ (next at.After-self) (ended at.In_ok-end_firings) c.end_firings.ensures.rises
    c.end_firings.ensures.all in
    rw c.add_row.ensures.counts (IfOk-weaker c.add_row.result _ _ (λ _ _. subst (λ (x : SimulationValue).
    sum x.counts.fired < sum c.end_firings.new.counts.fired) c.self.view_is more) c.add_row.ensures.done)

pub add_row-requires-clause-queue : goal.add_row-requires-clause-queue
add_row-requires-clause-queue c =
    let i = c.self.inside in
    let inputs = c.args.inputs.now in
    let r = rates i.counts.graph in
    let n : ℕ → ℕ = λ a. get_or inputs.firings.now a 0 in
    let started : ℕ → ℕ = λ a. get_or i.started.items a 0 in
    let q = subst (λ (x : SimulationValue). IsQueued inputs x) (sym c.self.view_is) c.requires.queue in
    let at = goal.at.add_row-requires-clause-queue c in
    let start = at.After-self in
    let busy = at_next (done start).floor c.args.next (next start).0 in
    let new = c.end_firings.new.counts.fired in
    let later = queue_later (number inputs.levels.now) (IsNextReady r n (λ a. get_or i.counts.fired a 0) started)
    (IsNextReady r n (λ a. get_or new a 0) started) i.queue.items q (IsUnmarked c.end_firings.new.marks)
    (ready_on (ended at.In_ok-end_firings) c.end_firings.ensures.rises busy c.self.invariant.sound)
    (λ f h u. ready_before (ended at.In_ok-end_firings) c.end_firings.ensures.rises busy f h
    (c.in_ok-end_firings.ensures.rested f.actor u)) in
    rw c.end_firings.ensures.same later
