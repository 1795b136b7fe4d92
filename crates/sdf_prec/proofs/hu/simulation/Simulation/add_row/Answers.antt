use Rattle.std.proofs.Common.{◌≡◌, ◌≤◌, ◌<◌, ◌++◌, ◌∷◌, [], length, sym, ap, ◌∙◌, subst, arith}
use Rattle.std.proofs.lemmas.List.{nil_from_length, map_push}
use Rattle.sdf_prec.specs.Tables.{firings}
use Rattle.sdf_prec.specs.TimedRows.{Timed, cells_of}
use Rattle.sdf_prec.specs.Simulations.{SimulationValue, AreInputsFor, IsDueTo}
use Rattle.sdf_prec.proofs.SimulationLaws.{row_started, row_skipped}
use Rattle.sdf_prec.proofs.InputLaws.{job_dear}
use Rattle.sdf_prec.proofs.Keeping.{not_some}
use Rattle.sdf_prec.proofs.hu.simulation.Simulation.add_row.Goals as goal

pub start-requires-clause-row : goal.start-requires-clause-row
start-requires-clause-row c =
    let past = c.requires.due.0 in
    let due = subst (λ (x : SimulationValue). IsDueTo c.args.inputs.now x past) (sym c.renew_queue.ensures.others)
    c.requires.due.2 in
    (past, rw c.deref-then-has_firing.ensures.value (c.in_ok-next_cells.ensures.row _ due))

pub push-requires-clause-wide : goal.push-requires-clause-wide
push-requires-clause-wide c =
    let past = c.requires.due.0 in
    let due = subst (λ (x : SimulationValue). IsDueTo c.args.inputs.now x past) (sym c.renew_queue.ensures.others)
    c.requires.due.2 in
    ap length c.deref-then-has_firing-2.ensures.value ∙ ((c.in_ok-next_cells.ensures.row past due).wide
    ∙ (ap (λ (x : SimulationValue). length x.until) c.next_cells.ensures.others
    ∙ (ap (λ (x : SimulationValue). length x.until) c.renew_queue.ensures.others ∙ sym c.requires.wide)))

pub returns-in_ok-push-clause-done : goal.returns-in_ok-push-clause-done
returns-in_ok-push-clause-done c =
    let past = c.requires.due.0 in
    let cells = c.next_cells.new.cells.items in
    let sound = c.next_cells.ensures.sound in
    let due = subst (λ (x : SimulationValue). IsDueTo c.args.inputs.now x past) (sym c.renew_queue.ensures.others)
    c.requires.due.2 in
    let row = c.in_ok-next_cells.ensures.row past due in
    let inputs = subst (λ (x : SimulationValue). AreInputsFor x.counts.graph c.args.inputs.now)
    (sym c.renew_queue.ensures.others)
    c.requires.inputs in
    let next : Timed = record { start = c.renew_queue.new.self.time; cells = cells } in
    let pushed : cells_of (past ++ next ∷ []) ≡ c.push.new.self.rows =
    map_push (λ (r : Timed). r.cells) past next
    ∙ sym (c.in_ok-push.ensures.rows
    ∙ (λ n. sym c.requires.due.1 n ++ c.deref-then-has_firing-2.ensures.value n ∷ [])) in (
      past ++ next ∷ [],
      pushed,
      row_started c.args.inputs.now c.renew_queue.new.self c.next_cells.new.self c.start.new.self past
          cells sound (job_dear inputs) due c.next_cells.ensures.others row
          (λ none. absurd (omega (
            arith,
            c.has_firing.ensures.0 c.if-has_firing.true,
            ap length (ap firings c.deref.ensures.value ∙ none),
          ))) c.start.ensures.others c.start.ensures.columns
          (rw c.deref-then-has_firing.ensures.value at c.start.ensures.started),
    )

pub returns-else-has_firing-clause-done : goal.returns-else-has_firing-clause-done
returns-else-has_firing-clause-done c =
    let past = c.requires.due.0 in
    let cells = c.next_cells.new.cells.items in
    let sound = c.next_cells.ensures.sound in
    let due = subst (λ (x : SimulationValue). IsDueTo c.args.inputs.now x past) (sym c.renew_queue.ensures.others)
    c.requires.due.2 in
    let row = c.in_ok-next_cells.ensures.row past due in
    let fs = firings cells in
    let few : length fs ≤ 0 = not_some c.has_firing.result (length fs) c.if-has_firing.false
    (λ l. c.has_firing.ensures.1 (subst (λ cs. 0 < length (firings cs)) (sym c.deref.ensures.value) l)) in (
      past,
      c.requires.due.1,
      row_skipped c.args.inputs.now c.renew_queue.new.self c.next_cells.new.self past cells sound due
          c.next_cells.ensures.others row (nil_from_length fs (omega arith)),
    )
