use Rattle.std.proofs.Common.{◌≡◌, ℕ, length, drop, get_or, Some, None, sym, ap, ◌∙◌, subst, arith}
use Rattle.std.proofs.lemmas.List.{take_at}
use Rattle.sdf_graph.specs.Rates.{rates}
use Rattle.sdf_prec.specs.declared.firing.Firing.{Firing}
use Rattle.sdf_prec.specs.Numbers.{number}
use Rattle.sdf_prec.specs.Floor.{IsNextReady}
use Rattle.sdf_prec.specs.Queued.{is_next}
use Rattle.sdf_prec.specs.Simulations.{SimulationValue, AreInputsFor, IsRowFor, IsQueued}
use Rattle.sdf_prec.proofs.Queues.{queue_left}
use Rattle.sdf_prec.proofs.Readies.{still_ready, ready_then}
use Rattle.sdf_prec.proofs.InputLaws.{job_cheap}
use Rattle.sdf_prec.proofs.Shifts.{few_ended, within_sum, soon_then}
use Rattle.sdf_prec.proofs.hu.simulation.Simulation.start.Goals as goal

pub start-requires-clause-early : goal.start-requires-clause-early
start-requires-clause-early c =
    let k = c.self.invariant in
    let row = subst (λ (x : SimulationValue). IsRowFor c.args.inputs.now x c.requires.row.0 c.args.cells.now)
    (sym c.self.view_is)
    c.requires.row.1 in
    let inputs = subst (λ (x : SimulationValue). AreInputsFor x.counts.graph c.args.inputs.now) (sym c.self.view_is)
    c.requires.inputs in
    omega (
      arith,
      k.early,
      inputs.few,
      few_ended _ _ row.floor k.fired_all inputs.firings_all,
    )

pub start-requires-clause-known : goal.start-requires-clause-known
start-requires-clause-known c =
    let row = subst (λ (x : SimulationValue). IsRowFor c.args.inputs.now x c.requires.row.0 c.args.cells.now)
    (sym c.self.view_is)
    c.requires.row.1 in
    rw c.deref_mut.ensures.value
    (λ j f h. let k = (row.each j f h).0.known in omega (arith, c.self.invariant.started_all))

pub start-requires-clause-room : goal.start-requires-clause-room
start-requires-clause-room c = λ j f h. let k = (c.requires.row.1.each j f h).0.within in
    omega (arith, c.requires.inputs.few, within_sum c.args.inputs.now.firings.now f.actor)

pub invariant_of-self : goal.invariant_of-self
invariant_of-self c =
    let i = c.self.inside in
    let k = c.self.invariant in
    let s = c.start.new.started in
    let w = c.start.new.whose in
    let u = c.start.new.until in
    let s_len : length s ≡ length i.started.items = c.start.ensures.actors ∙ ap length c.deref_mut.ensures.value in
    let w_len : length w ≡ length i.whose.items = c.start.ensures.all ∙ ap length c.deref_mut-2.ensures.value in
    let u_len : length u ≡ length i.until.items = c.start.ensures.columns ∙ ap length c.deref_mut-3.ensures.value in
    let st = take_at s (drop (length s) i.started.items) i.started.len (s_len ∙ sym i.started.ok.0) in
    let wt = take_at w (drop (length w) i.whose.items) i.whose.len (w_len ∙ sym i.whose.ok.0) in
    let ut = take_at u (drop (length u) i.until.items) i.until.len (u_len ∙ sym i.until.ok.0) in
    let begun = rw (c.deref_mut.ensures.value, c.deref_mut-2.ensures.value, c.deref_mut-3.ensures.value) at
    c.start.ensures.started in
    let row = subst (λ (x : SimulationValue). IsRowFor c.args.inputs.now x c.requires.row.0 c.args.cells.now)
    (sym c.self.view_is)
    c.requires.row.1 in
    let inputs = subst (λ (x : SimulationValue). AreInputsFor x.counts.graph c.args.inputs.now) (sym c.self.view_is)
    c.requires.inputs in
    rw (st, wt, ut) (record {
      sound = k.sound;
      fired_all = k.fired_all;
      started_all = s_len ∙ k.started_all;
      whose_all = w_len ∙ (k.whose_all ∙ sym u_len);
      homes_all = k.homes_all;
      marks_all = k.marks_all;
      inside = λ a j is. let l = k.inside a j is in omega (arith, u_len);
      early = k.early;
      soon = soon_then begun (λ j f h. job_cheap inputs f.actor
          (row.each j f h).0.known) k.soon;
    })

pub returns-clause-queue : goal.returns-clause-queue
returns-clause-queue c =
    let i = c.self.inside in
    let inputs = c.args.inputs.now in
    let r = rates i.counts.graph in
    let n : ℕ → ℕ = λ a. get_or inputs.firings.now a 0 in
    let ended : ℕ → ℕ = λ a. get_or i.counts.fired a 0 in
    let old : ℕ → ℕ = λ a. get_or i.started.items a 0 in
    let begun = rw (c.deref_mut.ensures.value, c.deref_mut-2.ensures.value, c.deref_mut-3.ensures.value) at
    c.start.ensures.started in
    let row = subst (λ (x : SimulationValue). IsRowFor inputs x c.requires.row.0 c.args.cells.now) (sym c.self.view_is)
    c.requires.row.1 in
    let q = subst (λ (x : SimulationValue). IsQueued inputs x) (sym c.self.view_is) c.requires.queue in
    let each : (j : ℕ) (f : Firing) → get_or c.args.cells.now j None ≡ Some f → IsNextReady r n ended old f =
    (λ j f h. (row.each j f h).0) in
    let left = queue_left (number inputs.levels.now) (IsNextReady r n ended old)
    (IsNextReady r n ended (λ a. get_or c.start.new.started a 0)) i.queue.items q (is_next c.start.new.started)
    (still_ready _ begun each)
    (ready_then _ begun each) in
    let s = c.start.new.started in
    let s_len : length s ≡ length i.started.items = c.start.ensures.actors ∙ ap length c.deref_mut.ensures.value in
    let st = take_at s (drop (length s) i.started.items) i.started.len (s_len ∙ sym i.started.ok.0) in
    rw (c.remove_started.ensures, c.deref.ensures.value, st) left
