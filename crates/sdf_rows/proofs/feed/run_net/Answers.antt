use Rattle.std.proofs.Common.{◌≡◌, ◌++◌, ◌*◌, length, map, take, drop, sym, ap, ◌∙◌, subst, arith}
use Rattle.std.proofs.Math.Seq.{take-append_seam}
use Rattle.std.proofs.lemmas.List.{length-map}
use Rattle.sdf_actor.specs.declared.net_state.NetState.{NetState}
use Rattle.sdf_actor.specs.Wires.{lists}
use Rattle.sdf_actor.specs.declared.sides.Lists.TheVariants.{Outputs}
use Rattle.sdf_actor.specs.Sides.{list_count}
use Rattle.sdf_queues.specs.RunResults.{periods_of}
use Rattle.sdf_queues.specs.Feeds.{HasRun}
use Rattle.sdf_queues.proofs.Theorems.{nets_have_facts, nothing_runs}
use Rattle.sdf_rows.specs.Collect.{AreCollected, AreKept}
use Rattle.sdf_rows.proofs.Readings.{vec_long}
use Rattle.sdf_rows.proofs.Ends.{row_run}
use Rattle.sdf_rows.proofs.feed.run_net.Goals as goal

pub returns-in_ok-held-in-Some : goal.returns-in_ok-held-in-Some
returns-in_ok-held-in-Some g c =
    let s = g.A.Actor.steps in
    let n = c.args.net.now in
    let p = c.args.plan.now in
    let q = p.table.now.period.repetitions in
    let made = c.collect.new.outputs in
    let items = c.in_ok-outputs.outputs.items in
    let run = c.in_ok-run_state-in-Some.run_state in
    let over = c.in_ok-run_state-in-Some.ensures in
    let rest : NetState g.row.A-Token.Denot g.row.A-State.Denot =
    record { states = c.in_ok-states_of-in-Some.field-0; held = c.in_ok-held-in-Some.field-0 } in
    let same : length made ≡ length items = c.collect.ensures.all ∙ ap length c.deref_mut-in-Some.ensures.value in
    let count : length made ≡ list_count Outputs n.nodes = same
    ∙ (c.in_ok-outputs.ensures.0 ∙ c.outputs.ensures.count) in
    let long : c.in_ok-outputs.outputs.len ≡ length made = omega (arith, same, vec_long c.in_ok-outputs.outputs) in
    let whole = ap (λ m. take m (made ++ drop (length made) items)) long
    ∙ take-append_seam made (drop (length made) items) in
    let collected = subst (λ w. AreCollected n (length n.nodes) w made) c.deref_mut.ensures.value
    c.collect.ensures.lists in
    subst (λ v. HasRun s n (lists c.args.inputs.now) (periods_of q (p.blocks * p.table.now.blocking)) (lists v)
    rest) (sym whole)
    (row_run s n (lists c.args.inputs.now) q p.table.now.blocking p.blocks over.0 run.states.items
    run.queues.items over.1
    (nets_have_facts s n c.outputs.ensures.accepted).net
    made collected count rest c.in_ok-states_of-in-Some.ensures.all
    (subst (λ ws. AreKept n ws rest.states.items) c.deref.ensures.value c.in_ok-states_of-in-Some.ensures.each)
    (c.in_ok-held-in-Some.ensures ∙ ap (map (λ queue. queue.samples)) c.deref-in-Some.ensures.value))

pub returns-in_ok-initial_state-in-None : goal.returns-in_ok-initial_state-in-None
returns-in_ok-initial_state-in-None g c =
    let n = c.args.net.now in
    let p = c.args.plan.now in
    let many_out = length-map c.in_ok-outputs.outputs.items (λ v. v.items) in
    nothing_runs g.A.Actor.steps n p.table.now.period.repetitions (p.blocks * p.table.now.blocking)
    (lists c.args.inputs.now)
    (lists c.in_ok-outputs.outputs.items) c.in_ok-initial_state-in-None.field-0
    (nets_have_facts g.A.Actor.steps n c.outputs.ensures.accepted).net c.requires.inputs (omega
    (arith, c.requires.inputs.count, c.outputs.ensures.accepted.1.lists.input)) c.requires.some
    (rw c.in-None.is at c.first_sample.ensures)
    (many_out ∙ (c.in_ok-outputs.ensures.0 ∙ c.outputs.ensures.count))
    (λ e l. (c.in_ok-outputs.ensures.1 e (omega (arith, many_out, c.in_ok-outputs.ensures.0))).0)
    (c.in_ok-initial_state-in-None.ensures (lists c.args.inputs.now))
