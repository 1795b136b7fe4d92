use Rattle.std.proofs.Common.{map, get_or, ap, ◌∙◌}
use Rattle.std.proofs.lemmas.List.{length-map}
use Rattle.sdf_actor.specs.declared.net_state.NetState.{NetState}
use Rattle.sdf_actor.specs.Wires.{lists}
use Rattle.sdf_actor.proofs.Theorems.{nets_are_wired}
use Rattle.sdf_queues.specs.RunResults.{periods_of}
use Rattle.sdf_queues.proofs.Theorems.{sinks_make_runs}
use Rattle.sdf_one.specs.Fired.{state_in}
use Rattle.sdf_one.proofs.Ends.{all_taken}
use Rattle.sdf_one.proofs.Left.{leaves}
use Rattle.sdf_one.proofs.feed.run.Goals as goal

pub returns : goal.returns
returns g c =
    let s = g.A.Actor.steps in
    let n = c.args.run_inputs.net.now in
    let q = c.args.run_inputs.period.now.repetitions in
    let made = c.in_ok-finished.finished in
    let has = c.in_ok-finished.ensures in
    let rest : NetState g.row.A-Token.Denot g.row.A-State.Denot =
    record { states = c.in_ok-states_of.field-0; held = c.in_ok-held.field-0 } in
    sinks_make_runs s n (lists c.args.run_inputs.inputs.now) q c.args.run_inputs.periods
    (λ a. get_or made.done.items a 0)
    has.stands.history (lists made.outputs.items) rest
    has.good has.stands.is has.done (length-map made.outputs.items (λ v. v.items) ∙ has.outputs)
    (all_taken s n (nets_are_wired s n has.good) (lists c.args.run_inputs.inputs.now)
    (periods_of q c.args.run_inputs.periods) (λ a. get_or made.done.items a 0)
    made.works.items made.queues.items made.outputs.items has.stands)
    (leaves s n (lists c.args.run_inputs.inputs.now) (periods_of q c.args.run_inputs.periods)
    (λ a. get_or made.done.items a 0)
    made.works.items made.queues.items made.outputs.items has.stands rest
    (c.in_ok-states_of.ensures ∙ ap (map state_in) c.deref.ensures.value)
    (c.in_ok-held.ensures ∙ ap (map (λ h. h.samples)) c.deref-2.ensures.value))
