use Rattle.std.proofs.Common.{◌≡◌, [], length, subst, sym, ◌∙◌, ⊎_elim, arith}
use Rattle.std.proofs.lemmas.Bool.{cases_lt}
use Rattle.std.proofs.lemmas.List.{get_or_past, length-map}
use Rattle.sdf_actor.specs.Wires.{lists}
use Rattle.sdf_queues.specs.RunResults.{periods_of}
use Rattle.sdf_queues.specs.Feeds.{HasRun}
use Rattle.sdf_one.proofs.Idle.{no_period_runs, no_periods}
use Rattle.sdf_one.proofs.feed.run_net.Goals as goal

pub returns-in_ok-initial_state-in-None : goal.returns-in_ok-initial_state-in-None
returns-in_ok-initial_state-in-None g c =
    let s = g.A.Actor.steps in
    let n = c.args.run_inputs.net.now in
    let q = c.args.run_inputs.period.now.repetitions in
    let inputs = lists c.args.run_inputs.inputs.now in
    let made = lists c.args.outputs.items in
    let rest = c.in_ok-initial_state-in-None.field-0 in
    let many_out = length-map c.args.outputs.items (λ v. v.items) in
    let none : c.args.run_inputs.periods ≡ 0 = no_periods n q c.args.run_inputs.periods inputs
    c.requires.run_inputs.inputs
    c.requires.some (rw c.in-None.is at c.first_sample.ensures) in
    subst (λ p. HasRun s n inputs (periods_of q p) made rest) (sym none)
    (no_period_runs s n q inputs made rest (many_out ∙ c.requires.outputs.0)
    (λ e. ⊎_elim
    (λ l. (c.requires.outputs.1 e (omega (arith, l, many_out, c.requires.outputs.0))).0)
    (λ past. get_or_past made e [] past) (cases_lt e (length made)))
    (c.in_ok-initial_state-in-None.ensures inputs))
