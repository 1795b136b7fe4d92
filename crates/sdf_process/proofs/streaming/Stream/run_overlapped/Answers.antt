use Rattle.std.proofs.Common.{◌≡◌, IfOk, refl, subst, sym, ap, ◌∙◌, true}
use Rattle.std.specs.Prelude.{is_some}
use Rattle.sdf_actor.specs.Wires.{lists as items_of}
use Rattle.sdf_process.specs.declared.runner.PieceRunner.TheVariants as runner
use Rattle.sdf_process.specs.Streams.{PlaysNext, RunsNext, is_in_parts}
use Rattle.sdf_process.proofs.Flowing.{memory_refused}
use Rattle.sdf_process.proofs.Refusals.{at_err, at_ok, fails_by}
use Rattle.sdf_process.proofs.Runs.{player_runs}
use Rattle.sdf_process.proofs.Steps.{beside_on}
use Rattle.sdf_process.proofs.streaming.Stream.run_overlapped.Goals as goal

pub returns-in_err-turned-clause-goes : goal.returns-in_err-turned-clause-goes
returns-in_err-turned-clause-goes g c = λ b p blocks step.
    fails_by c.from_residual.result c.in_err-turned.field-0.0 _ _ c.from_residual.ensures.1
    (at_err c.play_overlapped-ran.result.1 c.in_err-turned.field-0.0 _ _ c.in_err-turned.was
    (c.play_overlapped-ran.ensures.turns.turns b p step.ready.can step.ahead))

pub returns-in_err-self-clause-goes : goal.returns-in_err-self-clause-goes
returns-in_err-self-clause-goes g c = λ b p blocks step.
    let turns = at_ok c.play_overlapped-ran.result.1 tt _ _ c.in_ok-turned.was
    (c.play_overlapped-ran.ensures.turns.turns b p step.ready.can step.ahead) in
    fails_by c.from_residual-in_err-self.result c.in_err-self.field-0.0 _ _ c.from_residual-in_err-self.ensures.1
    (memory_refused b step.ready.can _ turns.flows c.in_err-self.field-0.0 c.in_err-self.ensures.refused)

pub returns-clause-goes : goal.returns-clause-goes
returns-clause-goes g c = λ b p blocks step.
    let made = items_of c.in_ok-self.field-0.items in
    let plays = c.play_overlapped-ran in
    let v = c.in-Player.player in
    let turns = at_ok plays.result.1 tt _ _ c.in_ok-turned.was
    (plays.ensures.turns.turns b p step.ready.can step.ahead) in
    let runs : RunsNext c.args.self.now.runner (runner.Player plays.new.player) c.args.portion made =
    player_runs c.args.self.now.runner v plays.new.player c.args.portion made c.in-Player.is plays.ensures.stays
    (subst (λ z. IfOk z (λ l. PlaysNext v plays.new.player c.args.portion (items_of l.items)))
    c.in_ok-self.ensures.play_result plays.ensures.plays) in
    let still : is_in_parts (runner.Player plays.new.player) ≡ true =
    ap is_some plays.ensures.stays.2 ∙ (sym (ap is_in_parts c.in-Player.is) ∙ c.requires.parts) in
    beside_on b p blocks c.args.self.now c.args.portion step (runner.Player plays.new.player) made
    runs still plays.new.flow
    (record plays.new.flow { made = c.in_ok-self.field-0 }) turns refl refl refl refl refl refl

pub returns-clause-left : goal.returns-clause-left
returns-clause-left g c =
    let h = c.requires.step in
    (at_ok c.play_overlapped-ran.result.1 tt _ _ c.in_ok-turned.was
    (c.play_overlapped-ran.ensures.turns.turns h.0 h.1 h.3.ready.can h.3.ahead)).left
