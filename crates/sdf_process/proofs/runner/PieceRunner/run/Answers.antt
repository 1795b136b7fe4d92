use Rattle.std.proofs.Common.{IfOk, subst}
use Rattle.std.proofs.lemmas.Result.{IfOk-weaker}
use Rattle.sdf_actor.specs.Wires.{lists as items_of}
use Rattle.sdf_process.specs.Streams.{PlaysNext}
use Rattle.sdf_process.proofs.Runs.{player_runs, session_runs}
use Rattle.sdf_process.proofs.runner.PieceRunner.run.Goals as goal

pub returns-in-Session-clause-runs : goal.returns-in-Session-clause-runs
returns-in-Session-clause-runs g c =
    IfOk-weaker c.feed_session.result _ _ (λ x. session_runs c.args.self.now _ _ c.args.portion (items_of x.items)
    c.in-Session.is) c.feed_session.ensures.runs

pub returns-in-Player-clause-runs : goal.returns-in-Player-clause-runs
returns-in-Player-clause-runs g c =
    let v = c.in-Player.player in
    IfOk-weaker c.play_result.result _ _ (λ x ran. player_runs c.args.self.now v c.run.new.self c.args.portion
    (items_of x.items) c.in-Player.is c.run.ensures.stays
    (subst (λ z. IfOk z (λ l. PlaysNext v c.run.new.self c.args.portion (items_of l.items))) ran
    c.run.ensures.plays)) c.play_result.ensures.play_result
