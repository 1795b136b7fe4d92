-- What a runner runs next, by what its session or its player does.
use Rattle.std.proofs.Common.{◌≡◌, ℤ, List, Some, subst}
use Rattle.sdf_kit.specs.declared.kit.Kit.{Kit}
use Rattle.sdf_run.specs.Sessions.{SessionValue}
use Rattle.sdf_process.specs.declared.player.Player.{Player}
use Rattle.sdf_process.specs.declared.portion.Portion.{Portion}
use Rattle.sdf_process.specs.declared.runner.PieceRunner.{PieceRunner}
use Rattle.sdf_process.specs.declared.runner.PieceRunner.TheVariants as runner
use Rattle.sdf_process.specs.Streams.{FeedsNext, Follows, GoesBy, Makes, PlaysNext, RunsNext, StaysPlayer, left_by}
use Rattle.sdf_process.proofs.Pieced.{from_player, plays_still, to_player}

pub session_runs : (r : PieceRunner) (v w : SessionValue Kit (List ℤ) ℤ) (y : Portion) (made : List (List ℤ)) →
    r ≡ runner.Session v → FeedsNext v w y made → RunsNext r (runner.Session w) y made
session_runs r v w y made is feeds = λ n p j s few blocks bytes by can follows.
    feeds n p j s few blocks bytes (subst (GoesBy n p j) is by) can
    (subst (λ (z : PieceRunner). Follows n p j s few blocks bytes (left_by z) y) is follows)

pub player_runs : (r : PieceRunner) (v w : Player) (y : Portion) (made : List (List ℤ)) →
    r ≡ runner.Player v → StaysPlayer v w → PlaysNext v w y made → RunsNext r (runner.Player w) y made
player_runs r v w y made is stays runs = λ n p j s few blocks bytes by can follows.
    let plays = subst (GoesBy n p j) is by in
    let own = subst (λ (z : PieceRunner). Follows n p j s few blocks bytes (left_by z) y) is follows in (
      from_player n p j v plays (λ m q. Makes m q j s few blocks y.frames bytes made (Some w.rest))
          (runs j s few blocks bytes
          (to_player n p j v plays (λ m q. Follows m q j s few blocks bytes (Some v.rest) y) own)),
      plays_still n p j v w plays stays,
    )
