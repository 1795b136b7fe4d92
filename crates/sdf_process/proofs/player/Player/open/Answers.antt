use Rattle.std.proofs.Common.{arith}
use Rattle.sdf_queues.proofs.Theorems.{nets_have_facts}
use Rattle.sdf_kit.specs.Kit.{kit_steps}
use Rattle.sdf_process.proofs.Pieced.{first_stands}
use Rattle.sdf_process.proofs.player.Player.open.Goals as goal

pub returns-clause-stands : goal.returns-clause-stands
returns-clause-stands c = λ s.
    first_stands c.args.player_plan.net.now c.args.player_plan.period.now c.in_ok-rest.rest
    (nets_have_facts kit_steps c.args.player_plan.net.now c.requires.accepted).net
    (omega (arith, c.requires.accepted.1.lists.input)) c.requires.taken c.in_ok-rest.ensures s
