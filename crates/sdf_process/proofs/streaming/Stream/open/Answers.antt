use Rattle.std.proofs.Common.{refl, rules}
use Rattle.sdf_queues.proofs.Theorems.{nets_have_periods}
use Rattle.sdf_kit.specs.Kit.{kit_steps}
use Rattle.sdf_process.proofs.Starting.{goes_first}
use Rattle.sdf_process.proofs.streaming.Stream.open.Goals as goal

pub returns : goal.returns
returns c = λ r w.
    let x = c.of_net-io in
    goes_first c.args.opened c.requires.opened
    (nets_have_periods kit_steps c.args.opened.net.now x.ensures.accepted) c.args.opened_output
    c.requires.opened_output x.result
    x.ensures.value x.ensures.limits c.runs_go_on.ensures r w _ refl refl refl refl (search rules) (search rules) refl
    refl refl c.rate-rate.ensures.above_0 c.channels-channels.ensures.value c.channels-channels.ensures.few
