use Rattle.std.proofs.Common.{ap, ◌∙◌}
use Rattle.sdf_actor.specs.Wires.{lists as items_of}
use Rattle.sdf_process.specs.Output.{channel_samples_from}
use Rattle.sdf_process.proofs.Lists.{lists_more}
use Rattle.sdf_process.proofs.samples.channel_lists.Goals as goal

pub loop-channel-preserved : goal.loop-channel-preserved
loop-channel-preserved c =
    ap items_of c.in_ok-push.ensures.items
    ∙ lists_more (channel_samples_from c.args.input.now c.args.from c.args.len) c.loop-channel.channel
    c.loop-channel.all.items c.in_ok-channel_list.field-0 c.loop-channel.invariant c.in_ok-channel_list.ensures
