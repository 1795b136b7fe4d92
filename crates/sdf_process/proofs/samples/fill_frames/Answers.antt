use Rattle.std.proofs.Common.{◌≡◌, ◌+◌, ◌∙◌, [], ap, arith, length, take, get_or, pos}
use Rattle.std.specs.Int.{w16, saturate_signed}
use Rattle.sdf_actor.specs.Wires.{lists as items_of}
use Rattle.sdf_process.proofs.Channels.{channels_more, frames_filled, silent_rest}
use Rattle.sdf_process.proofs.Lists.{length-lists, list_read}
use Rattle.sdf_process.proofs.samples.fill_frames.Goals as goal

pub loop-channel-preserved : goal.loop-channel-preserved
loop-channel-preserved c =
    let xs = items_of c.args.lists.now in
    let here = c.loop-channel.channel in
    let within = c.loop-channel-test.true in
    let list : c.deref.result.now ≡ get_or xs here [] =
    c.deref.ensures.value
    ∙ list_read c.args.lists.now here c.index-lists-channel.result within c.index-lists-channel.is in
    let part = c.first_samples-part.ensures ∙ ap (take c.args.frames) list in
    record {
      put = channels_more xs c.args.frames (length c.args.lists.now) here c.loop-channel.samples
          c.put_channel.new.samples c.first_samples-part.result.now within part
          c.put_channel.ensures.put c.put_channel.ensures.kept c.loop-channel.invariant.put;
      silent = silent_rest (length c.args.lists.now) here c.loop-channel.samples c.put_channel.new.samples
          c.put_channel.ensures.kept c.loop-channel.invariant.silent;
    }

pub returns : goal.returns
returns c =
    let keeps : length c.loop-channel.samples ≡ length c.args.samples.now =
    omega (arith, c.loop-channel.auto.samples, c.fill.ensures.len) in
    let xs = items_of c.args.lists.now in
    frames_filled xs 0 c.args.frames (length c.args.lists.now)
    (length-lists c.args.lists.now) c.loop-channel.samples (keeps ∙ c.requires)
    (λ i e lt in_frame.
    let here : i ≡ 0 + i = omega arith in
    c.loop-channel.invariant.put i e lt (omega (arith, c.loop-channel-test.false, in_frame))
    ∙ ap (λ k. saturate_signed w16 (get_or (get_or xs e []) k (pos 0))) here)
