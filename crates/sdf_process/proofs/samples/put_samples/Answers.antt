use Rattle.std.proofs.Common.{◌∙◌, ℤ, ap, arith, get_or, length, pos, w16, w32, FitsSigned, rules}
use Rattle.std.specs.Int.{saturate_signed}
use Rattle.std.proofs.lemmas.Int.{to_z-of_z}
use Rattle.std.proofs.lemmas.Nat.{mul-add-lt}
use Rattle.sdf_process.proofs.Channels.{channel_more, other_channel}
use Rattle.sdf_process.proofs.samples.put_samples.Goals as goal

pub loop-at-preserved : goal.loop-at-preserved
loop-at-preserved c =
    let a = c.loop-at.at in
    let list = c.args.list.now in
    let sample : ℤ = get_or list a (pos 0) in
    let read : FitsSigned w32 sample = search rules in
    let written : FitsSigned w16 c.clamp_sample.result = record { sfits = c.clamp_sample.type_inv } in
    let place = mul-add-lt a c.args.channels c.args.channel (length list) c.loop-at-test.true c.requires.channel in
    record {
      put = channel_more c.loop-at.samples list c.args.channels c.args.channel a _ c.requires.channel
          (omega (arith, place, c.requires.room, c.loop-at.auto.samples))
          (to_z-of_z w16 c.clamp_sample.result written ∙ c.clamp_sample.ensures
          ∙ ap (saturate_signed w16) (to_z-of_z w32 sample read)) c.loop-at.invariant.put;
      kept = λ i e in_frame other. other_channel c.loop-at.samples c.args.channels c.args.channel a _ i e
          c.requires.channel in_frame other ∙ c.loop-at.invariant.kept i e in_frame other;
    }
