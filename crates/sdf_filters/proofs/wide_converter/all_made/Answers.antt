use Rattle.std.proofs.Common.{rules, length, refl}
use Rattle.std.proofs.lemmas.Option.{slice_get_read}
use Rattle.sdf_filters.proofs.WideStages.{made_none, made_more}
use Rattle.sdf_filters.proofs.wide_converter.all_made.Goals as goal

pub loop-place-init : goal.loop-place-init
loop-place-init c =
    made_none c.args.stages.now c.new-wides.result.items c.new-files.result.items c.new-wides.ensures.items
    c.new-files.ensures.items

pub loop-place-preserved : goal.loop-place-preserved
loop-place-preserved c =
    made_more c.args.stages.now c.loop-place.place c.loop-place.late c.in_ok-after.after.frames _ _
    c.loop-place.wides.items c.push.new.self.items c.loop-place.files.items c.push-in-loop-place.new.self.items
    c.push-in-loop-place-2.new.self.items c.index-stages-place.result c.in_ok-made.made.wide c.in_ok-made.made.high
    c.in_ok-made.made.low c.loop-place.invariant.0 c.loop-place.invariant.1
    (slice_get_read c.args.stages.now (length c.args.stages.now) c.loop-place.place c.index-stages-place.result refl
    (search rules) c.index-stages-place.is)
    c.in_ok-made.ensures.made c.in_ok-made.ensures.taps c.in_ok-made.ensures.zeros c.in_ok-after.ensures
    c.in_ok-push.ensures.items c.in_ok-push-2.ensures.items c.in_ok-push-3.ensures.items
