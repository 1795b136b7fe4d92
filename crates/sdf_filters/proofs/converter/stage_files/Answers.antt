use Rattle.std.proofs.Common.{rules, arith, ap, refl, length, inl, ◌+◌}
use Rattle.std.proofs.lemmas.Option.{slice_get_read}
use Rattle.std.proofs.lemmas.Result.{err_from_is_err_and}
use Rattle.sdf_filters.specs.declared.fault.FilterFault.TheVariants.{OutOfMemory}
use Rattle.sdf_filters.proofs.Files.{no_files, file_added, stage_fails, filter_fails, memory_fails}
use Rattle.sdf_filters.proofs.converter.stage_files.Goals as goal

pub loop-place-init : goal.loop-place-init
loop-place-init c =
    no_files c.args.from c.args.pass c.args.attenuation c.args.stages.now c.new-files.result.items
    (ap length c.new-files.ensures.items)

pub loop-place-preserved : goal.loop-place-preserved
loop-place-preserved c =
    file_added c.args.from c.args.pass c.args.attenuation c.args.stages.now c.loop-place.files.items
    c.push.new.self.items c.loop-place.place c.loop-place.rate c.index-stages-place.result c.in_ok-wanted.wanted
    c.in_ok-file.file c.loop-place.invariant.0 c.loop-place.invariant.1.0 c.loop-place.invariant.1.1
    (slice_get_read c.args.stages.now (length c.args.stages.now) c.loop-place.place c.index-stages-place.result refl
    (search rules) c.index-stages-place.is)
    c.in_ok-wanted.ensures c.in_ok-file.ensures c.in_ok-push.ensures.items

pub returns-in_err-wanted : goal.returns-in_err-wanted
returns-in_err-wanted c =
    let p = err_from_is_err_and c.from_residual.result c.from_residual.ensures.1 in
    rw (p.1, p.2) (stage_fails c.args.from c.args.pass c.args.attenuation c.args.stages.now c.loop-place.files.items
    c.loop-place.place c.loop-place.rate c.index-stages-place.result c.in_err-wanted.field-0.0
    c.loop-place.invariant.1.0 c.loop-place.invariant.1.1
    (slice_get_read c.args.stages.now (length c.args.stages.now) c.loop-place.place c.index-stages-place.result refl
    (search rules) c.index-stages-place.is)
    (inl c.in_err-wanted.ensures))

pub returns-in_err-file : goal.returns-in_err-file
returns-in_err-file c =
    let p = err_from_is_err_and c.from_residual-in_err-file.result c.from_residual-in_err-file.ensures.1 in
    rw (p.1, p.2) (stage_fails c.args.from c.args.pass c.args.attenuation c.args.stages.now c.loop-place.files.items
    c.loop-place.place c.loop-place.rate c.index-stages-place.result c.in_err-file.field-0.0
    c.loop-place.invariant.1.0 c.loop-place.invariant.1.1
    (slice_get_read c.args.stages.now (length c.args.stages.now) c.loop-place.place c.index-stages-place.result refl
    (search rules) c.index-stages-place.is)
    (filter_fails c.loop-place.rate c.args.pass c.args.attenuation c.index-stages-place.result c.in_ok-wanted.wanted
    c.in_err-file.field-0.0 c.in_ok-wanted.ensures (omega arith) c.in_err-file.ensures))

pub returns-in_err-push : goal.returns-in_err-push
returns-in_err-push c =
    let p = err_from_is_err_and c.from_residual-in_err-push.result c.from_residual-in_err-push.ensures.1 in
    rw (p.1, p.2) (stage_fails c.args.from c.args.pass c.args.attenuation c.args.stages.now c.loop-place.files.items
    c.loop-place.place c.loop-place.rate c.index-stages-place.result OutOfMemory
    c.loop-place.invariant.1.0 c.loop-place.invariant.1.1
    (slice_get_read c.args.stages.now (length c.args.stages.now) c.loop-place.place c.index-stages-place.result refl
    (search rules) c.index-stages-place.is)
    (memory_fails c.loop-place.rate c.args.pass c.args.attenuation (c.loop-place.place + 1)
    c.index-stages-place.result c.in_ok-wanted.wanted c.in_ok-file.file c.in_ok-wanted.ensures c.in_ok-file.ensures))
