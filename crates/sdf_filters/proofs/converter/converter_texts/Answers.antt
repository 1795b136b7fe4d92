use Rattle.std.proofs.Common.{rules, ◌≡◌, Ok}
use Rattle.std.proofs.lemmas.Result.{err_from_is_err_and}
use Rattle.sdf_filters.specs.Converters.{channels_test, passed, IsStagesFault, stage}
use Rattle.sdf_filters.proofs.converter.converter_texts.Goals as goal

pub returns-in_err-files : goal.returns-in_err-files
returns-in_err-files c =
    let p = err_from_is_err_and c.from_residual-in_err-files.result c.from_residual-in_err-files.ensures.1 in
    let allowed : channels_test c.args.channels ≡ Ok tt = search rules in
    let fault : IsStagesFault c.args.from (passed c.args.from c.args.to) c.args.attenuation c.in_ok-stages.stages.items
    c.in_err-files.field-0.0 = search rules in
    rw (p.1, p.2) (stage allowed c.in_ok-stages.stages.items c.in_ok-stages.ensures fault)
