use Rattle.std.proofs.Common.{Err}
use Rattle.std.proofs.lemmas.Result.{err_from_is_err_and}
use Rattle.sdf_wav.proofs.Exact.{accepts, refuses}
use Rattle.sdf_wav.proofs.PiecesIn.{whole_answers, unopened_answers}
use Rattle.sdf_wav.proofs.reading.read_wav.Goals as goal

pub returns-in_err-content-clause-answers : goal.returns-in_err-content-clause-answers
returns-in_err-content-clause-answers g c =
    let p = err_from_is_err_and c.from_residual.result c.from_residual.ensures.1 in
    rw (p.1, p.2) (unopened_answers _ _ c.in_err-content.field-0.0 c.in_err-content.ensures.answers)

pub returns-in_err-content-clause-accepts : goal.returns-in_err-content-clause-accepts
returns-in_err-content-clause-accepts g c =
    let p = err_from_is_err_and c.from_residual.result c.from_residual.ensures.1 in
    rw (p.1, p.2) (accepts _ _ (Err c.in_err-content.field-0.0)
    (unopened_answers _ _ c.in_err-content.field-0.0 c.in_err-content.ensures.answers))

pub returns-in_err-content-clause-refuses : goal.returns-in_err-content-clause-refuses
returns-in_err-content-clause-refuses g c =
    let p = err_from_is_err_and c.from_residual.result c.from_residual.ensures.1 in
    rw (p.1, p.2) (refuses _ _ (Err c.in_err-content.field-0.0)
    (unopened_answers _ _ c.in_err-content.field-0.0 c.in_err-content.ensures.answers))

pub returns-clause-answers : goal.returns-clause-answers
returns-clause-answers g c =
    whole_answers _ _ _ c.in_ok-content.content c.read_content.result c.in_ok-content.ensures.sound
    c.in_ok-content.ensures.answers c.read_content.ensures.bytes c.read_content.ensures.format

pub returns-clause-accepts : goal.returns-clause-accepts
returns-clause-accepts g c = accepts _ _ c.read_content.result (returns-clause-answers g c)

pub returns-clause-refuses : goal.returns-clause-refuses
returns-clause-refuses g c = refuses _ _ c.read_content.result (returns-clause-answers g c)
