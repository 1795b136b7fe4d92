use Rattle.std.proofs.Common.{Ok, Err}
use Rattle.std.proofs.lemmas.Result.{err_from_is_err_and}
use Rattle.sdf_wav.proofs.Opens.{opening_answers, opening_accepts, opening_refuses}
use Rattle.sdf_wav.proofs.content_in.ContentIn.open.Goals as goal

pub returns-in_err-start-clause-answers : goal.returns-in_err-start-clause-answers
returns-in_err-start-clause-answers g c =
    let p = err_from_is_err_and c.from_residual.result c.from_residual.ensures.1 in
    rw (p.1, p.2) (opening_answers _ _ (Err c.in_err-start.field-0.0) c.in_err-start.ensures.bytes)

pub returns-in_err-start-clause-accepts : goal.returns-in_err-start-clause-accepts
returns-in_err-start-clause-accepts g c =
    let p = err_from_is_err_and c.from_residual.result c.from_residual.ensures.1 in
    rw (p.1, p.2) (opening_accepts _ _ (Err c.in_err-start.field-0.0) c.in_err-start.ensures.bytes)

pub returns-in_err-start-clause-refuses : goal.returns-in_err-start-clause-refuses
returns-in_err-start-clause-refuses g c =
    let p = err_from_is_err_and c.from_residual.result c.from_residual.ensures.1 in
    rw (p.1, p.2) (opening_refuses _ _ (Err c.in_err-start.field-0.0) c.in_err-start.ensures.bytes)

pub returns-clause-answers : goal.returns-clause-answers
returns-clause-answers g c = opening_answers _ _ (Ok c.in_ok-start.start) c.in_ok-start.ensures.bytes

pub returns-clause-accepts : goal.returns-clause-accepts
returns-clause-accepts g c = opening_accepts _ _ (Ok c.in_ok-start.start) c.in_ok-start.ensures.bytes

pub returns-clause-refuses : goal.returns-clause-refuses
returns-clause-refuses g c = opening_refuses _ _ (Ok c.in_ok-start.start) c.in_ok-start.ensures.bytes
